-- The laws of a remainder, each once over the width w: it stays below 2^w, goes on over a longer string, and is linear.
-- From linearity: k bits at once, the remainder's own bits leave 0, and a step can be undone.
-- Assumes nothing.
use mathlib.Core.Path.{◌≡◌, refl, sym, ap, ap₂, ◌∙◌}
use mathlib.Core.Bool.{Bool, true, false, xor}
use mathlib.Core.List.{List, [], ◌∷◌, ◌++◌}
use Prim.Native.Nat.{ℕ, suc, ◌+◌, ◌-◌, ◌*◌, ◌/◌, ◌%◌, ◌^◌, ◌≤◌, ◌<◌}
use native.Mathlib.Nat.{mod-lt}
use native.Mathlib.Omega.{arith}
use lib.Arith.{le-zero}
use lib.ListN.{length, get_or, drop, drop_of_length-le}
use lib.Seq.{drop-cons}
use native.Mathlib.Numerals.{add-one}
use lib.Pow.{pow_pos}
use borrow.Author.Tests.{eq-eqb, ne_eqb}
use Rattle.laws.specs.Bits.{◌⊕◌, odd, bits_of, bits_of_bytes, xor_bits}
use Rattle.laws.proofs.Xor.{zero_xor, xor-zero, xor_same, xor_below, xor-div, xor_rem, xor-middle, xor_shift, odd-xor}
use Rattle.laws.proofs.Bits.{length_bits, bits_xor}
use Rattle.pec.specs.Remainder.{once, step, remainder}

-- ---- it stays below 2^w

once-below : (w : ℕ) (b : Bool) {g : ℕ} → g < 2 ^ w → once b g < 2 ^ w
unfolding once
once-below w true h = h
once-below w false h = pow_pos w

pub step-below : (w : ℕ) {g : ℕ} (r : ℕ) (b : Bool) → g < 2 ^ w → step w g r b < 2 ^ w
unfolding step
step-below w r b h = xor_below w (mod-lt (r * 2) (pow_pos w)) (once-below w (xor (odd (r * 2 / 2 ^ w)) b) h)

pub remainder-below : (w : ℕ) {g r : ℕ} (bs : List Bool) → g < 2 ^ w → r < 2 ^ w → remainder w g r bs < 2 ^ w
unfolding remainder
remainder-below w [] hg hr = hr
remainder-below w {g = g} {r = r} (b ∷ bs) hg hr = remainder-below w {r = step w g r b} bs hg (step-below w r b hg)

-- ---- over a longer string

pub remainder_append : (w g r : ℕ) (bs cs : List Bool) → remainder w g r (bs ++ cs) ≡ remainder w g (remainder w g r bs) cs
unfolding remainder
remainder_append w g r [] cs = refl
remainder_append w g r (b ∷ bs) cs = remainder_append w g (step w g r b) bs cs

-- ---- it is linear

once-xor : (b c : Bool) (g : ℕ) → once (xor b c) g ≡ once b g ⊕ once c g
unfolding once xor
once-xor true true g = sym (xor_same g)
once-xor true false g = sym (xor-zero g)
once-xor false true g = sym (zero_xor g)
once-xor false false g = sym (zero_xor 0)

xor_bool_middle : (a b c d : Bool) → xor (xor a b) (xor c d) ≡ xor (xor a c) (xor b d)
unfolding xor
xor_bool_middle true true true true = refl
xor_bool_middle true true true false = refl
xor_bool_middle true true false true = refl
xor_bool_middle true true false false = refl
xor_bool_middle true false true true = refl
xor_bool_middle true false true false = refl
xor_bool_middle true false false true = refl
xor_bool_middle true false false false = refl
xor_bool_middle false true true true = refl
xor_bool_middle false true true false = refl
xor_bool_middle false true false true = refl
xor_bool_middle false true false false = refl
xor_bool_middle false false true true = refl
xor_bool_middle false false true false = refl
xor_bool_middle false false false true = refl
xor_bool_middle false false false false = refl

-- moved up, the parts of a sum are those of its summands
module _ (w k r s : ℕ) where
  low_xor : (r ⊕ s) * 2 ^ k % 2 ^ w ≡ (r * 2 ^ k % 2 ^ w) ⊕ (s * 2 ^ k % 2 ^ w)
  low_xor = ap (λ (n : ℕ). n % 2 ^ w) (sym (xor_shift k r s)) ∙ xor_rem (r * 2 ^ k) (s * 2 ^ k) w

  over_xor : (r ⊕ s) * 2 ^ k / 2 ^ w ≡ (r * 2 ^ k / 2 ^ w) ⊕ (s * 2 ^ k / 2 ^ w)
  over_xor = ap (λ (n : ℕ). n / 2 ^ w) (sym (xor_shift k r s)) ∙ xor-div (r * 2 ^ k) (s * 2 ^ k) w

pub step_linear : (w g r s : ℕ) (b c : Bool) → step w g (r ⊕ s) (xor b c) ≡ step w g r b ⊕ step w g s c
unfolding step
step_linear w g r s b c =
    ap₂ ◌⊕◌ (low_xor w 1 r s)
    (ap (λ (x : Bool). once (xor x (xor b c)) g) (ap odd (over_xor w 1 r s) ∙ odd-xor (r * 2 / 2 ^ w) (s * 2 / 2 ^ w))
    ∙ ap (λ (x : Bool). once x g) (xor_bool_middle (odd (r * 2 / 2 ^ w)) (odd (s * 2 / 2 ^ w)) b c)
    ∙ once-xor (xor (odd (r * 2 / 2 ^ w)) b) (xor (odd (s * 2 / 2 ^ w)) c) g)
    ∙ xor-middle (r * 2 % 2 ^ w) (s * 2 % 2 ^ w) (once (xor (odd (r * 2 / 2 ^ w)) b) g) (once (xor (odd (s * 2 / 2 ^ w)) c) g)

pub remainder_linear : (w g r s : ℕ) (bs cs : List Bool) → length bs ≡ length cs
    → remainder w g (r ⊕ s) (xor_bits bs cs) ≡ remainder w g r bs ⊕ remainder w g s cs
unfolding remainder xor_bits
remainder_linear w g r s [] [] h = refl
remainder_linear w g r s [] (c ∷ cs) h = absurd (omega arith)
remainder_linear w g r s (b ∷ bs) [] h = absurd (omega arith)
remainder_linear w g r s (b ∷ bs) (c ∷ cs) h =
    ap (λ (x : ℕ). remainder w g x (xor_bits bs cs)) (step_linear w g r s b c)
    ∙ remainder_linear w g (step w g r b) (step w g s c) bs cs (omega arith)

-- the same for the k low bits of two numbers
pub remainder_bits_linear : (w g r s k a b : ℕ) → remainder w g (r ⊕ s) (bits_of k (a ⊕ b)) ≡ remainder w g r (bits_of k a) ⊕ remainder w g s (bits_of k b)
remainder_bits_linear w g r s k a b =
    ap (remainder w g (r ⊕ s)) (bits_xor k a b)
    ∙ remainder_linear w g r s (bits_of k a) (bits_of k b) (length_bits k a ∙ sym (length_bits k b))

-- ---- as the code takes it: the bit is the last of x, and the test is one on a sum

module _ (w g r x : ℕ) where
  pub step-taken : ((r * 2 / 2 ^ w) ⊕ x) % 2 ≡ 1 → step w g r (odd x) ≡ (r * 2 % 2 ^ w) ⊕ g
  unfolding step once odd
  step-taken h = ap (λ (b : Bool). (r * 2 % 2 ^ w) ⊕ once b g) (sym (odd-xor (r * 2 / 2 ^ w) x) ∙ eq-eqb (((r * 2 / 2 ^ w) ⊕ x) % 2) 1 h)

  pub step_left : (((r * 2 / 2 ^ w) ⊕ x) % 2 ≡ 1 → ⊥) → step w g r (odd x) ≡ r * 2 % 2 ^ w
  unfolding step once odd
  step_left h =
      ap (λ (b : Bool). (r * 2 % 2 ^ w) ⊕ once b g) (sym (odd-xor (r * 2 / 2 ^ w) x) ∙ ne_eqb (((r * 2 / 2 ^ w) ⊕ x) % 2) 1 h)
      ∙ xor-zero (r * 2 % 2 ^ w)

-- ---- as a loop takes it: the next of the k bits that are left, and the next of the bytes that are left

pub next_bit : (w g r k x : ℕ) → 0 < k → remainder w g (step w g r (odd (x / 2 ^ (k - 1)))) (bits_of (k - 1) x) ≡ remainder w g r (bits_of k x)
unfolding remainder bits_of
next_bit w g r k x h =
    let one_less : suc (k - 1) ≡ k = omega arith in
    ap (λ (n : ℕ). remainder w g r (bits_of n x)) one_less

pub next_byte : (w g r i : ℕ) (bytes : List ℕ) → i < length bytes
    → remainder w g (remainder w g r (bits_of 8 (get_or bytes i 0))) (bits_of_bytes (drop (i + 1) bytes)) ≡ remainder w g r (bits_of_bytes (drop i bytes))
unfolding bits_of_bytes
next_byte w g r i bytes h =
    sym (ap (λ (bs : List ℕ). remainder w g r (bits_of_bytes bs)) (drop-cons bytes i 0 h ∙ ap (λ (n : ℕ). get_or bytes i 0 ∷ drop n bytes) (sym (add-one i)))
    ∙ first_of_bytes)
  where
    first_of_bytes : remainder w g r (bits_of_bytes (get_or bytes i 0 ∷ drop (i + 1) bytes))
        ≡ remainder w g (remainder w g r (bits_of 8 (get_or bytes i 0))) (bits_of_bytes (drop (i + 1) bytes))
    first_of_bytes = remainder_append w g r (bits_of 8 (get_or bytes i 0)) (bits_of_bytes (drop (i + 1) bytes))

pub no_bit : (w g r k x : ℕ) → k ≤ 0 → r ≡ remainder w g r (bits_of k x)
unfolding remainder bits_of
no_bit w g r k x h = ap (λ (n : ℕ). remainder w g r (bits_of n x)) (sym (le-zero h))

pub no_byte : (w g r i : ℕ) (bytes : List ℕ) → length bytes ≤ i → r ≡ remainder w g r (bits_of_bytes (drop i bytes))
unfolding remainder bits_of_bytes
no_byte w g r i bytes h = ap (λ (bs : List ℕ). remainder w g r (bits_of_bytes bs)) (sym (drop_of_length-le bytes h))
