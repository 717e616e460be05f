-- k bits at once, for any k and once over the width: the remainder moved up k places, and the remainder from 0 of the k
-- bits that pass out added to those that come. By linearity it is enough to show it for k zeros, bit after bit.
-- So a remainder that is fed its own w bits leaves 0.
-- Assumes nothing.
use mathlib.Core.Path.{◌≡◌, refl, sym, ap, ap₂, ◌∙◌}
use mathlib.Core.Bool.{Bool, true, false, xor}
use Prim.Native.Nat.{ℕ, zero, suc, ◌+◌, ◌*◌, ◌/◌, ◌%◌, ◌^◌, ◌<◌}
use native.Mathlib.Nat.{mod-lt, mod-eq_of_lt, zero-mod, zero-div, mul-one, mul_assoc, mul_comm, pow-suc, div-add-mod', add-mul, mul-add-div_right, mul-add-mod_self_right, mul_right_comm, mul-mod_left, mul-div_cancel, div-lt_iff_lt-mul, mul-lt-mul_of_pos_right}
use lib.ListN.{replicate}
use lib.Pow.{pow_pos}
use Rattle.laws.specs.Bits.{◌⊕◌, odd, bits_of}
use Rattle.laws.proofs.Xor.{zero_xor, xor-zero, xor_same, xor_comm, xor_assoc}
use Rattle.laws.proofs.Bits.{bits_top, bits_zeros, bits_of-zero}
use Rattle.pec.specs.Remainder.{once, step, remainder}
use Rattle.pec.proofs.Remainder.{remainder_append, remainder_bits_linear}

-- ---- zeros from 0

once-not : (g : ℕ) → once false g ≡ 0
unfolding once
once-not g = refl

step-from-zero : (w g : ℕ) (b : Bool) → step w g 0 b ≡ once b g
unfolding step odd xor
step-from-zero w g true = rw (zero-mod, zero-div, zero_xor)
step-from-zero w g false = rw (zero-mod, zero-div, zero_xor)

pub remainder_of_zeros : (w g k : ℕ) → remainder w g 0 (replicate k false) ≡ 0
unfolding remainder
remainder_of_zeros w g zero = refl
remainder_of_zeros w g (suc k) =
    ap (λ (r : ℕ). remainder w g r (replicate k false)) (step-from-zero w g false ∙ once-not g) ∙ remainder_of_zeros w g k

-- zeros in front of a number of k bits leave 0
pub zeros_first : (w g j k : ℕ) {x : ℕ} → x < 2 ^ k → remainder w g 0 (bits_of (j + k) x) ≡ remainder w g 0 (bits_of k x)
zeros_first w g j k {x} h =
    ap (remainder w g 0) (bits_zeros j k h)
    ∙ remainder_append w g 0 (replicate j false) (bits_of k x)
    ∙ ap (λ (r : ℕ). remainder w g r (bits_of k x)) (remainder_of_zeros w g j)

-- ---- moved up

-- what passes out of the w places is k bits
pub over_below : (w k : ℕ) {r : ℕ} → r < 2 ^ w → r * 2 ^ k / 2 ^ w < 2 ^ k
over_below w k {r} h = (div-lt_iff_lt-mul (pow_pos w)).1 (rw (mul_comm (2 ^ k) (2 ^ w)) (mul-lt-mul_of_pos_right h (pow_pos k)))

-- one place, and then k
up : (w k r : ℕ) → r * 2 ^ suc k ≡ (r * 2 / 2 ^ w) * 2 ^ k * 2 ^ w + (r * 2 % 2 ^ w) * 2 ^ k
up w k r =
    ap (λ (n : ℕ). r * n) (pow-suc 2 k ∙ mul_comm (2 ^ k) 2) ∙ sym (mul_assoc r 2 (2 ^ k))
    ∙ ap (λ (n : ℕ). n * 2 ^ k) (sym (div-add-mod' (r * 2) (2 ^ w)))
    ∙ add-mul ((r * 2 / 2 ^ w) * 2 ^ w) (r * 2 % 2 ^ w) (2 ^ k)
    ∙ ap (λ (n : ℕ). n + (r * 2 % 2 ^ w) * 2 ^ k) (mul_right_comm (r * 2 / 2 ^ w) (2 ^ w) (2 ^ k))

up_over : (w k r : ℕ) → r * 2 ^ suc k / 2 ^ w ≡ (r * 2 / 2 ^ w) * 2 ^ k + (r * 2 % 2 ^ w) * 2 ^ k / 2 ^ w
up_over w k r = ap (λ (n : ℕ). n / 2 ^ w) (up w k r) ∙ mul-add-div_right (pow_pos w) ((r * 2 / 2 ^ w) * 2 ^ k) ((r * 2 % 2 ^ w) * 2 ^ k)

up_low : (w k r : ℕ) → r * 2 ^ suc k % 2 ^ w ≡ (r * 2 % 2 ^ w) * 2 ^ k % 2 ^ w
up_low w k r = ap (λ (n : ℕ). n % 2 ^ w) (up w k r) ∙ mul-add-mod_self_right ((r * 2 / 2 ^ w) * 2 ^ k) (2 ^ w) ((r * 2 % 2 ^ w) * 2 ^ k)

xor-false : (b : Bool) → xor b false ≡ b
unfolding xor
xor-false true = refl
xor-false false = refl

step-zero_bit : (w g r : ℕ) → step w g r false ≡ (r * 2 % 2 ^ w) ⊕ once (odd (r * 2 / 2 ^ w)) g
unfolding step
step-zero_bit w g r = ap (λ (b : Bool). (r * 2 % 2 ^ w) ⊕ once b g) (xor-false (odd (r * 2 / 2 ^ w)))

-- a start and the k bits of a number, added
added : (w g r k x : ℕ) → remainder w g r (bits_of k x) ≡ remainder w g r (bits_of k 0) ⊕ remainder w g 0 (bits_of k x)
added w g r k x =
    ap₂ (λ (s y : ℕ). remainder w g s (bits_of k y)) (sym (xor-zero r)) (sym (zero_xor x)) ∙ remainder_bits_linear w g r 0 k 0 x

odd-zero : odd 0 ≡ false
unfolding odd
odd-zero = refl

-- the first of k + 1 zeros: l stays of the remainder, and t passes out
module _ (w g k r l t : ℕ) where
  first-zero : l ≡ r * 2 % 2 ^ w → t ≡ r * 2 / 2 ^ w
      → remainder w g r (bits_of (suc k) 0) ≡ remainder w g l (bits_of k 0) ⊕ remainder w g (once (odd t) g) (bits_of k 0)
  unfolding remainder bits_of
  first-zero hl ht =
      ap (λ (b : Bool). remainder w g (step w g r b) (bits_of k 0)) (ap odd (zero-div (2 ^ k)) ∙ odd-zero)
      ∙ ap (λ (s : ℕ). remainder w g s (bits_of k 0)) (step-zero_bit w g r ∙ ap₂ (λ (x y : ℕ). x ⊕ once (odd y) g) (sym hl) (sym ht))
      ∙ ap (λ (x : ℕ). remainder w g (l ⊕ once (odd t) g) (bits_of k x)) (sym (zero_xor 0))
      ∙ remainder_bits_linear w g l (once (odd t) g) k 0 0

-- t and k bits x after it, from 0
first_bit : (w g k t : ℕ) {x : ℕ} → x < 2 ^ k
    → remainder w g 0 (bits_of (suc k) (t * 2 ^ k + x)) ≡ remainder w g (once (odd t) g) (bits_of k 0) ⊕ remainder w g 0 (bits_of k x)
unfolding remainder
first_bit w g k t {x} h =
    ap (remainder w g 0) (bits_top k t h)
    ∙ ap (λ (s : ℕ). remainder w g s (bits_of k x)) (step-from-zero w g (odd t))
    ∙ added w g (once (odd t) g) k x

zeros : (w g k : ℕ) {r : ℕ} → r < 2 ^ w
    → remainder w g r (bits_of k 0) ≡ (r * 2 ^ k % 2 ^ w) ⊕ remainder w g 0 (bits_of k (r * 2 ^ k / 2 ^ w))
unfolding remainder bits_of
zeros w g zero {r} h = sym (ap (λ (n : ℕ). n ⊕ 0) (ap (λ (n : ℕ). n % 2 ^ w) (mul-one r) ∙ mod-eq_of_lt h) ∙ xor-zero r)
zeros w g (suc k) {r} h =
    let l = r * 2 % 2 ^ w in
    let t = r * 2 / 2 ^ w in
    let out = remainder w g (once (odd t) g) (bits_of k 0) in
    let rest = remainder w g 0 (bits_of k (l * 2 ^ k / 2 ^ w)) in
    let below = mod-lt (r * 2) (pow_pos w) in
    first-zero w g k r l t refl refl
    ∙ ap (λ (x : ℕ). x ⊕ out) (zeros w g k below)
    ∙ xor_assoc (l * 2 ^ k % 2 ^ w) rest out
    ∙ ap₂ ◌⊕◌ (sym (up_low w k r)) (xor_comm rest out ∙ sym (ap (λ (x : ℕ). remainder w g 0 (bits_of (suc k) x)) (up_over w k r) ∙ first_bit w g k t (over_below w k below)))

-- ---- the laws

-- from a start it is that from 0, and what the start leaves of zeros
pub from_start : (w g r k x : ℕ) → remainder w g 0 (bits_of k x) ⊕ remainder w g r (bits_of k 0) ≡ remainder w g r (bits_of k x)
from_start w g r k x = xor_comm (remainder w g 0 (bits_of k x)) (remainder w g r (bits_of k 0)) ∙ sym (added w g r k x)

pub many_bits : (w g k x : ℕ) {r : ℕ} → r < 2 ^ w
    → remainder w g r (bits_of k x) ≡ (r * 2 ^ k % 2 ^ w) ⊕ remainder w g 0 (bits_of k ((r * 2 ^ k / 2 ^ w) ⊕ x))
many_bits w g k x {r} h =
    let low = r * 2 ^ k % 2 ^ w in
    let over = r * 2 ^ k / 2 ^ w in
    added w g r k x
    ∙ ap (λ (n : ℕ). n ⊕ remainder w g 0 (bits_of k x)) (zeros w g k h)
    ∙ xor_assoc low (remainder w g 0 (bits_of k over)) (remainder w g 0 (bits_of k x))
    ∙ ap (λ (n : ℕ). low ⊕ n) (sym (ap (λ (s : ℕ). remainder w g s (bits_of k (over ⊕ x))) (sym (zero_xor 0)) ∙ remainder_bits_linear w g 0 0 k over x))

pub own_bits : (w g : ℕ) {r : ℕ} → r < 2 ^ w → remainder w g r (bits_of w r) ≡ 0
own_bits w g {r} h =
    many_bits w g w r h
    ∙ ap₂ (λ (m n : ℕ). m ⊕ remainder w g 0 (bits_of w (n ⊕ r))) (mul-mod_left r (2 ^ w)) (mul-div_cancel r (pow_pos w))
    ∙ zero_xor (remainder w g 0 (bits_of w (r ⊕ r)))
    ∙ ap (λ (n : ℕ). remainder w g 0 (bits_of w n)) (xor_same r)
    ∙ ap (remainder w g 0) (bits_of-zero w)
    ∙ remainder_of_zeros w g w
