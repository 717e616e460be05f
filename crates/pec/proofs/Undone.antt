-- A step can be undone where the polynomial ends in 1: the bit that a step leaves last tells whether the polynomial was
-- taken away. So from different remainders the same bits lead to different remainders.
-- Assumes nothing.
use mathlib.Core.Path.{◌≡◌, refl, sym, ap, ap₂, ◌∙◌}
use mathlib.Core.Bool.{Bool, true, false, xor}
use mathlib.Core.List.{List, [], ◌∷◌}
use Prim.Native.Nat.{ℕ, zero, suc, ◌+◌, ◌*◌, ◌/◌, ◌%◌, ◌^◌, ◌<◌}
use native.Mathlib.Nat.{mul-div_cancel, mul-mod_left, zero-mul, one-mul, div-add-mod'}
use native.Mathlib.Numerals.{add-one}
use native.Mathlib.Omega.{arith}
use lib.Dec.{eqb}
use lib.Pow.{mod-mod-pow}
use Rattle.laws.specs.Bits.{◌⊕◌, odd, bits_of}
use Rattle.laws.proofs.Xor.{xor_twice, odd-xor}
use Rattle.laws.proofs.Tests.{same_test}
use Rattle.pec.specs.Remainder.{once, step, remainder, step_back}
use Rattle.pec.proofs.Remainder.{step-below}
use Rattle.pec.proofs.ManyBits.{over_below, own_bits}

-- moved up one place, a remainder ends in 0
ends_in_zero : (w r : ℕ) → odd (r * 2 % 2 ^ suc w) ≡ false
unfolding odd
ends_in_zero w r =
    ap (λ (n : ℕ). eqb n 1) (ap (λ (n : ℕ). r * 2 % 2 ^ n % 2) (sym (add-one w)) ∙ mod-mod-pow (r * 2) w 1 ∙ mul-mod_left r 2)

odd-once : (b : Bool) (g : ℕ) → odd g ≡ true → odd (once b g) ≡ b
unfolding once odd
odd-once true g h = h
odd-once false g h = refl

xor_bool_twice : (a b : Bool) → xor (xor a b) b ≡ a
unfolding xor
xor_bool_twice true true = refl
xor_bool_twice true false = refl
xor_bool_twice false true = refl
xor_bool_twice false false = refl

false-xor : (b : Bool) → xor false b ≡ b
unfolding xor
false-xor true = refl
false-xor false = refl

once_bit : (t n : ℕ) → t < 2 → once (odd t) n ≡ t * n
unfolding once odd
once_bit zero n h = sym (zero-mul n)
once_bit (suc zero) n h = sym (one-mul n)
once_bit (suc (suc t)) n h = absurd (omega arith)

module _ (w g r : ℕ) (b : Bool) (ends : odd g ≡ true) where
  -- the bit that a step leaves last tells whether the polynomial was taken away
  last : odd (step (suc w) g r b) ≡ xor (odd (r * 2 / 2 ^ suc w)) b
  unfolding step
  last =
      let taken = xor (odd (r * 2 / 2 ^ suc w)) b in
      odd-xor (r * 2 % 2 ^ suc w) (once taken g)
      ∙ ap₂ xor (ends_in_zero w r) (odd-once taken g ends)
      ∙ false-xor taken

  -- and taken away again it leaves what moved up
  back : step (suc w) g r b ⊕ once (xor (odd (r * 2 / 2 ^ suc w)) b) g ≡ r * 2 % 2 ^ suc w
  unfolding step
  back = xor_twice (r * 2 % 2 ^ suc w) (once (xor (odd (r * 2 / 2 ^ suc w)) b) g)

  pub step_undone : r < 2 ^ suc w → step_back (suc w) g (step (suc w) g r b) b ≡ r
  unfolding step_back
  step_undone h =
      let out = r * 2 / 2 ^ suc w in
      let s = step (suc w) g r b in
      ap (λ (x : Bool). (once (xor x b) (2 ^ suc w) + (s ⊕ once x g)) / 2) last
      ∙ ap (λ (n : ℕ). n / 2)
      (ap₂ ◌+◌
      (ap (λ (x : Bool). once x (2 ^ suc w)) (xor_bool_twice (odd out) b) ∙ once_bit out (2 ^ suc w) (over_below (suc w) 1 h))
      back
      ∙ div-add-mod' (r * 2) (2 ^ suc w))
      ∙ mul-div_cancel r (omega arith)

-- different remainders stay different
pub remainder_injective : (w g r s : ℕ) (bs : List Bool) → odd g ≡ true → g < 2 ^ suc w → r < 2 ^ suc w → s < 2 ^ suc w
    → remainder (suc w) g r bs ≡ remainder (suc w) g s bs → r ≡ s
unfolding remainder
remainder_injective w g r s [] ends hg hr hs e = e
remainder_injective w g r s (b ∷ bs) ends hg hr hs e =
    sym (step_undone w g r b ends hr)
    ∙ ap (λ (x : ℕ). step_back (suc w) g x b)
    (remainder_injective w g (step (suc w) g r b) (step (suc w) g s b) bs ends hg (step-below (suc w) r b hg) (step-below (suc w) s b hg) e)
    ∙ step_undone w g s b ends hs

-- so nothing is left where a remainder is fed w bits exactly when they are its own
pub nothing_left : (w g r s : ℕ) → odd g ≡ true → g < 2 ^ suc w → r < 2 ^ suc w → s < 2 ^ suc w
    → eqb (remainder (suc w) g r (bits_of (suc w) s)) 0 ≡ eqb s r
nothing_left w g r s ends hg hr hs =
    same_test (remainder (suc w) g r (bits_of (suc w) s)) 0 s r
    (λ e. sym (remainder_injective w g r s (bits_of (suc w) s) ends hg hr hs (e ∙ sym (own_bits (suc w) g hs))))
    (λ e. ap (λ (n : ℕ). remainder (suc w) g r (bits_of (suc w) n)) e ∙ own_bits (suc w) g hr)
