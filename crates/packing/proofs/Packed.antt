-- The packing loses nothing: parts that fit come back from their answer, each from its own bits, and the answer has 32 bits.
-- Assumes nothing.
use mathlib.Core.Path.{◌≡◌, sym, ap, ◌∙◌, subst}
use Prim.Native.Nat.{ℕ, ◌^◌, ◌/◌, ◌%◌, ◌<◌}
use native.Mathlib.Omega.{arith}
use Rattle.refusals.specs.declared.Refusal.{Refusal}
use Rattle.refusals.specs.declared.Refusal.TheVariants.{TableNotSound, FrameShort, CommandWrong, CodeNotListed, LengthWrong, NoRoom, PositionWrong, CountWrong, CodeCleared, BothDamaged}
use Rattle.refusals.specs.Numbers.{number_of}
use Rattle.packing.specs.Packed.{Parts, packed, apart, Fit, refused, accepted}

module _ (p : Parts) (fit : Fit p) where
  pub number_back : packed p % 256 ≡ p.number
  unfolding packed
  number_back = omega (arith, fit.number_fits)

  pub first_back : packed p / 256 % 256 ≡ p.first
  unfolding packed
  first_back = omega (arith, fit.number_fits, fit.first_fits)

  pub second_back : packed p / 65536 ≡ p.second
  unfolding packed
  second_back = omega (arith, fit.number_fits, fit.first_fits)

  pub apart-packed : apart (packed p) ≡ p
  unfolding apart
  apart-packed i = record { number = number_back i; first = first_back i; second = second_back i }

  pub packed-fits : packed p < 2 ^ 32
  unfolding packed
  packed-fits = omega (arith, fit.number_fits, fit.first_fits, fit.second_fits)

-- what is packed of an outcome that was told to be so
pub as_told : {A : Type 0} (parts : A → Parts) {r : ℕ} {v w : A} → r ≡ packed (parts v) → w ≡ v → r ≡ packed (parts w)
as_told parts e here = e ∙ ap (λ x. packed (parts x)) (sym here)

-- and it fits where the outcome does
pub fits_as_told : {A : Type 0} (parts : A → Parts) {v w : A} → w ≡ v → Fit (parts w) → Fit (parts v)
fits_as_told parts here = subst (λ x. Fit (parts x)) here

-- ---- what fits

-- what is accepted fits by its values
pub accepted-fits : (first second : ℕ) → first < 256 → second < 65536 → Fit (accepted first second)
accepted-fits first second f s = record { number_fits = omega arith; first_fits = f; second_fits = s }

pub refused-fits : (r : Refusal) → Fit (refused r)
refused-fits r = record { number_fits = at_most_ten r; first_fits = omega arith; second_fits = omega arith }
  where
    at_most_ten : (r : Refusal) → number_of r < 256
    at_most_ten TableNotSound = omega arith
    at_most_ten FrameShort = omega arith
    at_most_ten CommandWrong = omega arith
    at_most_ten CodeNotListed = omega arith
    at_most_ten LengthWrong = omega arith
    at_most_ten NoRoom = omega arith
    at_most_ten PositionWrong = omega arith
    at_most_ten CountWrong = omega arith
    at_most_ten CodeCleared = omega arith
    at_most_ten BothDamaged = omega arith
