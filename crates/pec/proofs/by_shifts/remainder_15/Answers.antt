-- `pec::by_shifts::remainder_15` meets its contract: its shifts are those of the law, and antt computes the test at the 16 powers of 2.
-- Assumes nothing.
use mathlib.Core.Path.{◌≡◌, refl}
use mathlib.Core.Bool.{xor}
use mathlib.Core.List.{List, [], ◌∷◌}
use Prim.Native.Nat.{ℕ, ◌*◌, ◌/◌, ◌%◌, ◌^◌}
use Rattle.laws.specs.Bits.{◌⊕◌, odd}
use Rattle.laws.specs.Tables.{tabulate}
use Rattle.pec.specs.Remainder.{once, step}
use Rattle.pec.specs.Words.{polynomial15}
use Rattle.pec.proofs.ByShifts.{Linear, then_linear, down, up, low, sums, moved_sum, powers, formula, rule, by_shifts}
use Rattle.pec.proofs.by_shifts.remainder_15.Goals as goal

downs : List ℕ → ℕ → ℕ
downs ss x = sums (λ s y. y / 2 ^ s) x ss x

ups : List ℕ → ℕ → ℕ
ups ss x = sums (λ s y. y * 2 ^ s) x ss x

-- the message times (1 + a)(1 + a^2)(1 + a^4)(1 + a^8)
quotient : ℕ → ℕ
quotient x = downs (8 ∷ []) (downs (4 ∷ []) (downs (2 ∷ 10 ∷ 14 ∷ []) (downs (1 ∷ 5 ∷ 7 ∷ 8 ∷ 11 ∷ 12 ∷ 15 ∷ []) x)))

-- its low bits times the polynomial's lower terms
left : ℕ → ℕ
left x = ups (3 ∷ 4 ∷ 7 ∷ 8 ∷ 10 ∷ 14 ∷ []) (quotient x % 2 ^ 15) % 2 ^ 15

left-linear : Linear left
unfolding left quotient downs ups
left-linear =
    let lower : (ss : List ℕ) → Linear (λ (x : ℕ). sums (λ s y. y / 2 ^ s) x ss x) = moved_sum _ down in
    then_linear
    (then_linear (then_linear (then_linear (lower (1 ∷ 5 ∷ 7 ∷ 8 ∷ 11 ∷ 12 ∷ 15 ∷ [])) (lower (2 ∷ 10 ∷ 14 ∷ []))) (lower (4 ∷ []))) (lower (8 ∷ [])))
    (then_linear (then_linear (low 15) (moved_sum _ up (3 ∷ 4 ∷ 7 ∷ 8 ∷ 10 ∷ 14 ∷ []))) (low 15))

tested : formula 15 polynomial15 16 left ≡ rule 15 polynomial15 16 left
unfolding formula rule left quotient downs ups sums tabulate powers step once odd ◌⊕◌ xor
tested = refl

pub returns : goal.returns
unfolding left quotient downs ups sums ◌⊕◌
returns c = by_shifts 15 polynomial15 16 left left-linear tested c.ranges.message.fits
