-- `pec::by_shifts::remainder_10` meets its contract: its formula is linear, and antt computes the test at the 64 powers of 2.
-- Assumes nothing.
use mathlib.Core.Path.{◌≡◌, refl, ap, ◌∙◌}
use mathlib.Core.Bool.{xor}
use Prim.Native.Nat.{ℕ, ◌*◌, ◌/◌, ◌%◌, ◌^◌, ◌<◌}
use native.Mathlib.Omega.{arith}
use lib.Bits.{bit_xor}
use Rattle.laws.specs.Bits.{◌⊕◌, odd}
use Rattle.laws.specs.Tables.{tabulate}
use Rattle.laws.proofs.Xor.{xor_below}
use Rattle.pec.specs.Remainder.{once, step}
use Rattle.pec.specs.ByShifts.{with_moved, times_one}
use Rattle.pec.specs.Words.{polynomial10}
use Rattle.pec.proofs.ByShifts.{Linear, then_linear, same, sum, down, up, low, times_linear, powers, formula, rule, by_shifts}
use Rattle.pec.proofs.by_shifts.remainder_10.Goals as goal

-- a number times (1 + x)(1 + x^2) + x^7
lower : ℕ → ℕ
lower q = (q ⊕ q * 2 ^ 1) ⊕ (q ⊕ q * 2 ^ 1) * 2 ^ 2 ⊕ q * 2 ^ 7

-- what is left, by a quotient that lacks the last factor
tail : ℕ → ℕ
tail d = lower (with_moved 48 d % 2 ^ 10) % 2 ^ 10

left : ℕ → ℕ
left x = tail (times_one 8 (times_one 4 (times_one 2 (times_one 1 x))))

left-linear : Linear left
unfolding left tail lower with_moved
left-linear =
    then_linear (then_linear (then_linear (then_linear (times_linear 1) (times_linear 2)) (times_linear 4)) (times_linear 8))
    (then_linear (then_linear (then_linear (sum same (down 48)) (low 10)) (sum (then_linear (sum same (up 1)) (sum same (up 2))) (up 7))) (low 10))

tested : formula 10 polynomial10 64 left ≡ rule 10 polynomial10 64 left
unfolding formula rule left tail lower times_one with_moved tabulate powers step once odd ◌⊕◌ xor
tested = refl

-- q and twice q
small : (n : ℕ) → bit_xor (n % 1024) (n % 1024 * 2) < 2048
unfolding ◌⊕◌
small n =
    let q : n % 1024 < 2 ^ 11 = omega arith in
    let twice : n % 1024 * 2 < 2 ^ 11 = omega arith in
    xor_below 11 q twice

pub overflow_mul-four : goal.overflow_mul-four
overflow_mul-four c = omega (arith, small (bit_xor c.times-d.result (c.times-d.result / 2 ^ 48)))

pub returns : goal.returns
unfolding left tail lower with_moved ◌⊕◌
returns c =
    ap tail
    (c.times-d.ensures
    ∙ ap (times_one 8) (c.times-3.ensures ∙ ap (times_one 4) (c.times-2.ensures ∙ ap (times_one 2) c.times.ensures)))
    ∙ by_shifts 10 polynomial10 64 left left-linear tested c.ranges.message.fits
