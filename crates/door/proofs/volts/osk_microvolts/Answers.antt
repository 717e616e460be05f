-- `door::volts::osk_microvolts` meets its contract: a code of 16 bits goes to 32 as it is, and its microvolts are few enough to come
-- back in 32.
-- Assumes nothing.
use mathlib.Core.Path.{◌≡◌, ap, ◌∙◌, subst⁻¹}
use native.Mathlib.Omega.{arith}
use lib.IntN.{ℤ}
use mir.Syntax.{w32, w64}
use mir.Val.{SFits, to_z, of_z}
use mir.Facts.{to_z-of_z}
use Rattle.thresholds.proofs.TwosComplement.{widened}
use Rattle.readings.specs.Readings.{microvolts}
use Rattle.readings.proofs.Magnitudes.{fits-by-size}
use Rattle.readings.proofs.Sizes.{code-size}
use Rattle.door.proofs.volts.osk_microvolts.Goals as goal

-- the microvolts, as the machine hands them on
same : (c : goal.After-microvolts_of) → to_z w64 (of_z w64 c.microvolts_of.result) ≡ microvolts (record { 0 = c.args.code })
same c =
    to_z-of_z {w = w64} (record { sfits = omega arith })
    ∙ c.microvolts_of.ensures
    ∙ ap (λ (z : ℤ). microvolts (record { 0 = z })) (widened w32 tt c.ranges.code)

pub overflow_cast-result : goal.overflow_cast-result
overflow_cast-result c =
    let code = c.args.code in
    subst⁻¹ (SFits w32) (same c) (fits-by-size w32 (microvolts (record { 0 = code })) (omega (arith, code-size code c.ranges.code)))

pub returns : goal.returns
returns c = to_z-of_z (overflow_cast-result c) ∙ same c
