-- `door::volts::osk_volts` meets its contract, reading by reading: a code of 16 bits goes to 32 as it is, and 0 by 0 is NaN.
-- Assumes nothing.
use mathlib.Core.Path.{ap, ◌∙◌}
use lib.Ieee.{of_bits, div}
use lib.IntN.{ℤ}
use mir.Syntax.{w32}
use Rattle.thresholds.proofs.TwosComplement.{widened}
use Rattle.readings.specs.Readings.{reading_of}
use Rattle.door.specs.Volts.{volts_or_nan}
use Rattle.door.proofs.volts.osk_volts.Goals as goal

pub returns-in-Cleared : goal.returns-in-Cleared
unfolding of_bits div
returns-in-Cleared c = ap volts_or_nan (c.in-Cleared.ensures ∙ ap (λ (z : ℤ). reading_of (record { 0 = z })) (widened w32 tt c.ranges.code))
