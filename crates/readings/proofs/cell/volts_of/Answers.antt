-- `readings::cell::volts_of` meets its contract: a number that fits is what the machine reads back from its bits, and the bits
-- of the divisor are those of 1,000,000.
-- Assumes nothing.
use mathlib.Core.Path.{ap}
use lib.Ieee.{binary64, of_int, of_bits, div}
use lib.IntN.{ℤ, pos}
use mir.Syntax.{w64}
use mir.ValLaws.{to_z-of_z}
use Rattle.readings.specs.Readings.{volts}
use Rattle.readings.proofs.cell.volts_of.Goals as goal

pub returns : goal.returns
unfolding volts of_bits of_int
returns c =
    ap (λ (z : ℤ). div binary64 (of_int binary64 z) (of_int binary64 (pos 1_000_000)))
    (to_z-of_z w64 c.args.microvolts c.ranges.microvolts)
