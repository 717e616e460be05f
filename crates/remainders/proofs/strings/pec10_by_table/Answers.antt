-- `remainders::strings::pec10_by_table` meets its contract: no bits come after the bytes.
-- Assumes nothing.
use mathlib.Core.Path.{ap, ◌∙◌}
use mathlib.Core.List.{append-nil}
use Rattle.laws.specs.Bits.{bits_of, bits_of_bytes}
use Rattle.pec.specs.Remainder.{remainder}
use Rattle.pec.specs.Words.{polynomial10, pec10}
use Rattle.remainders.proofs.strings.pec10_by_table.Goals as goal

pub returns : goal.returns
unfolding pec10 bits_of
returns c =
    c.pec10_and_bits.ensures
    ∙ ap (remainder 10 polynomial10 16) (append-nil (bits_of_bytes c.args.bytes.now))
