-- `pec::by_shifts::of_command` meets its contract: from the start value it is that from 0, and what the start leaves of 16 zeros.
-- Assumes nothing.
use mathlib.Core.Path.{◌≡◌, refl, sym, ap₂, ◌∙◌}
use mathlib.Core.Bool.{xor}
use Rattle.laws.specs.Bits.{◌⊕◌, odd, bits_of}
use Rattle.pec.specs.Remainder.{once, step, remainder}
use Rattle.pec.specs.Words.{polynomial15}
use Rattle.pec.proofs.ManyBits.{from_start}
use Rattle.pec.proofs.by_shifts.of_command.Goals as goal

of-zeros : remainder 15 polynomial15 16 (bits_of 16 0) ≡ 0x5b2e
unfolding remainder step once bits_of odd ◌⊕◌ xor
of-zeros = refl

pub returns : goal.returns
unfolding ◌⊕◌
returns c =
    ap₂ ◌⊕◌ c.remainder_15.ensures (sym of-zeros) ∙ from_start 15 polynomial15 16 16 c.args.code
