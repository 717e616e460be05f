-- `check_words::words::of_message` meets its contract: ten zeros in front leave 0, and from the start value it is that from 0, and what
-- the start leaves of 54 zeros.
-- Assumes nothing.
use mathlib.Core.Path.{◌≡◌, refl, sym, ap₂, ◌∙◌}
use mathlib.Core.Bool.{xor}
use Rattle.laws.specs.Bits.{◌⊕◌, odd, bits_of}
use Rattle.pec.specs.Remainder.{once, step, remainder}
use Rattle.pec.specs.Words.{polynomial10}
use Rattle.pec.proofs.ManyBits.{zeros_first, from_start}
use Rattle.check_words.proofs.words.of_message.Goals as goal

of-zeros : remainder 10 polynomial10 16 (bits_of 54 0) ≡ 0x3e3
unfolding remainder step once bits_of odd ◌⊕◌ xor
of-zeros = refl

pub returns : goal.returns
unfolding ◌⊕◌
returns c =
    ap₂ ◌⊕◌ (c.remainder_10.ensures ∙ zeros_first 10 polynomial10 10 54 c.requires) (sym of-zeros)
    ∙ from_start 10 polynomial10 16 54 c.args.message
