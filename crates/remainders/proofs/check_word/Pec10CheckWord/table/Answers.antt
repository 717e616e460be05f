-- `Pec10`'s table keeps its contract: its 256 entries are held against their rule, which antt computes.
-- Assumes nothing.
use mathlib.Core.Path.{refl}
use mathlib.Core.Bool.{xor}
use Rattle.laws.specs.Bits.{◌⊕◌, odd, bits_of}
use Rattle.laws.specs.Tables.{tabulate}
use Rattle.pec.specs.Remainder.{once, step, remainder}
use Rattle.remainders.specs.ByTable.{entry, table_of}
use Rattle.remainders.proofs.check_word.Pec10CheckWord.table.Goals as goal

pub returns : goal.returns
unfolding table_of tabulate entry remainder step once bits_of odd ◌⊕◌ xor
returns c = refl
