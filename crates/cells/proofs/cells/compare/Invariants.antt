-- `cells::cells::compare` meets its contract: a loop that makes the flags' bytes anew. What a turn raises is what the record
-- as it came says, since the flags' bytes are no part of what is compared.
-- Assumes nothing.
use lib.Bits.{bit_or}
use Rattle.records.specs.Record.{flags}
use Rattle.records.proofs.Making.{Making}
use Rattle.cells.specs.Cells.{flag_byte}
use Rattle.cells.proofs.cells.compare.Given as goal

abbrev pub invariant-loop-j : goal.invariant-loop-j
invariant-loop-j l =
    Making (λ k old. bit_or old (flag_byte l.initial.rec k)) flags.at flags.size l.initial.rec l.rec l.j
