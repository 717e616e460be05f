-- `writing::writing::change` meets its contract: a loop that makes so many bytes anew.
-- Assumes nothing.
use Rattle.writes.specs.Writes.{changed}
use Rattle.records.proofs.Making.{Making}
use Rattle.writing.proofs.writing.change.Given as goal

abbrev pub invariant-loop-i : goal.invariant-loop-i
invariant-loop-i l = Making (changed l.rules l.sent) l.rules.at l.size l.initial.rec l.rec l.i
