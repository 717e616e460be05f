-- `monitor::effects::clrcell` meets its contract: a loop that makes the cells' bytes anew.
-- Assumes nothing.
use Rattle.records.specs.Record.{cells}
use Rattle.records.proofs.Making.{Making}
use Rattle.monitor.specs.Effects.{cleared_byte}
use Rattle.monitor.proofs.effects.clrcell.Given as goal

abbrev pub invariant-loop-i : goal.invariant-loop-i
invariant-loop-i l = Making (λ k old. cleared_byte k) cells.at cells.size l.initial.rec l.rec l.i
