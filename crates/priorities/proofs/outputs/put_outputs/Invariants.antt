-- `priorities::outputs::put_outputs` meets its contract: a loop that puts one output a turn.
-- Assumes nothing.
use Rattle.priorities.proofs.Putting.{Putting}
use Rattle.priorities.proofs.outputs.put_outputs.Given as goal

abbrev pub invariant-loop-i : goal.invariant-loop-i
invariant-loop-i l = Putting l.rec l.events l.phase l.initial.out l.out l.on l.i
