-- `passing::hops::pass_on` meets its contract: what is left of the way, from what is at hand, comes to what the whole way comes to.
-- Assumes nothing.
use Rattle.passing.proofs.Laps.{Lap}
use Rattle.passing.proofs.hops.pass_on.Given as goal

abbrev pub invariant-loop-i : goal.invariant-loop-i
invariant-loop-i l = Lap l.fn.road.to_a l.fn.road.n l.fn.road.k l.fn.first.count l.fn.first.flags l.initial.table l.i l.beat.count l.beat.flags l.table
