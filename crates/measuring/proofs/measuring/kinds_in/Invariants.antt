-- `measuring::measuring::kinds_in` meets its contract: a loop over the cells, with those before c found.
-- Assumes nothing.
use mathlib.Core.Path.{◌≡◌}
use Rattle.measuring.specs.Measuring.{kinds_in}
use Rattle.measuring.proofs.measuring.kinds_in.Given as goal

abbrev pub invariant-loop-c : goal.invariant-loop-c
invariant-loop-c l = l.all ≡ kinds_in l.rec l.c
