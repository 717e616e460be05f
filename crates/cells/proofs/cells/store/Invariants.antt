-- `cells::cells::store` meets its contract: a loop that makes the bytes of the cells anew, two of a code.
-- Assumes nothing.
use Prim.Native.Nat.{◌*◌}
use Rattle.records.specs.Record.{cells}
use Rattle.records.proofs.Making.{Making}
use Rattle.cells.specs.Cells.{code_byte}
use Rattle.cells.proofs.cells.store.Given as goal

abbrev pub invariant-loop-i : goal.invariant-loop-i
invariant-loop-i l = Making (λ j old. code_byte l.codes j) cells.at cells.size l.initial.rec l.rec (2 * l.i)
