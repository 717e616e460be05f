-- `passing::hops::run_out_at` meets its contract: the record is lent and comes back.
-- Assumes nothing.
use mathlib.Core.Path.{ap, ap₂, ◌∙◌}
use mathlib.Core.Bool.{Bool, ◌&&◌}
use mathlib.Core.List.{List}
use Prim.Native.Nat.{ℕ}
use Rattle.judging.proofs.Lies.{part-row, part_record, back_record}
use Rattle.heartbeats.specs.Steps.{is_timeout, late}
use Rattle.passing.proofs.hops.run_out_at.Goals as goal

pub returns-in-Some : goal.returns-in-Some
returns-in-Some c =
    let a = c.args in
    let lies = c.in-Some.ensures in
    record {
      value = c.run_out.ensures.value ∙ ap₂ (λ (b : Bool) (r : List ℕ). b && is_timeout r) (part_record a.k a.table.now lies) (part-row a.k a.table.now lies);
      table_after = back_record a.k a.table.now lies late c.run_out.ensures.rec_after;
    }
