-- `loads::loads::store` meets its contract: it is judged, and what comes of it is what comes of its judgement.
-- Assumes nothing.
use mathlib.Core.Path.{sym, ◌∙◌}
use Prim.Native.Nat.{◌-◌}
use native.Mathlib.Omega.{arith}
use Rattle.refusals.proofs.PassedOn.{passed_on}
use Rattle.loads.proofs.Refused.{table-stored}
use Rattle.loads.proofs.Place.{stored-first, stored_ready}
use Rattle.loads.proofs.Halved.{was-stored}
use Rattle.judging.proofs.Lies.{back-changed}
use Rattle.cells.specs.Cells.{store}
use Rattle.loads.proofs.loads.store.Goals as goal

pub overflow_sub-position : goal.overflow_sub-position
overflow_sub-position c = omega (arith, stored-first _ _ _ (sym c.in_ok-judge_store.ensures))

pub returns-in_err-judge_store : goal.returns-in_err-judge_store
returns-in_err-judge_store c =
    let a = c.args in
    let e = sym c.in_err-judge_store.ensures in
    record { value = passed_on c.from_residual.ensures.1 ∙ sym e; table_after = sym (table-stored a.table.now a.position a.codes.now e) }

pub returns-in_default : goal.returns-in_default
returns-in_default c =
    let ready = stored_ready _ _ _ (sym c.in_ok-judge_store.ensures) in
    absurd (omega (arith, ready.0, c.in_default.ensures))

pub returns-in-Some : goal.returns-in-Some
returns-in-Some c =
    let a = c.args in
    let e = sym c.in_ok-judge_store.ensures in
    let ready = stored_ready _ _ _ e in
    let lies = c.in-Some.ensures in
    record {
      value = sym e;
      table_after =
          back-changed (a.position - 1) a.table.now lies (store a.codes.now) (was-stored (a.position - 1) a.table.now lies a.codes.now ready.1 c.store.ensures.rec_after)
          ∙ sym (table-stored a.table.now a.position a.codes.now e);
    }
