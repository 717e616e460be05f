-- `loads::loads::load` meets its contract: it is judged as its store is, and what comes of it is what comes of its judgement.
-- Assumes nothing.
use mathlib.Core.Path.{sym, ◌∙◌}
use Prim.Native.Nat.{◌-◌}
use native.Mathlib.Omega.{arith}
use Rattle.refusals.proofs.PassedOn.{passed_on}
use Rattle.loads.proofs.Judging.{as_stored}
use Rattle.loads.proofs.Refused.{table-loaded}
use Rattle.loads.proofs.Place.{stored-first, stored_ready}
use Rattle.loads.proofs.Halved.{was-loaded}
use Rattle.judging.proofs.Lies.{back-changed}
use Rattle.cells.specs.Cells.{load}
use Rattle.loads.proofs.loads.load.Goals as goal

pub overflow_sub-position : goal.overflow_sub-position
overflow_sub-position c = omega (arith, stored-first _ _ _ (sym c.in_ok-judge_store.ensures))

pub returns-in_err-judge_store : goal.returns-in_err-judge_store
returns-in_err-judge_store c =
    let a = c.args in
    let e = as_stored a.table.now a.position a.codes.now ∙ sym c.in_err-judge_store.ensures in
    record { value = passed_on c.from_residual.ensures.1 ∙ sym e; table_after = sym (table-loaded a.table.now a.position a.codes.now e) }

pub returns-in_default : goal.returns-in_default
returns-in_default c =
    let ready = stored_ready _ _ _ (sym c.in_ok-judge_store.ensures) in
    absurd (omega (arith, ready.0, c.in_default.ensures))

pub returns-in-Some : goal.returns-in-Some
returns-in-Some c =
    let a = c.args in
    let k = a.position - 1 in
    let ready = stored_ready _ _ _ (sym c.in_ok-judge_store.ensures) in
    let lies = c.in-Some.ensures in
    let e = as_stored a.table.now a.position a.codes.now ∙ sym c.in_ok-judge_store.ensures in
    record {
      value = sym e;
      table_after =
          back-changed k a.table.now lies (load a.codes.now) (was-loaded k a.table.now lies a.codes.now ready.1 c.store.ensures.rec_after c.compare.ensures.rec_after)
          ∙ sym (table-loaded a.table.now a.position a.codes.now e);
    }
