-- `loads::loads::compare` meets its contract: it is judged, and what comes of it is what comes of its judgement.
-- Assumes nothing.
use mathlib.Core.Path.{sym, ◌∙◌}
use Prim.Native.Nat.{◌-◌}
use native.Mathlib.Omega.{arith}
use Rattle.refusals.proofs.PassedOn.{passed_on}
use Rattle.loads.proofs.Refused.{table-compared}
use Rattle.judging.proofs.Place.{fits}
use Rattle.loads.proofs.Place.{done_place}
use Rattle.judging.proofs.Lies.{back_record}
use Rattle.cells.specs.Cells.{compare}
use Rattle.loads.proofs.loads.compare.Goals as goal

pub overflow_sub-position : goal.overflow_sub-position
overflow_sub-position c =
    let a = c.args in
    let p = done_place a.table.now a.position (sym c.in_ok-judge_compare.ensures) in
    omega (arith, p.first)

pub returns-in_err-judge_compare : goal.returns-in_err-judge_compare
returns-in_err-judge_compare c =
    let a = c.args in
    let e = sym c.in_err-judge_compare.ensures in
    record { value = passed_on c.from_residual.ensures.1 ∙ sym e; table_after = sym (table-compared a.table.now a.position e) }

pub returns-in_default : goal.returns-in_default
returns-in_default c =
    let a = c.args in
    let p = done_place a.table.now a.position (sym c.in_ok-judge_compare.ensures) in
    absurd (omega (arith, fits a.table.now a.position p, c.in_default.ensures))

pub returns-in-Some : goal.returns-in-Some
returns-in-Some c =
    let a = c.args in
    let e = sym c.in_ok-judge_compare.ensures in
    record { value = sym e; table_after = back_record (a.position - 1) a.table.now c.in-Some.ensures compare c.compare.ensures.rec_after ∙ sym (table-compared a.table.now a.position e) }
