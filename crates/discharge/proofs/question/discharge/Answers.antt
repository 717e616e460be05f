-- `discharge::question::discharge` meets its contract: each test is the condition of a refusal, in their order, and then the outputs are those of
-- the record at the position.
-- Assumes nothing.
use mathlib.Core.Path.{sym, ◌∙◌}
use native.Mathlib.Omega.{arith}
use Rattle.refusals.proofs.PassedOn.{passed_on}
use Rattle.judging.proofs.Place.{at-fits}
use Rattle.discharge.specs.Question.{discharged, outputs_after}
use Rattle.discharge.proofs.Asking.{no_place, phase_wrong, no_room, so_many_on, outputs_put}
use Rattle.discharge.proofs.question.discharge.Goals as goal
use Rattle.std.specs.Prelude.{Err}

pub returns-then-phase-gt-LAST_PHASE : goal.returns-then-phase-gt-LAST_PHASE
unfolding discharged outputs_after
returns-then-phase-gt-LAST_PHASE c =
    let a = c.args in
    let e = sym c.in_ok-k.ensures in
    record { value = sym (phase_wrong a.table.now a.position a.phase _ Err _ e c.if-phase-gt-LAST_PHASE.true); out_after = sym (phase_wrong a.table.now a.position a.phase _ (λ n. a.out.now) _ e c.if-phase-gt-LAST_PHASE.true) }

pub returns-then-out-lt-CELL_COUNT : goal.returns-then-out-lt-CELL_COUNT
unfolding discharged outputs_after
returns-then-out-lt-CELL_COUNT c =
    let a = c.args in
    let e = sym c.in_ok-k.ensures in
    record { value = sym (no_room a.table.now a.position a.phase _ Err _ e c.if-phase-gt-LAST_PHASE.false c.if-out-lt-CELL_COUNT.true); out_after = sym (no_room a.table.now a.position a.phase _ (λ n. a.out.now) _ e c.if-phase-gt-LAST_PHASE.false c.if-out-lt-CELL_COUNT.true) }

pub returns-in_err-k : goal.returns-in_err-k
unfolding discharged outputs_after
returns-in_err-k c =
    let a = c.args in
    let e = sym c.in_err-k.ensures in
    record { value = passed_on c.from_residual.ensures.1 ∙ sym (no_place a.table.now a.position a.phase _ Err _ e); out_after = sym (no_place a.table.now a.position a.phase _ (λ n. a.out.now) _ e) }

pub returns-in-None : goal.returns-in-None
returns-in-None c = absurd (omega (arith, at-fits _ _ (sym c.in_ok-k.ensures), c.in-None.ensures))

pub returns-in-Some : goal.returns-in-Some
returns-in-Some c =
    let a = c.args in
    let e = sym c.in_ok-k.ensures in
    let lies = c.in-Some.ensures in
    record {
      value = so_many_on a.table.now a.position a.events a.phase a.out.now e c.if-phase-gt-LAST_PHASE.false c.if-out-lt-CELL_COUNT.false (lies.0, lies.1) c.put_outputs.ensures.value;
      out_after = outputs_put a.table.now a.position a.events a.phase a.out.now e c.if-phase-gt-LAST_PHASE.false c.if-out-lt-CELL_COUNT.false (lies.0, lies.1) c.put_outputs.ensures.out_after;
    }
