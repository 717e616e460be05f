-- `passing::operations::time_out` meets its contract: what has no place is refused, and else it comes of the monitor there.
-- Assumes nothing.
use mathlib.Core.Path.{◌∙◌, sym}
use Rattle.refusals.proofs.PassedOn.{passed_on}
use Rattle.judging.proofs.Place.{at-fits}
use Rattle.passing.proofs.Done.{time_stays, time_done}
use Rattle.passing.proofs.operations.time_out.Goals as goal

pub run_out_at-requires : goal.run_out_at-requires
run_out_at-requires c = at-fits _ _ (sym c.in_ok-k.ensures)

pub returns-then-run_out_at : goal.returns-then-run_out_at
returns-then-run_out_at c =
    let ran = c.run_out_at.ensures in
    let told = time_done _ _ (sym c.in_ok-k.ensures) ran.value c.if-run_out_at.true ran.table_after in
    record { value = told.0; table_after = told.1 }

pub returns-in_err-k : goal.returns-in_err-k
returns-in_err-k c =
    let told = time_stays _ _ (sym c.in_err-k.ensures) in
    record { value = passed_on c.from_residual.ensures.1 ∙ told.0; table_after = told.1 }

pub returns : goal.returns
returns c =
    let ran = c.run_out_at.ensures in
    let told = time_done _ _ (sym c.in_ok-k.ensures) ran.value c.if-run_out_at.false ran.table_after in
    record { value = told.0; table_after = told.1 }
