-- `passing::operations::wake` meets its contract: it is judged, and else it comes of the manager that wakes.
-- Assumes nothing.
use mathlib.Core.Path.{◌∙◌, sym, ap}
use Rattle.refusals.proofs.PassedOn.{passed_on}
use Rattle.passing.specs.Hops.{bytes_sent, wake_sends, wake_leaves}
use Rattle.passing.specs.Operations.{woken_at, table_after_wake, out_after_wake}
use Rattle.passing.proofs.Judged.{wake_place}
use Rattle.passing.proofs.Done.{wake_lies, unsent_so, sent_so}
use Rattle.passing.proofs.operations.wake.Goals as goal

pub towards_a_at-to_a-requires : goal.towards_a_at-to_a-requires
towards_a_at-to_a-requires c = wake_lies _ _ _ (sym c.in_ok-k.ensures)

pub wake_at-beat-requires : goal.wake_at-beat-requires
wake_at-beat-requires c = wake_lies _ _ _ (sym c.in_ok-k.ensures)

pub hand_out-requires : goal.hand_out-requires
hand_out-requires c = (wake_place _ _ _ (sym c.in_ok-k.ensures)).1

pub returns-in_err-k : goal.returns-in_err-k
unfolding woken_at table_after_wake out_after_wake
returns-in_err-k c =
    let a = c.args in
    let told = unsent_so a.table.now a.position a.out.now wake_sends wake_leaves (sym c.in_err-k.ensures) in
    record { value = passed_on c.from_residual.ensures.1 ∙ told.0; table_after = told.1.0; out_after = told.1.1 }

pub returns : goal.returns
unfolding woken_at table_after_wake out_after_wake wake_sends
returns c =
    let a = c.args in
    let told = sent_so a.table.now a.position a.out.now wake_sends wake_leaves (sym c.in_ok-k.ensures) (ap bytes_sent c.wake_at-beat.ensures.value) c.hand_out.ensures.value c.towards_a_at-to_a.ensures c.sent_towards.ensures c.wake_at-beat.ensures.table_after c.hand_out.ensures.out_after in
    record { value = told.0; table_after = told.1.0; out_after = told.1.1 }
