-- `passing::operations::heartbeat` meets its contract: it is judged, and else it comes of the way from the manager to the end of the chain.
-- Assumes nothing.
use mathlib.Core.Path.{◌∙◌, sym}
use Rattle.refusals.proofs.PassedOn.{passed_on}
use Rattle.judging.specs.Table.{monitors}
use Rattle.passing.specs.Hops.{beat_sends, beat_leaves}
use Rattle.passing.specs.Operations.{beaten, table_after_beat, out_after_beat}
use Rattle.passing.proofs.Judged.{wake_place}
use Rattle.passing.proofs.Done.{wake_lies, wake_among, unsent_so, sent_so, sent_all-along, left-all-along}
use Rattle.passing.proofs.operations.heartbeat.Goals as goal

pub towards_a_at-to_a-requires : goal.towards_a_at-to_a-requires
towards_a_at-to_a-requires c = wake_lies _ _ _ (sym c.in_ok-k.ensures)

pub beat_from-end-requires : goal.beat_from-end-requires
unfolding monitors
beat_from-end-requires c = wake_among _ _ _ (sym c.in_ok-k.ensures)

pub hand_out-requires : goal.hand_out-requires
hand_out-requires c = (wake_place _ _ _ (sym c.in_ok-k.ensures)).1

pub returns-in_err-k : goal.returns-in_err-k
unfolding beaten table_after_beat out_after_beat
returns-in_err-k c =
    let a = c.args in
    let told = unsent_so a.table.now a.position a.out.now beat_sends beat_leaves (sym c.in_err-k.ensures) in
    record { value = passed_on c.from_residual.ensures.1 ∙ told.0; table_after = told.1.0; out_after = told.1.1 }

pub returns : goal.returns
unfolding beaten table_after_beat out_after_beat monitors
returns c =
    let toward = c.towards_a_at-to_a.ensures in
    let a = c.args in
    let told = sent_so a.table.now a.position a.out.now beat_sends beat_leaves (sym c.in_ok-k.ensures) (sent_all-along _ _ toward c.beat_from-end.ensures.result_value) c.hand_out.ensures.value toward c.sent_towards.ensures (left-all-along _ _ toward c.beat_from-end.ensures.table_after) c.hand_out.ensures.out_after in
    record { value = told.0; table_after = told.1.0; out_after = told.1.1 }
