-- `passing::operations::relay` meets its contract: it is judged, and else it comes of the monitor that the message reaches.
-- Assumes nothing.
use mathlib.Core.Path.{◌∙◌, sym}
use Rattle.refusals.proofs.PassedOn.{passed_on}
use Rattle.passing.proofs.Judged.{relay_place}
use Rattle.passing.proofs.Done.{relay_lies, relay_stays, relay_done}
use Rattle.passing.proofs.operations.relay.Goals as goal

pub reach_at-beat-requires : goal.reach_at-beat-requires
reach_at-beat-requires c = relay_lies _ _ _ _ (sym c.in_ok-k.ensures)

pub hand_out-requires : goal.hand_out-requires
hand_out-requires c = (relay_place _ _ _ _ (sym c.in_ok-k.ensures)).2

pub returns-then-hand_out : goal.returns-then-hand_out
returns-then-hand_out c =
    let told = relay_done _ _ _ _ (sym c.in_ok-k.ensures) c.reach_at-beat.ensures.value c.hand_out.ensures.value c.if-hand_out.true c.reach_at-beat.ensures.table_after c.hand_out.ensures.out_after in
    record { value = told.0; table_after = told.1.0; out_after = told.1.1 }

pub returns-in_err-k : goal.returns-in_err-k
returns-in_err-k c =
    let told = relay_stays _ _ _ _ (sym c.in_err-k.ensures) in
    record { value = passed_on c.from_residual.ensures.1 ∙ told.0; table_after = told.1.0; out_after = told.1.1 }

pub returns : goal.returns
returns c =
    let told = relay_done _ _ _ _ (sym c.in_ok-k.ensures) c.reach_at-beat.ensures.value c.hand_out.ensures.value c.if-hand_out.false c.reach_at-beat.ensures.table_after c.hand_out.ensures.out_after in
    record { value = told.0; table_after = told.1.0; out_after = told.1.1 }
