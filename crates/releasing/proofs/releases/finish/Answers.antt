-- `releasing::releases::finish` meets its contract: a release is judged, and what comes of it is what comes of its judgement.
-- Assumes nothing.
use mathlib.Core.Path.{sym, ap₂, ◌∙◌}
use Rattle.refusals.proofs.PassedOn.{passed_on}
use Rattle.judging.proofs.Judging.{within_most}
use Rattle.clocking.specs.Bytes.{clock_of}
use Rattle.releasing.proofs.ReleaseJudging.{ready}
use Rattle.releasing.proofs.ReleaseOutcome.{the_answer, the_table}
use Rattle.releasing.proofs.releases.finish.Goals as goal
use Rattle.chain.specs.Frame.{took}

pub act_all-taken-requires : goal.act_all-taken-requires
unfolding clock_of
act_all-taken-requires c =
    let a = c.args in
    let can = ready (clock_of a.state.now) a.table.now (sym c.in_ok-judged.ensures) in
    (can.whole, can.same, can.few)

pub returns-in_err-judged : goal.returns-in_err-judged
returns-in_err-judged c =
    let a = c.args in
    let e = sym c.in_err-judged.ensures in
    record { value = passed_on c.from_residual.ensures.1 ∙ sym (the_answer (clock_of a.state.now) a.table.now e); table_after = sym (the_table (clock_of a.state.now) a.table.now e) }

pub returns : goal.returns
returns c =
    let a = c.args in
    let clock = clock_of a.state.now in
    let e = sym c.in_ok-judged.ensures in
    let acted = c.act_all-taken.ensures in
    let size = within_most _ _ (ready clock a.table.now e).few c.reply_size-reply.ensures in
    record { value = ap₂ took acted.value size ∙ sym (the_answer clock a.table.now e); table_after = acted.table_after ∙ sym (the_table clock a.table.now e) }
