-- `chain::frames::handle` meets its contract: a frame is judged, and what comes of it is what comes of its judgement.
-- Assumes nothing.
use mathlib.Core.Path.{◌≡◌, sym, ap₂, ◌∙◌, subst}
use mathlib.Core.List.{List}
use Prim.Native.Nat.{ℕ}
use lib.ListN.{length}
use Rattle.refusals.proofs.PassedOn.{passed_on}
use Rattle.records.specs.declared.commands.Command.{Command}
use Rattle.judging.specs.declared.heads.Judged.{Judged}
use Rattle.chain.specs.Judged.{Ready, ReadyIf}
use Rattle.judging.proofs.Whole.{whole_records, where_so}
use Rattle.replying.proofs.RepliesInto.{fitting}
use Rattle.chain.proofs.Outcome.{the_answer, the_table, the_buffer}
use Rattle.chain.proofs.frames.handle.Goals as goal
use Rattle.std.specs.Prelude.{Result}
use Rattle.refusals.specs.declared.Refusal.{Refusal}
use Rattle.judging.specs.Heads.{good}
use Rattle.chain.specs.Frame.{took}

pub serve_frame-taken-requires : goal.serve_frame-taken-requires
serve_frame-taken-requires c =
    let ready = c.in_ok-judged.ensures.ready_if in
    (ready.whole, ready.few)

pub returns-in_err-judged : goal.returns-in_err-judged
returns-in_err-judged c =
    let a = c.args in
    let e = sym c.in_err-judged.ensures.value in
    record { value = passed_on c.from_residual.ensures.1 ∙ sym (the_answer a.table.now a.frame.now a.buffer.now e); table_after = sym (the_table a.table.now a.frame.now a.buffer.now e); buffer_after = sym (the_buffer a.table.now a.frame.now a.buffer.now e) }

pub returns : goal.returns
returns c =
    let a = c.args in
    let ready = c.in_ok-judged.ensures.ready_if in
    let fits = fitting _ _ a.table.now _ (whole_records _ a.table.now ready.few ready.whole) ready.enough in
    let replies = c.replies_of-reply.ensures in
    let served = c.serve_frame-taken.ensures in
    let e = sym c.in_ok-judged.ensures.value in
    record { value = ap₂ took served.value (replies.value ∙ sym (where_so _ _ _ fits)) ∙ sym (the_answer a.table.now a.frame.now a.buffer.now e); table_after = served.table_after ∙ sym (the_table a.table.now a.frame.now a.buffer.now e); buffer_after = replies.buffer_after ∙ sym (where_so _ _ _ fits) ∙ sym (the_buffer a.table.now a.frame.now a.buffer.now e) }
