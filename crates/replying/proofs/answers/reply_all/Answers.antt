-- `replying::answers::reply_all` meets its contract: the count of the table tells whether it is sound, and then so many monitors reply.
-- Assumes nothing.
use mathlib.Core.Path.{sym, ap₂, ◌∙◌}
use mathlib.Core.Bool.{Bool, cond}
use Prim.Native.Nat.{ℕ}
use native.Mathlib.Omega.{arith}
use lib.ListN.{length}
use Rattle.records.specs.Commands.{reply_length}
use Rattle.replying.specs.Replied.{replied}
use Rattle.judging.proofs.Judging.{not_none, none, count_is, within_most}
use Rattle.judging.proofs.Whole.{where_not}
use Rattle.replying.proofs.RepliesInto.{no_table, by_count, no_reply}
use Rattle.replying.proofs.answers.reply_all.Goals as goal

pub returns-then-reply_size-eq0 : goal.returns-then-reply_size-eq0
returns-then-reply_size-eq0 c =
    let a = c.args in
    let told = no_reply a.command a.table.now a.buffer.now (sym (within_most 1 _ (omega arith) c.reply_size.ensures) ∙ c.if-reply_size-eq0.true) in
    record { value = told.0; buffer_after = told.1 }

pub returns-then-n-eq0 : goal.returns-then-n-eq0
returns-then-n-eq0 c =
    let a = c.args in
    let stays = no_table a.command a.table.now (length a.buffer.now) (none a.table.now c.sound_count-n.ensures c.if-n-eq0.true) in
    record { value = where_not _ _ _ stays; buffer_after = where_not _ _ _ stays }

pub returns : goal.returns
returns c =
    let a = c.args in
    let t = a.table.now in
    let counted = c.sound_count-n.ensures in
    let s = not_none t counted c.if-n-eq0.false in
    let count = count_is t counted s in
    let same = by_count a.command _ t (length a.buffer.now) s count in
    let wrote = c.replies_of.ensures in
    record { value = wrote.value ∙ ap₂ (λ (b : Bool) (n : ℕ). cond b (reply_length a.command n) 0) same count; buffer_after = wrote.buffer_after ∙ ap₂ (λ (b : Bool) (n : ℕ). cond b (replied a.command n t a.buffer.now) a.buffer.now) same count }
