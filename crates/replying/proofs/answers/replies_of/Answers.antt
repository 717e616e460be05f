-- `replying::answers::replies_of` meets its contract: its first test tells whether the table holds n whole records, and then the room decides.
-- Assumes nothing.
use mathlib.Core.Path.{◌≡◌, sym, ap, ◌∙◌, subst, subst⁻¹}
use mathlib.Core.Bool.{true, cond}
use mathlib.Core.List.{List, ◌++◌, map}
use Prim.Native.Nat.{ℕ, ◌*◌, ◌≤◌, ◌<◌}
use lib.Dec.{leb}
use lib.ListN.{length, drop}
use Rattle.laws.specs.Rows.{rows}
use Rattle.wire.specs.Order.{reply_data}
use Rattle.records.specs.declared.commands.Command.{Command}
use Rattle.records.specs.Record.{record_size}
use Rattle.records.specs.Commands.{most_monitors, payload_size, reply_length}
use Rattle.reads.specs.Reply.{reply}
use Rattle.judging.specs.Table.{monitors, whole_table}
use Rattle.judging.proofs.Judging.{within_most}
use Rattle.judging.proofs.Keeps.{monitors_of}
use Rattle.judging.proofs.Whole.{is_whole, where_so, where_not}
use Rattle.replying.specs.Replied.{replied}
use Rattle.replying.proofs.RepliesInto.{not-whole, not_fitting, fitting, no_read}
use Rattle.replying.proofs.answers.replies_of.Goals as goal

module _ (command : Command) (n : ℕ) (table : List ℕ) (whole : whole_table n table ≡ true) where
  -- the length of the reply that the first test lets pass
  size : {s : ℕ} → s ≡ cond (leb n most_monitors) (reply_length command n) 0 → s ≡ reply_length command n
  size e = within_most n _ (is_whole n table whole).1 e

  count : monitors table ≡ n
  count = monitors_of n table (is_whole n table whole).0

pub returns-then-not-whole_table : goal.returns-then-not-whole_table
returns-then-not-whole_table c =
    let a = c.args in
    let stays = not-whole a.command a.n a.table.now (length a.buffer.now) (sym c.whole_table.ensures ∙ c.if-not-whole_table.true) in
    record { value = where_not _ _ _ stays; buffer_after = where_not _ _ _ stays }

pub returns-then-buffer-size : goal.returns-then-buffer-size
returns-then-buffer-size c =
    let a = c.args in
    let whole = sym c.whole_table.ensures ∙ c.if-not-whole_table.false in
    let short = subst (λ (m : ℕ). length a.buffer.now < m) (size a.command a.n a.table.now whole c.reply_size-size.ensures) c.if-buffer-size.true in
    let stays = not_fitting a.command a.n a.table.now (length a.buffer.now) whole short in
    record { value = where_not _ _ _ stays; buffer_after = where_not _ _ _ stays }

pub write_replies-requires : goal.write_replies-requires
write_replies-requires c =
    let a = c.args in
    let whole = sym c.whole_table.ensures ∙ c.if-not-whole_table.false in
    let enough = subst (λ (m : ℕ). m ≤ length a.buffer.now) (size a.command a.n a.table.now whole c.reply_size-size.ensures) c.if-buffer-size.false in
    subst⁻¹ (λ (m : ℕ). payload_size * m ≤ length a.buffer.now) (count a.command a.n a.table.now whole)
    (subst (λ (k : Command). reply_length k a.n ≤ length a.buffer.now) c.in-Reads.is enough)

pub returns-in-Reads : goal.returns-in-Reads
unfolding replied
returns-in-Reads c =
    let a = c.args in
    let t = a.table.now in
    let whole = sym c.whole_table.ensures ∙ c.if-not-whole_table.false in
    let its-size = size a.command a.n t whole c.reply_size-size.ensures in
    let fits = fitting a.command a.n t (length a.buffer.now) whole (subst (λ (m : ℕ). m ≤ length a.buffer.now) its-size c.if-buffer-size.false) in
    record {
      value = its-size ∙ where_so _ _ _ fits;
      buffer_after =
          c.write_replies.ensures
          ∙ ap (λ (n : ℕ). reply_data (map (reply c.in-Reads.part) (rows record_size n t)) ++ drop (payload_size * n) a.buffer.now) (count a.command a.n t whole)
          ∙ ap (λ (k : Command). replied k a.n t a.buffer.now) (sym c.in-Reads.is)
          ∙ where_so _ _ _ fits;
    }

pub returns-in_default : goal.returns-in_default
returns-in_default c =
    let a = c.args in
    let t = a.table.now in
    let whole = sym c.whole_table.ensures ∙ c.if-not-whole_table.false in
    let its-size = size a.command a.n t whole c.reply_size-size.ensures in
    let fits = fitting a.command a.n t (length a.buffer.now) whole (subst (λ (m : ℕ). m ≤ length a.buffer.now) its-size c.if-buffer-size.false) in
    record {
      value = its-size ∙ where_so _ _ _ fits;
      buffer_after = sym (no_read a.command a.n t a.buffer.now c.in_default.not-Reads) ∙ where_so _ _ _ fits;
    }
