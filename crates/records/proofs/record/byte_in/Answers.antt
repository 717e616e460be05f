-- `records::record::byte_in` meets its contract, by its test.
-- Assumes nothing.
use mathlib.Core.Path.{sym, ◌∙◌}
use Rattle.records.specs.Record.{byte_in}
use Rattle.records.proofs.Parts.{byte_of-part, past_part}
use Rattle.records.proofs.record.byte_in.Goals as goal

pub returns-then-i-part : goal.returns-then-i-part
unfolding byte_in
returns-then-i-part c =
    let a = c.args in
    c.byte_at.ensures ∙ sym (byte_of-part a.part a.rec.now c.if-i-part.true)

pub returns-else-i-part : goal.returns-else-i-part
unfolding byte_in
returns-else-i-part c = sym (past_part c.args.part c.args.rec.now c.if-i-part.false)
