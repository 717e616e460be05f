-- `replying::answers::write_replies` meets its contract: a reply a turn.
-- Assumes nothing.
use mathlib.Core.Path.{sym, ap, ◌∙◌}
use lib.ListN.{length}
use Rattle.reads.proofs.Showing.{length-reply}
use Rattle.replying.proofs.Turns.{first_turn, next-turn, last-turn}
use Rattle.replying.proofs.answers.write_replies.Goals as goal

pub loop-k-init : goal.loop-k-init
loop-k-init c = first_turn c.args.part c.args.table.now c.args.buffer.now (cc) (cc) (cc)

pub slice_bounds-put-end : goal.slice_bounds-put-end
slice_bounds-put-end c = sym (ap length c.reply_of-eight.ensures ∙ length-reply c.args.part _)

pub loop-k-preserved : goal.loop-k-preserved
loop-k-preserved c =
    let a = c.args in
    let one = c.in-Some.ensures.steps in
    next-turn a.part a.table.now a.buffer.now c.loop-k.invariant c.requires c.in-Some.rec.now c.next.new.self.iter.rest.now one.0.1.0 one.0.1.1 c.reply_of-eight.ensures
    one.1 one.2 one.0.0 c.put.ensures

pub shape_of-buffer : goal.shape_of-buffer
shape_of-buffer c = c.loop-k.invariant.filling.size

pub returns : goal.returns
returns c = last-turn c.args.part c.args.table.now c.args.buffer.now c.loop-k.invariant c.in-None.ensures.steps.0.1.0
