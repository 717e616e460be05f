-- `replying::answers::write_replies` meets its contract: a reply a turn, from the front of the buffer, and the iterator has the records that are left.
-- Assumes nothing.
use Rattle.replying.proofs.Turns.{Turn}
use Rattle.replying.proofs.answers.write_replies.Given as goal

abbrev pub invariant-loop-k : goal.invariant-loop-k
invariant-loop-k l = Turn l.part l.table l.initial.buffer l.buffer l.k-iterator.count l.k-iterator.iter.size l.k-iterator.iter.rest.now
