-- `messages::verdicts::verdict_on` meets its contract, by the length and the time.
-- Assumes nothing.
use lib.ListN.{length}
use borrow.Author.Tests.{eq-eqb, ne_eqb, not-true, not-false}
use Rattle.refusals.specs.Order.{decide}
use Rattle.messages.specs.Messages.{message_size}
use Rattle.messages.specs.Verdicts.{verdict_refusals, verdict_of, verdict}
use Rattle.messages.proofs.verdicts.verdict_on.Goals as goal

pub returns-then-bytes-eq-MESSAGE_SIZE : goal.returns-then-bytes-eq-MESSAGE_SIZE
unfolding verdict verdict_refusals decide
returns-then-bytes-eq-MESSAGE_SIZE c =
    let start = c in
    simp (eq-eqb (length start.args.bytes.now) message_size c.if-bytes-eq-MESSAGE_SIZE.true, c.of_eight.ensures)

pub returns-then-not-ran_out : goal.returns-then-not-ran_out
unfolding verdict verdict_refusals decide
returns-then-not-ran_out c =
    let start = c in
    simp (ne_eqb (length start.args.bytes.now) message_size c.if-bytes-eq-MESSAGE_SIZE.false, not-true start.args.ran_out c.if-not-ran_out.true-raw)

pub returns-then-bytes-ne0 : goal.returns-then-bytes-ne0
unfolding verdict verdict_refusals decide
returns-then-bytes-ne0 c =
    let start = c in
    let bytes = start.args.bytes.now in
    simp (ne_eqb (length bytes) message_size c.if-bytes-eq-MESSAGE_SIZE.false, not-false start.args.ran_out c.if-not-ran_out.false-raw, ne_eqb (length bytes) 0 c.if-bytes-ne0.true)

pub returns : goal.returns
unfolding verdict verdict_of verdict_refusals decide
returns c =
    let start = c in
    let bytes = start.args.bytes.now in
    simp (ne_eqb (length bytes) message_size c.if-bytes-eq-MESSAGE_SIZE.false, not-false start.args.ran_out c.if-not-ran_out.false-raw, eq-eqb (length bytes) 0 c.if-bytes-ne0.false)
