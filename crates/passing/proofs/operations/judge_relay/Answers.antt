-- `passing::operations::judge_relay` meets its contract: each test is the condition of a refusal, in their order.
-- Assumes nothing.
use mathlib.Core.Path.{sym, ◌∙◌}
use mathlib.Core.List.{[], ◌∷◌}
use Rattle.refusals.proofs.PassedOn.{passed_on}
use Rattle.judging.specs.Places.{place_refusals}
use Rattle.passing.specs.Operations.{message_row, out_row, relay_refusals}
use Rattle.passing.proofs.Judged.{no_place, then-later, no_room, has_room, wrong_length, right-length}
use Rattle.passing.proofs.operations.judge_relay.Goals as goal
use Rattle.std.specs.Prelude.{Err}

pub returns-then-bytes-ne-MESSAGE_SIZE : goal.returns-then-bytes-ne-MESSAGE_SIZE
unfolding relay_refusals place_refusals
returns-then-bytes-ne-MESSAGE_SIZE c =
    let a = c.args in
    let e = sym c.in_ok-k.ensures in
    sym (then-later a.table.now a.position (message_row a.bytes ∷ out_row a.room ∷ []) e ∙ wrong_length a.room Err _ a.bytes c.if-bytes-ne-MESSAGE_SIZE.true)

pub returns-then-room-lt-MESSAGE_SIZE : goal.returns-then-room-lt-MESSAGE_SIZE
unfolding relay_refusals place_refusals
returns-then-room-lt-MESSAGE_SIZE c =
    let a = c.args in
    let e = sym c.in_ok-k.ensures in
    sym
    (then-later a.table.now a.position (message_row a.bytes ∷ out_row a.room ∷ []) e
    ∙ right-length a.room Err _ a.bytes c.if-bytes-ne-MESSAGE_SIZE.false
    ∙ no_room a.room Err _ c.if-room-lt-MESSAGE_SIZE.true)

pub returns-in_err-k : goal.returns-in_err-k
unfolding relay_refusals place_refusals
returns-in_err-k c =
    let a = c.args in
    let e = sym c.in_err-k.ensures in
    passed_on c.from_residual.ensures.1 ∙ sym (no_place a.table.now a.position (message_row a.bytes ∷ out_row a.room ∷ []) e)

pub returns : goal.returns
unfolding relay_refusals place_refusals
returns c =
    let a = c.args in
    let e = sym c.in_ok-k.ensures in
    sym
    (then-later a.table.now a.position (message_row a.bytes ∷ out_row a.room ∷ []) e
    ∙ right-length a.room Err _ a.bytes c.if-bytes-ne-MESSAGE_SIZE.false
    ∙ has_room a.room Err _ c.if-room-lt-MESSAGE_SIZE.false)
