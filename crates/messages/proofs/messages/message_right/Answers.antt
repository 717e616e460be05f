-- `messages::messages::message_right` meets its contract: a message is its head, and behind it two bytes and their seal.
-- Assumes nothing.
use mathlib.Core.Path.{sym, ◌∙◌}
use Rattle.messages.proofs.Heads.{headless, headed_right}
use Rattle.messages.proofs.messages.message_right.Goals as goal

pub returns-in-Some : goal.returns-in-Some
returns-in-Some c =
    let told = c.in-Some.ensures.cases in
    c.four_right.ensures ∙ sym (headed_right c.args.bytes.now c.in-Some.own.now told.1 told.2 told.0)

pub returns-in-None : goal.returns-in-None
returns-in-None c = sym (headless c.args.bytes.now c.in-None.ensures.cases)
