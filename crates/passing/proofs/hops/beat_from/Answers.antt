-- `passing::hops::beat_from` meets its contract: what the first sends is what goes its way.
-- Assumes nothing.
use mathlib.Core.Path.{ap, ◌∙◌}
use Rattle.passing.specs.Hops.{bytes_sent}
use Rattle.passing.proofs.Beaten.{silent_beat, message_beat}
use Rattle.passing.proofs.hops.beat_from.Goals as goal

pub returns-in_err-first : goal.returns-in_err-first
returns-in_err-first c =
    let woke = c.wake_at.ensures in
    let told = silent_beat _ _ _ woke.value woke.table_after c.in_err-first.was in
    record { result_value = ap bytes_sent c.from_residual.ensures ∙ told.0; table_after = told.1 }

pub returns : goal.returns
returns c =
    let woke = c.wake_at.ensures in
    let went = c.pass_on.ensures in
    let told = message_beat _ _ _ woke.value woke.table_after c.in_ok-first.was went.result_value went.table_after in
    record { result_value = told.0; table_after = told.1 }
