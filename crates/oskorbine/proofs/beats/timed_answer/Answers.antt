-- `oskorbine::beats::timed_answer` meets its contract, answer by answer.
-- Assumes nothing.
use mathlib.Core.Path.{ap, ◌∙◌}
use Rattle.std.specs.Prelude.{Ok}
use Rattle.oskorbine.specs.Answers.{timed_parts}
use Rattle.packing.proofs.Packed.{as_told}
use Rattle.oskorbine.proofs.beats.timed_answer.Goals as goal

pub returns-in-Err : goal.returns-in-Err
returns-in-Err c = as_told timed_parts c.refused.ensures c.in-Err.is

pub returns-in-NoTimeoutMonitor : goal.returns-in-NoTimeoutMonitor
returns-in-NoTimeoutMonitor c = as_told timed_parts c.accepted.ensures (c.in-Ok.is ∙ ap Ok c.in-NoTimeoutMonitor.is)

pub returns-in-RanOut : goal.returns-in-RanOut
returns-in-RanOut c = as_told timed_parts c.accepted-in-RanOut.ensures (c.in-Ok.is ∙ ap Ok c.in-RanOut.is)
