-- `oskorbine::beats::relayed_answer` meets its contract, answer by answer.
-- Assumes nothing.
use mathlib.Core.Path.{ap, ◌∙◌}
use Rattle.std.specs.Prelude.{Ok}
use Rattle.oskorbine.specs.Answers.{relayed_parts}
use Rattle.packing.proofs.Packed.{as_told}
use Rattle.oskorbine.proofs.beats.relayed_answer.Goals as goal

pub returns-in-Err : goal.returns-in-Err
returns-in-Err c = as_told relayed_parts c.refused.ensures c.in-Err.is

pub returns-in-Stopped : goal.returns-in-Stopped
returns-in-Stopped c = as_told relayed_parts c.accepted.ensures (c.in-Ok.is ∙ ap Ok c.in-Stopped.is)

pub returns-in-SentOn : goal.returns-in-SentOn
returns-in-SentOn c = as_told relayed_parts c.accepted-in-SentOn.ensures (c.in-Ok.is ∙ ap Ok c.in-SentOn.is)
