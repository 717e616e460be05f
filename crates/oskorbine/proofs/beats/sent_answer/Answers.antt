-- `oskorbine::beats::sent_answer` meets its contract, answer by answer.
-- Assumes nothing.
use mathlib.Core.Path.{ap, ◌∙◌}
use Rattle.std.specs.Prelude.{Ok, Some}
use Rattle.oskorbine.specs.Answers.{sent_parts}
use Rattle.packing.proofs.Packed.{as_told}
use Rattle.oskorbine.proofs.beats.sent_answer.Goals as goal

pub returns-in-Err : goal.returns-in-Err
returns-in-Err c = as_told sent_parts c.refused.ensures c.in-Err.is

pub returns-in-None : goal.returns-in-None
returns-in-None c = as_told sent_parts c.accepted.ensures (c.in-Ok.is ∙ ap Ok c.in-None.is)

pub returns-in-A : goal.returns-in-A
returns-in-A c = as_told sent_parts c.accepted-in-A.ensures (c.in-Ok.is ∙ ap Ok (c.in-Some.is ∙ ap Some c.in-A.is))

pub returns-in-B : goal.returns-in-B
returns-in-B c = as_told sent_parts c.accepted-in-B.ensures (c.in-Ok.is ∙ ap Ok (c.in-Some.is ∙ ap Some c.in-B.is))
