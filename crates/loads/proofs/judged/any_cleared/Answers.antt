-- `loads::judged::any_cleared` meets its contract: one of the codes is that of a cleared cell where not all are others.
-- Assumes nothing.
use mathlib.Core.Path.{◌∙◌}
use Rattle.loads.proofs.Cleared.{listed}
use Rattle.loads.proofs.judged.any_cleared.Goals as goal

pub returns : goal.returns
returns c = c.contains.ensures.value ∙ listed c.args.codes.now
