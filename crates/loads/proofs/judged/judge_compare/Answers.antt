-- `loads::judged::judge_compare` meets its contract: what has its place is done, and what has none is refused as it is.
-- Assumes nothing.
use mathlib.Core.Path.{sym, ap, ◌∙◌}
use Rattle.judging.proofs.Place.{by_place}
use Rattle.refusals.proofs.PassedOn.{passed_on}
use Rattle.loads.proofs.Judging.{compared-placed}
use Rattle.loads.proofs.judged.judge_compare.Goals as goal
use Rattle.std.specs.Prelude.{Ok, Err}

pub returns-in_err-place_of : goal.returns-in_err-place_of
returns-in_err-place_of c = passed_on c.from_residual.ensures.1 ∙ ap (by_place Err (Ok tt)) c.in_err-place_of.ensures ∙ sym (compared-placed c.args.table.now c.args.position)

pub returns : goal.returns
returns c = ap (by_place Err (Ok tt)) c.in_ok-place_of.ensures ∙ sym (compared-placed c.args.table.now c.args.position)
