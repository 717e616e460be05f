-- `passing::hops::towards_a_at` meets its contract: the record is lent.
-- Assumes nothing.
use mathlib.Core.Path.{ap, ◌∙◌}
use Rattle.judging.proofs.Lies.{part-row}
use Rattle.heartbeats.specs.Steps.{towards_a}
use Rattle.passing.proofs.hops.towards_a_at.Goals as goal

pub returns-in-Some : goal.returns-in-Some
returns-in-Some c = c.is_towards_a.ensures ∙ ap towards_a (part-row c.args.k c.args.table.now c.in-Some.ensures)
