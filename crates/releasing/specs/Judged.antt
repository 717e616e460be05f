-- How a release goes about it: it is judged first, by the refusals alone.
-- Assumes nothing.
use Rattle.std.specs.Prelude.{List, ℕ, Result, Err}
use Rattle.refusals.specs.Order.{decide}
use Rattle.judging.specs.Table.{monitors}
use Rattle.judging.specs.Refusals.{command_in}
use Rattle.judging.specs.declared.heads.Judged.{Judged}
use Rattle.clocking.specs.Clock.{Clock}
use Rattle.releasing.specs.Release.{release_refusals}
use Rattle.refusals.specs.declared.Refusal.{Refusal}
use Rattle.judging.specs.Heads.{good}

-- the first refusal that holds, or the command and the number of monitors
unfoldable pub judged : Clock → List ℕ → Result Judged Refusal
judged c table = decide (release_refusals c table) Err (good (command_in c.head) (monitors table))
