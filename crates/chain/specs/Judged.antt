-- How the engine of a whole frame goes about it: a frame is judged first, by the refusals alone. What an accepted frame is known to be.
-- Assumes nothing.
use Rattle.std.specs.Prelude.{◌≡◌, List, ℕ, ◌*◌, ◌≤◌, length, Result, Ok, Err}
use Rattle.refusals.specs.Order.{decide}
use Rattle.records.specs.declared.commands.Command.{Command}
use Rattle.records.specs.Record.{record_size}
use Rattle.records.specs.Commands.{most_monitors, frame_length, reply_length}
use Rattle.judging.specs.declared.heads.Judged.{Judged}
use Rattle.judging.specs.Table.{monitors}
use Rattle.judging.specs.Refusals.{command_in}
use Rattle.chain.specs.Frame.{frame_refusals}
use Rattle.refusals.specs.declared.Refusal.{Refusal}
use Rattle.judging.specs.Heads.{good}

unfoldable pub judged : List ℕ → List ℕ → ℕ → Result Judged Refusal
judged table frame room = decide (frame_refusals table frame room) Err (good (command_in frame) (monitors table))

pub record Ready (c : Command) (n : ℕ) (table frame : List ℕ) (room : ℕ) : Type 0 where
  pub whole : length table ≡ n * record_size
  pub some : 1 ≤ n
  pub few : n ≤ most_monitors
  pub long : length frame ≡ frame_length c n
  pub enough : reply_length c n ≤ room

abbrev pub ReadyIf : Result Judged Refusal → List ℕ → List ℕ → ℕ → Type 0
ReadyIf (Err r) table frame room = Unit {0}
ReadyIf (Ok j) table frame room = Ready j.command j.monitors table frame room
