-- How the engines go about it: refusals 1 to 5 are judged by the count of a sound table, how many bytes came and the first four of
-- them, whichever engine they came to.
-- Assumes nothing.
use Rattle.std.specs.Prelude.{not, ◌&&◌, List, [], ◌∷◌, ℕ, leb, take, Result, Ok, Err}
use Rattle.refusals.specs.declared.Refusal.TheVariants.{TableNotSound}
use Rattle.refusals.specs.Order.{Row, ◌gives◌, decide}
use Rattle.records.specs.declared.commands.Command.{Command}
use Rattle.records.specs.Commands.{most_monitors}
use Rattle.judging.specs.declared.heads.Judged.{Judged}
use Rattle.judging.specs.Refusals.{command_in, short_row, command_row, listed_row, length_row}
use Rattle.refusals.specs.declared.Refusal.{Refusal}

-- 1: of a table's count, which is 0 where the table is not sound
abbrev pub count_row : ℕ → Row
count_row n = not (leb 1 n && leb n most_monitors) gives TableNotSound

-- 2 to 5, for n monitors
abbrev pub later_rows : List ℕ → ℕ → ℕ → List Row
later_rows frame bytes n = short_row bytes ∷ command_row (take 4 frame) ∷ listed_row frame ∷ length_row bytes (command_in frame) n ∷ []

-- a frame of a command, for so many monitors, that nothing refuses
abbrev pub good : Command → ℕ → Result Judged Refusal
good c n = Ok (record { command = c; monitors = n })

unfoldable pub head_judged : List ℕ → ℕ → ℕ → Result Judged Refusal
head_judged frame bytes n = decide (count_row n ∷ later_rows frame bytes n) Err (good (command_in frame) n)
