-- Document 01, "The clocked engine" and "Numbers that come back": the end of a frame. Each monitor acts on its own window. There is
-- no reply buffer here, so no refusal 6.
-- Assumes nothing.
use Rattle.std.specs.Prelude.{Bool, not, ◌&&◌, ◌||◌, List, [], ◌∷◌, ℕ, eqb, leb, Result, Err}
use Rattle.laws.specs.Rows.{rows, joined, along}
use Rattle.refusals.specs.declared.Refusal.TheVariants.{TableNotSound}
use Rattle.refusals.specs.Order.{Row, ◌gives◌, decide}
use Rattle.records.specs.Record.{record_size}
use Rattle.monitor.specs.Effects.{keeps}
use Rattle.records.specs.Commands.{reply_length}
use Rattle.chain.specs.declared.frames.Answer.{Answer}
use Rattle.judging.specs.Table.{monitors, sound}
use Rattle.judging.specs.Refusals.{command_in, short_row, command_row, listed_row, length_row}
use Rattle.serving.specs.Served.{takers}
use Rattle.clocking.specs.Clock.{Clock}
use Rattle.refusals.specs.declared.Refusal.{Refusal}
use Rattle.chain.specs.Frame.{took}

-- at byte four the count was another than n; it was 0 where the table was not sound
unfoldable pub another_count : Clock → ℕ → Bool
another_count c n = leb 4 c.seen && not (eqb c.chained n)

-- the table was not sound, or had another N, at byte four
abbrev pub another : Clock → List ℕ → Bool
another c table = another_count c (monitors table)

unfoldable pub release_refusals : Clock → List ℕ → List Row
release_refusals c table =
    (not (sound table) || another c table gives TableNotSound)
    ∷ short_row c.seen
    ∷ command_row c.head
    ∷ listed_row c.head
    ∷ length_row c.seen (command_in c.head) (monitors table)
    ∷ []

-- how many monitors took the frame, each by its own record and its own window
unfoldable pub taken_of : Clock → List ℕ → ℕ
taken_of c table = takers (command_in c.head) (rows record_size (monitors table) table) c.windows

-- what each monitor keeps of the command, its own record and its own window
unfoldable pub kept_of : Clock → List ℕ → List ℕ
kept_of c table = joined (along (λ r window. keeps (command_in c.head) window r) (rows record_size (monitors table) table) c.windows)

unfoldable pub released : Clock → List ℕ → Result Answer Refusal
released c table = decide (release_refusals c table) Err (took (taken_of c table) (reply_length (command_in c.head) (monitors table)))

unfoldable pub table_released : Clock → List ℕ → List ℕ
table_released c table = decide (release_refusals c table) (λ r. table) (kept_of c table)
