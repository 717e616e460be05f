-- Where one monitor lies in the table: judged by the table and the monitor's position, counted from 1.
-- Assumes nothing.
use Rattle.std.specs.Prelude.{List, [], ◌∷◌, ℕ, ◌-◌, Result, Ok, Err}
use Rattle.refusals.specs.Order.{Row, decide}
use Rattle.judging.specs.Refusals.{table_row, position_row}
use Rattle.refusals.specs.declared.Refusal.{Refusal}

unfoldable pub place_refusals : List ℕ → ℕ → List Row
place_refusals table position = table_row table ∷ position_row table position ∷ []

unfoldable pub placed : List ℕ → ℕ → Result ℕ Refusal
placed table position = decide (place_refusals table position) Err (Ok (position - 1))
