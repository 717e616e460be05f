-- Document 02, L2: the question about the discharge outputs of one monitor of the chain, its refusals and its answer. Positions count from 1.
-- Assumes nothing.
use Rattle.std.specs.Prelude.{List, [], ◌∷◌, ◌++◌, ℕ, ◌-◌, ltb, length, drop, Result, Ok, Err}
use Rattle.laws.specs.Rows.{row_at}
use Rattle.refusals.specs.declared.Refusal.TheVariants.{PositionWrong, NoRoom}
use Rattle.refusals.specs.Order.{Row, ◌gives◌, decide}
use Rattle.records.specs.Record.{cell_count, record_size}
use Rattle.judging.specs.Refusals.{table_row, position_row}
use Rattle.priorities.specs.declared.outputs.Events.{Events}
use Rattle.priorities.specs.Table27.{last_phase}
use Rattle.priorities.specs.Outputs.{outputs, count_on}
use Rattle.refusals.specs.declared.Refusal.{Refusal}

-- ---- the refusals, in their order; 1 and 7 are those of the table and of the position

-- 7: of the phase
abbrev pub phase_row : ℕ → Row
phase_row phase = ltb last_phase phase gives PositionWrong

-- 6: of the room for a byte for each output
abbrev pub out_row : ℕ → Row
out_row room = ltb room cell_count gives NoRoom

unfoldable pub discharge_refusals : List ℕ → ℕ → ℕ → ℕ → List Row
discharge_refusals table position phase room = table_row table ∷ position_row table position ∷ phase_row phase ∷ out_row room ∷ []

-- ---- what comes of it. The table is only read, and a refusal changes nothing

unfoldable pub discharged : List ℕ → ℕ → Events → ℕ → ℕ → Result ℕ Refusal
discharged table position events phase room =
    decide (discharge_refusals table position phase room) Err (Ok (count_on events phase (row_at record_size (position - 1) table)))

-- the outputs at the start of a buffer, cell 1's first; bytes past them stay
unfoldable pub outputs_after : List ℕ → ℕ → Events → ℕ → List ℕ → List ℕ
outputs_after table position events phase out =
    decide (discharge_refusals table position phase (length out)) (λ n. out)
    (outputs events phase (row_at record_size (position - 1) table) ++ drop cell_count out)
