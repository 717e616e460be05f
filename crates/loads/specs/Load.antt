-- Document 01, "Readings and thresholds", and document 02, L1: sixteen codes stored in one monitor of the chain, its stored cells compared
-- with its thresholds, and the load, which is both. Positions count from 1.
-- Assumes nothing.
use Rattle.std.specs.Prelude.{not, List, [], ◌∷◌, ℕ, ◌-◌, eqb, ℤ, length, Result, Ok, Err}
use Rattle.laws.specs.Counts.{all}
use Rattle.refusals.specs.declared.Refusal.TheVariants.{CountWrong, CodeCleared}
use Rattle.refusals.specs.Order.{Row, ◌gives◌, decide}
use Rattle.records.specs.Record.{cell_count}
use Rattle.judging.specs.Table.{changed_at}
use Rattle.judging.specs.Refusals.{table_row, position_row}
use Rattle.cells.specs.Cells.{is_cleared, store, compare, load}
use Rattle.refusals.specs.declared.Refusal.{Refusal}

-- ---- the refusals, each by what it asks of, after 1 and 7, of the table and of the position

-- 8: of how many codes
abbrev pub count_row : List ℤ → Row
count_row codes = not (eqb (length codes) cell_count) gives CountWrong

-- 9: of the codes
abbrev pub cleared_row : List ℤ → Row
cleared_row codes = not (all (λ code. not (is_cleared code)) codes) gives CodeCleared

-- ---- store

unfoldable pub store_refusals : List ℕ → ℕ → List ℤ → List Row
store_refusals table position codes = table_row table ∷ position_row table position ∷ count_row codes ∷ cleared_row codes ∷ []

unfoldable pub stored : List ℕ → ℕ → List ℤ → Result (Unit {0}) Refusal
stored table position codes = decide (store_refusals table position codes) Err (Ok tt)

unfoldable pub table_after_store : List ℕ → ℕ → List ℤ → List ℕ
table_after_store table position codes = decide (store_refusals table position codes) (λ n. table) (changed_at (position - 1) (store codes) table)

-- ---- compare

unfoldable pub compare_refusals : List ℕ → ℕ → List Row
compare_refusals table position = table_row table ∷ position_row table position ∷ []

unfoldable pub compared : List ℕ → ℕ → Result (Unit {0}) Refusal
compared table position = decide (compare_refusals table position) Err (Ok tt)

unfoldable pub table_after_compare : List ℕ → ℕ → List ℕ
table_after_compare table position = decide (compare_refusals table position) (λ n. table) (changed_at (position - 1) compare table)

-- ---- load

unfoldable pub load_refusals : List ℕ → ℕ → List ℤ → List Row
load_refusals table position codes = table_row table ∷ position_row table position ∷ count_row codes ∷ cleared_row codes ∷ []

unfoldable pub loaded : List ℕ → ℕ → List ℤ → Result (Unit {0}) Refusal
loaded table position codes = decide (load_refusals table position codes) Err (Ok tt)

unfoldable pub table_after_load : List ℕ → ℕ → List ℤ → List ℕ
table_after_load table position codes = decide (load_refusals table position codes) (λ n. table) (changed_at (position - 1) (load codes) table)
