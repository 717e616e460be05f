-- The record of the monitor at k has a record's length where the table has it whole.
-- Assumes nothing.
use mathlib.Core.Path.{◌≡◌, ◌∙◌}
use mathlib.Core.List.{List}
use Prim.Native.Nat.{ℕ, ◌+◌, ◌*◌, ◌≤◌}
use native.Mathlib.Omega.{arith}
use lib.ListN.{length}
use Rattle.laws.specs.Rows.{row_at}
use Rattle.laws.proofs.Rows.{length-row}
use Rattle.records.specs.Record.{record_size}

pub lent_length : (k : ℕ) (table : List ℕ) → k * record_size + record_size ≤ length table → length (row_at record_size k table) ≡ record_size
lent_length k table fits = length-row record_size k table ∙ omega arith
