-- What the record lies as after a store, a compare and a load, and that there is one: a place that no refusal stops has a record.
-- Assumes nothing.
use mathlib.Core.Path.{◌≡◌, ap, ap₂, ◌∙◌}
use mathlib.Core.Bool.{Bool, cond, ◌&&◌}
use mathlib.Core.List.{List}
use Prim.Native.Nat.{ℕ, ◌+◌, ◌*◌, ◌≤◌}
use lib.Dec.{eqb}
use lib.IntN.{ℤ}
use lib.ListN.{length}
use borrow.Author.Tests.{eq-eqb}
use Rattle.laws.specs.Rows.{row_at}
use Rattle.records.specs.Record.{record_size, is_record, cell_count}
use Rattle.records.proofs.Answers.{is-record}
use Rattle.judging.proofs.Lent.{lent_length}
use Rattle.judging.proofs.Lies.{part, fits, part-row, part_record}
use Rattle.cells.specs.Cells.{store, compare, load}
use Rattle.cells.proofs.Loaded.{length-store}

module _ (k : ℕ) (table : List ℕ) {start end : ℕ} (lies : (start ≡ k * record_size) × (end ≡ k * record_size + record_size) × (end ≤ length table)) where
  abbrev its : List ℕ
  its = part k table lies

  pub was-stored : (codes : List ℤ) → length codes ≡ cell_count → {after : List ℕ}
      → after ≡ cond (is_record its && eqb (length codes) cell_count) (store codes its) its → after ≡ store codes (row_at record_size k table)
  was-stored codes sixteen e =
      e
      ∙ ap (λ (b : Bool). cond b (store codes its) its) (ap₂ ◌&&◌ (part_record k table lies) (eq-eqb _ _ sixteen))
      ∙ ap (store codes) (part-row k table lies)

  pub was-loaded : (codes : List ℤ) → length codes ≡ cell_count → {stored after : List ℕ}
      → stored ≡ cond (is_record its && eqb (length codes) cell_count) (store codes its) its → after ≡ cond (is_record stored) (compare stored) stored
      → after ≡ load codes (row_at record_size k table)
  unfolding load
  was-loaded codes sixteen {stored} {after} e f =
      let new = store codes (row_at record_size k table) in
      let whole : length new ≡ record_size = length-store codes (row_at record_size k table) ∙ lent_length k table (fits k table lies) in
      f
      ∙ ap (λ (r : List ℕ). cond (is_record r) (compare r) r) (was-stored codes sixteen e)
      ∙ ap (λ (b : Bool). cond b (compare new) new) (is-record new whole)
