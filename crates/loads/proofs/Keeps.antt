-- A sound table stays sound and keeps its monitors, whatever is stored, compared or loaded: one of its records is made anew, sound and of
-- the same length; a refusal leaves the table.
-- Assumes nothing.
use mathlib.Core.Path.{◌≡◌}
use mathlib.Core.Bool.{true}
use mathlib.Core.List.{List}
use Prim.Native.Nat.{ℕ, ◌-◌, ◌<◌}
use lib.IntN.{ℤ}
use lib.ListN.{length}
use Rattle.refusals.specs.Order.{Row, decide, Passed}
use Rattle.records.specs.Record.{record_sound}
use Rattle.judging.specs.Table.{monitors, sound, changed_at}
use Rattle.judging.proofs.Keeps.{Keeps, stays}
use Rattle.refusals.proofs.Decided.{by-passing}
use Rattle.judging.proofs.Changed.{changed-keeps}
use Rattle.cells.specs.Cells.{store, compare, load}
use Rattle.cells.proofs.Loaded.{length-store, sound-store, length-compare, sound-compare, length-load, sound-load}
use Rattle.loads.specs.Load.{store_refusals, table_after_store, compare_refusals, table_after_compare, load_refusals, table_after_load}
use Rattle.judging.proofs.Place.{there}
use Rattle.loads.proofs.Place.{compare_place, store_place}

keeps : (rows : List Row) (k : ℕ) (f : List ℕ → List ℕ) → ((r : List ℕ) → length (f r) ≡ length r) → ((r : List ℕ) → record_sound (f r) ≡ record_sound r)
    → (table : List ℕ) → sound table ≡ true → (Passed rows → k < monitors table) → Keeps table (decide rows (λ n. table) (changed_at k f table))
keeps rows k f as_long as-sound table s has =
    by-passing (Keeps table) rows (λ n. table) (changed_at k f table) (λ r. stays table s) (λ none. changed-keeps k f as_long as-sound table s (has none))

module _ (table : List ℕ) (position : ℕ) (s : sound table ≡ true) where
  pub compare-keeps : Keeps table (table_after_compare table position)
  unfolding table_after_compare
  compare-keeps =
      keeps (compare_refusals table position) (position - 1) compare length-compare sound-compare table s (λ none. there table position (compare_place table position none))

  module _ (codes : List ℤ) where
    has : Passed (store_refusals table position codes) → position - 1 < monitors table
    has none = there table position (store_place table position codes none)

    pub store_keeps : Keeps table (table_after_store table position codes)
    unfolding table_after_store
    store_keeps = keeps (store_refusals table position codes) (position - 1) (store codes) (length-store codes) (sound-store codes) table s has

    pub load-keeps : Keeps table (table_after_load table position codes)
    unfolding table_after_load load_refusals store_refusals
    load-keeps = keeps (load_refusals table position codes) (position - 1) (load codes) (length-load codes) (sound-load codes) table s has
