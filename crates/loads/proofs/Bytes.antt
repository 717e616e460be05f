-- Byte by byte: a store changes only the cells of the monitor at its position, a compare only its flags, and of those no bit that was set.
-- Outside one record the table stays; inside it goes by the laws of `cells`.
-- Assumes nothing.
use mathlib.Core.Path.{◌≡◌, refl}
use mathlib.Core.List.{List}
use Prim.Native.Nat.{ℕ, ◌-◌, ◌≤◌}
use lib.Bits.{bit_or, or_self}
use lib.IntN.{ℤ}
use lib.ListN.{length, get_or}
use Rattle.laws.specs.Rows.{row_at}
use Rattle.records.specs.Record.{record_size, cells, flags}
use Rattle.judging.specs.Table.{changed_at, Beside}
use Rattle.judging.proofs.Lent.{lent_length}
use Rattle.refusals.proofs.Decided.{by-passing}
use Rattle.judging.proofs.Changed.{length-changed, each_byte, beside_stays}
use Rattle.cells.specs.Cells.{store, compare}
use Rattle.cells.proofs.Loaded.{length-store, store_below, store_above, length-compare, compare-below, compare_above}
use Rattle.cells.proofs.OwnFlags.{only_sets}
use Rattle.loads.specs.Load.{store_refusals, table_after_store, compare_refusals, table_after_compare}
use Rattle.judging.proofs.Place.{Place, fits}
use Rattle.loads.proofs.Place.{compare_place, store_place}

module _ (table : List ℕ) (position : ℕ) where
  abbrev k : ℕ
  k = position - 1

  abbrev own : List ℕ
  own = row_at record_size k table

  module _ (codes : List ℤ) where
    -- what holds of the table, and of what a store makes of it in its place
    after_store : (P : List ℕ → Type 0) → P table → (Place table position → P (changed_at k (store codes) table)) → P (table_after_store table position codes)
    unfolding table_after_store
    after_store P stays changed =
        by-passing P (store_refusals table position codes) (λ n. table) (changed_at k (store codes) table) (λ r. stays)
        (λ none. changed (store_place table position codes none))

    pub store-as_long : length (table_after_store table position codes) ≡ length table
    store-as_long = after_store (λ after. length after ≡ length table) refl (λ p. length-changed k (store codes) (length-store codes) table (fits table position p))

    pub store_only_cells : (i : ℕ) → (1 ≤ position → Beside cells k i) → get_or (table_after_store table position codes) i 0 ≡ get_or table i 0
    store_only_cells i beside =
        after_store (λ after. get_or after i 0 ≡ get_or table i 0) refl
        (λ p.
        beside_stays k (store codes) (length-store codes) table (fits table position p) cells (λ j h. store_below codes own h) (λ j h. store_above codes own h) i
        (beside p.first))

  after-compare : (P : List ℕ → Type 0) → P table → (Place table position → P (changed_at k compare table)) → P (table_after_compare table position)
  unfolding table_after_compare
  after-compare P stays changed =
      by-passing P (compare_refusals table position) (λ n. table) (changed_at k compare table) (λ r. stays) (λ none. changed (compare_place table position none))

  pub compare-as_long : length (table_after_compare table position) ≡ length table
  compare-as_long = after-compare (λ after. length after ≡ length table) refl (λ p. length-changed k compare length-compare table (fits table position p))

  pub compare_only_flags : (i : ℕ) → (1 ≤ position → Beside flags k i) → get_or (table_after_compare table position) i 0 ≡ get_or table i 0
  compare_only_flags i beside =
      after-compare (λ after. get_or after i 0 ≡ get_or table i 0) refl
      (λ p.
      beside_stays k compare length-compare table (fits table position p) flags (λ j h. compare-below own h) (λ j h. compare_above own h) i (beside p.first))

  pub compare_only_sets : (i : ℕ) → bit_or (get_or table i 0) (get_or (table_after_compare table position) i 0) ≡ get_or (table_after_compare table position) i 0
  compare_only_sets i =
      after-compare (λ after. bit_or (get_or table i 0) (get_or after i 0) ≡ get_or after i 0) (or_self (get_or table i 0))
      (λ p.
      each_byte k compare length-compare table (fits table position p) (λ x y. bit_or x y ≡ y) or_self i
      (λ j h e. only_sets own (lent_length k table (fits table position p)) j))
