-- A load is its two halves: where a store is done the compare after it is, and the two leave the table that the load leaves. Of two
-- stores the second counts; a compare after a compare changes nothing; and each is judged as if it were the only one. By two changes of one
-- record, which are one.
-- Assumes nothing.
use mathlib.Core.Path.{◌≡◌, refl, sym, ap, ◌∙◌}
use mathlib.Core.List.{List}
use Prim.Native.Nat.{ℕ, ◌-◌}
use lib.IntN.{ℤ}
use Rattle.judging.specs.Table.{changed_at}
use Rattle.judging.proofs.Changed.{changed_twice}
use Rattle.cells.specs.Cells.{store, compare, load}
use Rattle.cells.proofs.Loaded.{length-store, length-compare}
use Rattle.cells.proofs.Repeated.{store-store, compare-compare}
use Rattle.loads.specs.Load.{stored, table_after_store, compared, table_after_compare, table_after_load}
use Rattle.loads.proofs.Judging.{as_stored, goes_on}
use Rattle.loads.proofs.Refused.{table-compared, table-stored, table-loaded}
use Rattle.judging.proofs.Place.{Place, fits, kept_place}
use Rattle.loads.proofs.Place.{done_place, compare-done, store_place, stored-passed}
use Rattle.loads.proofs.Keeps.{store_keeps, compare-keeps}
use Rattle.std.specs.Prelude.{Result, Ok, Err}
use Rattle.refusals.specs.declared.Refusal.{Refusal}

module _ (table : List ℕ) (position : ℕ) where
  -- ---- a store and a compare

  module _ (codes : List ℤ) (done : stored table position codes ≡ (Ok tt)) where
    its_place : Place table position
    its_place = store_place table position codes (stored-passed table position codes done)

    pub compare-after-store : compared (table_after_store table position codes) position ≡ (Ok tt)
    compare-after-store =
        compare-done (table_after_store table position codes) position (kept_place position (store_keeps table position its_place.its-sound codes) its_place)

    pub store_and_compare : table_after_compare (table_after_store table position codes) position ≡ table_after_load table position codes
    unfolding load
    store_and_compare =
        table-compared (table_after_store table position codes) position compare-after-store
        ∙ ap (changed_at (position - 1) compare) (table-stored table position codes done)
        ∙ changed_twice (position - 1) (store codes) (length-store codes) table (fits table position its_place) compare (load codes) (λ r l. refl)
        ∙ sym (table-loaded table position codes (as_stored table position codes ∙ done))

  -- ---- two stores, the first done or refused: the second is judged as if it were the only one, and counts

  pub second-judged : (first second : List ℤ) → stored (table_after_store table position first) position second ≡ stored table position second
  second-judged first second = by (stored table position first) refl
    where
      by : (l : Result (Unit {0}) Refusal) → stored table position first ≡ l → stored (table_after_store table position first) position second ≡ stored table position second
      by (Err r) e = ap (λ (t : List ℕ). stored t position second) (table-stored table position first e)
      by (Ok tt) e =
          goes_on second (table_after_store table position first) position (compare-after-store first e)
          ∙ sym (goes_on second table position (compare-done table position (its_place first e)))

  pub second_counts : (first second : List ℤ) → stored table position second ≡ (Ok tt)
      → table_after_store (table_after_store table position first) position second ≡ table_after_store table position second
  second_counts first second done = by (stored table position first) refl
    where
      by : (l : Result (Unit {0}) Refusal) → stored table position first ≡ l
          → table_after_store (table_after_store table position first) position second ≡ table_after_store table position second
      by (Err r) e = ap (λ (t : List ℕ). table_after_store t position second) (table-stored table position first e)
      by (Ok tt) e =
          table-stored (table_after_store table position first) position second (second-judged first second ∙ done)
          ∙ ap (changed_at (position - 1) (store second)) (table-stored table position first e)
          ∙ changed_twice (position - 1) (store first) (length-store first) table (fits table position (its_place first e)) (store second) (store second) (store-store first second)
          ∙ sym (table-stored table position second done)

  -- ---- two compares, done or refused

  compare_stays_done : compared table position ≡ (Ok tt) → compared (table_after_compare table position) position ≡ (Ok tt)
  compare_stays_done e =
      let place = done_place table position e in
      compare-done (table_after_compare table position) position (kept_place position (compare-keeps table position place.its-sound) place)

  pub second-compared : compared (table_after_compare table position) position ≡ compared table position
  second-compared = by (compared table position) refl
    where
      by : (l : Result (Unit {0}) Refusal) → compared table position ≡ l → compared (table_after_compare table position) position ≡ compared table position
      by (Err r) e = ap (λ (t : List ℕ). compared t position) (table-compared table position e)
      by (Ok tt) e = compare_stays_done e ∙ sym e

  pub compare_again : table_after_compare (table_after_compare table position) position ≡ table_after_compare table position
  compare_again = by (compared table position) refl
    where
      by : (l : Result (Unit {0}) Refusal) → compared table position ≡ l → table_after_compare (table_after_compare table position) position ≡ table_after_compare table position
      by (Err r) e = ap (λ (t : List ℕ). table_after_compare t position) (table-compared table position e)
      by (Ok tt) e =
          table-compared (table_after_compare table position) position (compare_stays_done e)
          ∙ ap (changed_at (position - 1) compare) (table-compared table position e)
          ∙ changed_twice (position - 1) compare length-compare table (fits table position (done_place table position e)) compare compare compare-compare
          ∙ sym (table-compared table position e)
