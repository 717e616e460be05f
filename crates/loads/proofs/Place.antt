-- What no refusal stops has its place: a compare exactly where there is one, and a store, which then has sixteen codes.
-- Assumes nothing.
use mathlib.Core.Path.{◌≡◌, ap, ◌∙◌}
use mathlib.Core.List.{List}
use Prim.Native.Nat.{ℕ, ◌+◌, ◌-◌, ◌*◌, ◌≤◌}
use lib.IntN.{ℤ}
use lib.ListN.{length}
use borrow.Author.Tests.{eqb-true, not-false}
use Rattle.refusals.specs.Order.{Passed}
use Rattle.refusals.proofs.Deciding.{has_passed}
use Rattle.records.specs.Record.{record_size, cell_count}
use Rattle.judging.specs.Places.{place_refusals}
use Rattle.judging.proofs.Place.{by_place, Place, place, is_placed, fits}
use Rattle.loads.specs.Load.{store_refusals, stored, compare_refusals, compared}
use Rattle.loads.proofs.Judging.{done-apart, compared-placed}
use Rattle.std.specs.Prelude.{Ok, Err}

module _ (table : List ℕ) (position : ℕ) where
  pub compare_place : Passed (compare_refusals table position) → Place table position
  unfolding compare_refusals place_refusals
  compare_place none = place table position none

  pub done_place : compared table position ≡ (Ok tt) → Place table position
  unfolding compared
  done_place e = compare_place (has_passed (compare_refusals table position) Err (Ok tt) (Ok tt) done-apart e)

  pub compare-done : Place table position → compared table position ≡ (Ok tt)
  compare-done p = compared-placed table position ∙ ap (by_place Err (Ok tt)) (is_placed table position p)

  -- ---- a store has it too, and sixteen codes

  module _ (codes : List ℤ) where
    both_passed : Passed (store_refusals table position codes) → Passed (compare_refusals table position)
    unfolding store_refusals compare_refusals
    both_passed none = (none.0, (none.1.0, tt))

    pub sixteen : Passed (store_refusals table position codes) → length codes ≡ cell_count
    unfolding store_refusals
    sixteen none = eqb-true _ _ (not-false _ none.1.1.0)

    pub store_place : Passed (store_refusals table position codes) → Place table position
    store_place none = compare_place (both_passed none)

    pub stored-passed : stored table position codes ≡ (Ok tt) → Passed (store_refusals table position codes)
    unfolding stored
    stored-passed e = has_passed (store_refusals table position codes) Err (Ok tt) (Ok tt) done-apart e

    -- what is needed to store in the record
    pub stored-first : stored table position codes ≡ (Ok tt) → 1 ≤ position
    stored-first e = (store_place (stored-passed e)).first

    pub stored_ready : stored table position codes ≡ (Ok tt)
        → ((position - 1) * record_size + record_size ≤ length table) × (length codes ≡ cell_count)
    stored_ready e = (fits table position (store_place (stored-passed e)), sixteen (stored-passed e))
