-- The refusals of a compare, which are those of a place, and of a store after them: what passes each, and what stops at it. A load is refused
-- as its store is.
-- Assumes nothing.
use mathlib.Core.Path.{◌≡◌, refl, ap, ◌∙◌}
use mathlib.Core.Bool.{true, false, not}
use mathlib.Core.List.{List, [], ◌∷◌}
use Prim.Native.Nat.{ℕ}
use native.Mathlib.Omega.{arith}
use lib.IntN.{ℤ}
use lib.ListN.{length, drop}
use borrow.Author.Tests.{eq-eqb, ne_eqb}
use Rattle.laws.specs.Counts.{all}
use Rattle.refusals.specs.declared.Refusal.{Refusal}
use Rattle.refusals.specs.declared.Refusal.TheVariants.{TableNotSound, CountWrong, CodeCleared}
use Rattle.refusals.specs.Order.{decide}
use Rattle.refusals.proofs.Deciding.{holds_here, holds_not, none_left, decide_append, passes, has_passed}
use Rattle.records.specs.Record.{cell_count}
use Rattle.judging.specs.Table.{sound}
use Rattle.judging.specs.Places.{place_refusals, placed}
use Rattle.refusals.proofs.Decided.{refused_so}
use Rattle.judging.proofs.Place.{by_place, as_placed, stop_1 as not-placed}
use Rattle.cells.specs.Cells.{is_cleared}
use Rattle.loads.specs.Load.{count_row, cleared_row, store_refusals, stored, compare_refusals, compared, load_refusals, loaded}
use Rattle.std.specs.Prelude.{Result, Ok, Err}

-- what is done is not refused
pub done-apart : (r : Refusal) → ◌≡◌ {A = Result (Unit {0}) Refusal} (Ok tt) (Err r) → ⊥
done-apart r e = let z : ◌≡◌ {A = ℕ} 0 1 = cc in omega arith

-- ---- a compare: what has its place is done

module _ (table : List ℕ) (position : ℕ) where
  pub compared-placed : compared table position ≡ by_place Err (Ok tt) (placed table position)
  unfolding compared compare_refusals place_refusals
  compared-placed = as_placed table position Err (Ok tt)

  pub stop_1 : sound table ≡ false → compared table position ≡ Err TableNotSound
  stop_1 e = compared-placed ∙ ap (by_place Err (Ok tt)) (not-placed table position e)

-- ---- a store: a compare's refusals, and after them those of the codes

module _ (codes : List ℤ) where
  abbrev pub of_codes : ℕ → Result (Unit {0}) Refusal
  of_codes k = decide (drop k (count_row codes ∷ cleared_row codes ∷ [])) Err (Ok tt)

  pub stop_3 : (length codes ≡ cell_count → ⊥) → of_codes 0 ≡ Err CountWrong
  stop_3 h = holds_here _ _ Err _ (ap not (ne_eqb _ _ h))

  pub pass_3 : length codes ≡ cell_count → of_codes 0 ≡ of_codes 1
  pass_3 e = holds_not _ _ Err _ (ap not (eq-eqb _ _ e))

  pub stop_4 : not (all (λ code. not (is_cleared code)) codes) ≡ true → of_codes 1 ≡ Err CodeCleared
  stop_4 e = holds_here _ _ Err _ e

  pub pass_4 : not (all (λ code. not (is_cleared code)) codes) ≡ false → of_codes 1 ≡ (Ok tt)
  pass_4 e = holds_not _ _ Err _ e ∙ none_left Err (Ok tt)

  module _ (table : List ℕ) (position : ℕ) where
    in_turn : stored table position codes ≡ decide (compare_refusals table position) Err (of_codes 0)
    unfolding stored store_refusals compare_refusals
    in_turn = decide_append (compare_refusals table position) (count_row codes ∷ cleared_row codes ∷ []) Err (Ok tt)

    pub refused-before : {r : Refusal} → compared table position ≡ Err r → stored table position codes ≡ Err r
    unfolding compared
    refused-before {r} e = in_turn ∙ refused_so (compare_refusals table position) Err (Ok tt) (of_codes 0) r (done-apart r) e

    pub goes_on : compared table position ≡ (Ok tt) → stored table position codes ≡ of_codes 0
    unfolding compared
    goes_on e = in_turn ∙ passes (compare_refusals table position) Err (of_codes 0) (has_passed (compare_refusals table position) Err (Ok tt) (Ok tt) done-apart e)

-- ---- a load

pub as_stored : (table : List ℕ) (position : ℕ) (codes : List ℤ) → loaded table position codes ≡ stored table position codes
unfolding loaded load_refusals stored store_refusals
as_stored table position codes = refl
