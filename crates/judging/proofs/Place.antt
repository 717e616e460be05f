-- A monitor that has its place: the table is sound, the position is one of its monitors', and their record lies whole in the table. Going
-- down the two refusals: what passes each, and what stops at it.
-- Assumes nothing.
use mathlib.Core.Path.{◌≡◌, sym, ap, ap₂, ◌∙◌, subst⁻¹}
use mathlib.Core.Bool.{Bool, true, false, not, ◌&&◌}
use mathlib.Core.List.{List}
use Prim.Native.Nat.{ℕ, ◌+◌, ◌-◌, ◌*◌, ◌≤◌, ◌<◌}
use native.Mathlib.Omega.{arith}
use lib.Dec.{leb}
use lib.ListN.{length, drop}
use borrow.Author.Tests.{le-leb, lt-leb, leb-true, not-false}
use Rattle.laws.proofs.Counts.{and-false}
use Rattle.laws.proofs.Rows.{row_fits}
use Rattle.refusals.specs.declared.Refusal.{Refusal}
use Rattle.refusals.specs.declared.Refusal.TheVariants.{TableNotSound, PositionWrong}
use Rattle.refusals.specs.Order.{decide, Passed}
use Rattle.refusals.proofs.Deciding.{holds_here, holds_not, none_left, decide-map, has_passed}
use Rattle.records.specs.Record.{record_size}
use Rattle.judging.specs.Table.{monitors, sound}
use Rattle.judging.specs.Places.{place_refusals, placed}
use Rattle.judging.proofs.Soundness.{both, is_sound}
use Rattle.judging.proofs.Keeps.{Keeps}
use Rattle.refusals.proofs.Decided.{is_accepted}
use Rattle.std.specs.Prelude.{Result, Ok, Err}

-- a place is no refusal
pub at-apart : (k : ℕ) (r : Refusal) → ◌≡◌ {A = Result ℕ Refusal} (Ok k) (Err r) → ⊥
at-apart k r e = let z : ◌≡◌ {A = ℕ} 0 1 = cc in omega arith

pub at_same : {j k : ℕ} → ◌≡◌ {A = Result ℕ Refusal} (Ok j) (Ok k) → j ≡ k
at_same e = cc

-- by the place: its refusal, or what is accepted there
abbrev pub by_place : {A : Type 0} → (Refusal → A) → A → Result ℕ Refusal → A
by_place refused accepted (Err r) = refused r
by_place refused accepted (Ok k) = accepted

module _ (table : List ℕ) (position : ℕ) where
  pub record Place : Type 0 where
    pub its-sound : sound table ≡ true
    pub first : 1 ≤ position
    pub last : position ≤ monitors table

  -- ---- refusal by refusal

  -- what the second says
  abbrev pub of_position : Result ℕ Refusal
  of_position = decide (drop 1 (place_refusals table position)) Err (Ok (position - 1))

  pub stop_1 : sound table ≡ false → placed table position ≡ Err TableNotSound
  unfolding placed place_refusals
  stop_1 e = holds_here _ _ Err _ (ap not e)

  pub pass_1 : sound table ≡ true → placed table position ≡ of_position
  unfolding placed place_refusals
  pass_1 e = holds_not _ _ Err _ (ap not e)

  stop_2 : leb 1 position && leb position (monitors table) ≡ false → of_position ≡ Err PositionWrong
  unfolding place_refusals
  stop_2 e = holds_here _ _ Err _ (ap not e)

  -- a position is wrong at either end
  pub stop_2_low : position < 1 → of_position ≡ Err PositionWrong
  stop_2_low h = stop_2 (ap (λ (b : Bool). b && leb position (monitors table)) (lt-leb 1 position h))

  pub stop_2_high : monitors table < position → of_position ≡ Err PositionWrong
  stop_2_high h = stop_2 (ap (λ (b : Bool). leb 1 position && b) (lt-leb position (monitors table) h) ∙ and-false (leb 1 position))

  pub pass_2 : 1 ≤ position → position ≤ monitors table → of_position ≡ Ok (position - 1)
  unfolding place_refusals
  pass_2 l h =
      holds_not _ _ Err _ (ap₂ (λ (a b : Bool). not (a && b)) (le-leb 1 position l) (le-leb position (monitors table) h))
      ∙ none_left Err (Ok (position - 1))

  -- ---- what comes of a question that begins with these two

  pub as_placed : {A : Type 0} (refused : Refusal → A) (accepted : A)
      → decide (place_refusals table position) refused accepted ≡ by_place refused accepted (placed table position)
  unfolding placed
  as_placed refused accepted = sym (decide-map (by_place refused accepted) (place_refusals table position) Err (Ok (position - 1)))

  -- ---- there and back

  pub is_placed : Place → placed table position ≡ Ok (position - 1)
  is_placed p = pass_1 p.its-sound ∙ pass_2 p.first p.last

  pub place : Passed (place_refusals table position) → Place
  unfolding place_refusals
  place none =
      let ends = both (leb 1 position) (leb position (monitors table)) (not-false _ none.1.0) in
      record { its-sound = not-false (sound table) none.0; first = leb-true 1 position ends.0; last = leb-true position (monitors table) ends.1 }

  pub place_passed : {k : ℕ} → placed table position ≡ Ok k → Passed (place_refusals table position)
  unfolding placed
  place_passed {k} e = has_passed (place_refusals table position) Err (Ok (position - 1)) (Ok k) (at-apart k) e

  pub at_place : {k : ℕ} → placed table position ≡ Ok k → Place
  at_place e = place (place_passed e)

  pub its_index : {k : ℕ} → placed table position ≡ Ok k → k ≡ position - 1
  unfolding placed
  its_index {k} e = sym (at_same (is_accepted (place_refusals table position) Err (Ok (position - 1)) (Ok k) (at-apart k) e))

  -- ---- what it gives

  pub there : Place → position - 1 < monitors table
  there p = omega (arith, p.first, p.last)

  pub fits : Place → (position - 1) * record_size + record_size ≤ length table
  fits p = row_fits record_size (there p) (omega (arith, (is_sound table p.its-sound).whole))

  -- of the record as the code counts it, from 0
  pub at-fits : {k : ℕ} → placed table position ≡ Ok k → k * record_size + record_size ≤ length table
  at-fits e = subst⁻¹ (λ (j : ℕ). j * record_size + record_size ≤ length table) (its_index e) (fits (at_place e))

-- it stays in a table that keeps its monitors
pub kept_place : {table after : List ℕ} (position : ℕ) → Keeps table after → Place table position → Place after position
kept_place position keeps p =
    record { its-sound = keeps.sound-after; first = p.first; last = subst⁻¹ (λ (n : ℕ). position ≤ n) keeps.monitors-after p.last }
