-- Going down the refusals of the operations: what has no place is refused as it is, and after a place come the length of a message and the room. And back, for
-- whatever is made of a judgement: what it refuses is refused, and what it places has its place and the room.
-- Assumes nothing.
use mathlib.Core.Path.{◌≡◌, sym, ap, ◌∙◌}
use mathlib.Core.Bool.{not}
use mathlib.Core.List.{List, [], ◌∷◌, ◌++◌}
use Prim.Native.Nat.{ℕ, ◌-◌, ◌≤◌, ◌<◌}
use borrow.Author.Tests.{lt-ltb, le-ltb, ltb-false, eq-eqb, ne_eqb, eqb-true, not-false}
use Rattle.refusals.specs.declared.Refusal.{Refusal}
use Rattle.refusals.specs.declared.Refusal.TheVariants.{LengthWrong, NoRoom}
use Rattle.refusals.specs.Order.{Row, decide, Passed}
use Rattle.refusals.proofs.Deciding.{holds_here, holds_not, none_left, decide_append, decide-map, has_passed}
use Rattle.judging.specs.Places.{place_refusals, placed}
use Rattle.refusals.proofs.Decided.{is_accepted}
use Rattle.judging.proofs.Place.{Place, at-apart, at_same, by_place, as_placed, place, its_index}
use Rattle.messages.specs.Messages.{message_size}
use Rattle.passing.specs.Operations.{message_row, out_row, wake_refusals, relay_refusals}
use Rattle.std.specs.Prelude.{Result, Ok, Err}

-- ---- down the refusals

module _ (table : List ℕ) (position : ℕ) (later : List Row) where
  -- what is judged by the place and then by more
  abbrev judgement : Result ℕ Refusal
  judgement = decide (place_refusals table position ++ later) Err (Ok (position - 1))

  pub no_place : {r : Refusal} → placed table position ≡ Err r → judgement ≡ Err r
  no_place e =
      decide_append (place_refusals table position) later Err (Ok (position - 1))
      ∙ as_placed table position Err (decide later Err (Ok (position - 1)))
      ∙ ap (by_place Err (decide later Err (Ok (position - 1)))) e

  pub then-later : {k : ℕ} → placed table position ≡ Ok k → judgement ≡ decide later Err (Ok k)
  then-later e =
      decide_append (place_refusals table position) later Err (Ok (position - 1))
      ∙ as_placed table position Err (decide later Err (Ok (position - 1)))
      ∙ ap (by_place Err (decide later Err (Ok (position - 1)))) e
      ∙ ap (λ (j : ℕ). decide later Err (Ok j)) (sym (its_index table position e))

-- of the room, the last of them
module _ {A : Type 0} (room : ℕ) (refused : Refusal → A) (accepted : A) where
  pub no_room : room < message_size → decide (out_row room ∷ []) refused accepted ≡ refused NoRoom
  no_room h = holds_here _ _ refused accepted (lt-ltb room message_size h)

  pub has_room : message_size ≤ room → decide (out_row room ∷ []) refused accepted ≡ accepted
  has_room h = holds_not _ _ refused accepted (le-ltb room message_size h) ∙ none_left refused accepted

  -- of the bytes that came, before it
  module _ (bytes : ℕ) where
    pub wrong_length : (bytes ≡ message_size → ⊥) → decide (message_row bytes ∷ out_row room ∷ []) refused accepted ≡ refused LengthWrong
    wrong_length h = holds_here _ _ refused accepted (ap not (ne_eqb bytes message_size h))

    pub right-length : bytes ≡ message_size → decide (message_row bytes ∷ out_row room ∷ []) refused accepted ≡ decide (out_row room ∷ []) refused accepted
    right-length e = holds_not _ _ refused accepted (ap not (eq-eqb bytes message_size e))

-- ---- and back

module _ (rows : List Row) (j : ℕ) where
  pub refused_so : {A : Type 0} (refused : Refusal → A) (accepted : A) {r : Refusal} → decide rows Err (Ok j) ≡ Err r → decide rows refused accepted ≡ refused r
  refused_so refused accepted e = sym (decide-map (by_place refused accepted) rows Err (Ok j)) ∙ ap (by_place refused accepted) e

  pub accepted_so : {A : Type 0} (refused : Refusal → A) (accepted : A) {k : ℕ} → decide rows Err (Ok j) ≡ Ok k → decide rows refused accepted ≡ accepted
  accepted_so refused accepted e = sym (decide-map (by_place refused accepted) rows Err (Ok j)) ∙ ap (by_place refused accepted) e

  pub index_so : {k : ℕ} → decide rows Err (Ok j) ≡ Ok k → k ≡ j
  index_so {k} e = sym (at_same (is_accepted rows Err (Ok j) (Ok k) (at-apart k) e))

  passed_so : {k : ℕ} → decide rows Err (Ok j) ≡ Ok k → Passed rows
  passed_so {k} e = has_passed rows Err (Ok j) (Ok k) (at-apart k) e

module _ (table : List ℕ) (position room : ℕ) {k : ℕ} where
  pub wake_place : decide (wake_refusals table position room) Err (Ok (position - 1)) ≡ Ok k → Place table position × (message_size ≤ room)
  unfolding wake_refusals place_refusals
  wake_place e =
      let none = passed_so (wake_refusals table position room) (position - 1) e in
      (place table position (none.0, (none.1.0, tt)), ltb-false room message_size none.1.1.0)

  pub relay_place : (bytes : ℕ) → decide (relay_refusals table position bytes room) Err (Ok (position - 1)) ≡ Ok k
      → Place table position × (bytes ≡ message_size) × (message_size ≤ room)
  unfolding relay_refusals place_refusals
  relay_place bytes e =
      let none = passed_so (relay_refusals table position bytes room) (position - 1) e in
      (place table position (none.0, (none.1.0, tt)), eqb-true bytes message_size (not-false _ none.1.1.0), ltb-false room message_size none.1.1.1.0)
