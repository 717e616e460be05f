-- Going down the refusals of a look: what passes each, and what stops at it. For whatever is made of the outcome: the answer, and
-- the buffer.
-- Assumes nothing.
use mathlib.Core.Path.{◌≡◌, ap, ap₂, ◌∙◌}
use mathlib.Core.Bool.{Bool, not, ◌&&◌}
use Prim.Native.Nat.{ℕ, ◌≤◌, ◌<◌}
use lib.Dec.{leb}
use lib.ListN.{length}
use borrow.Author.Tests.{lt-ltb, le-ltb, le-leb, lt-leb}
use Rattle.refusals.specs.declared.Refusal.{Refusal}
use Rattle.refusals.specs.declared.Refusal.TheVariants.{PositionWrong, NoRoom}
use Rattle.refusals.specs.Order.{decide}
use Rattle.refusals.proofs.Deciding.{holds_here, holds_not, none_left}
use Rattle.clocking.specs.Clock.{Clock}
use Rattle.releasing.specs.Look.{window_of, look_refusals}

module _ (c : Clock) (position room : ℕ) {A : Type 0} (refused : Refusal → A) (accepted : A) where
  -- what the refusals say
  abbrev outcome : A
  outcome = decide (look_refusals c position room) refused accepted

  -- no position is 0
  pub stop_low : position < 1 → outcome ≡ refused PositionWrong
  unfolding look_refusals
  stop_low h = holds_here _ _ refused accepted (ap (λ (b : Bool). not (b && leb position c.chained)) (lt-leb 1 position h))

  module _ (low : 1 ≤ position) where
    -- by the end of the chain
    by_end : {b : Bool} → leb position c.chained ≡ b → not (leb 1 position && leb position c.chained) ≡ not b
    by_end e = ap₂ (λ (a b : Bool). not (a && b)) (le-leb 1 position low) e

    -- behind it
    pub stop_high : c.chained < position → outcome ≡ refused PositionWrong
    unfolding look_refusals
    stop_high h = holds_here _ _ refused accepted (by_end (lt-leb position c.chained h))

    module _ (high : position ≤ c.chained) where
      -- a buffer that is too small
      pub stop_room : room < length (window_of c position) → outcome ≡ refused NoRoom
      unfolding look_refusals
      stop_room h = holds_not _ _ refused accepted (by_end (le-leb position c.chained high)) ∙ holds_here _ _ refused accepted (lt-ltb _ _ h)

      -- nothing is left to refuse
      pub passed : length (window_of c position) ≤ room → outcome ≡ accepted
      unfolding look_refusals
      passed h =
          holds_not _ _ refused accepted (by_end (le-leb position c.chained high))
          ∙ holds_not _ _ refused accepted (le-ltb _ _ h)
          ∙ none_left refused accepted
