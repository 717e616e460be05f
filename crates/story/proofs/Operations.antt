-- An operation beside frames: what its function promises is what the rules say. The table stays as sound as it was, with its monitors; one that is not sound
-- stays as it was.
-- Assumes nothing.
use mathlib.Core.Path.{◌≡◌, refl, ap, ◌∙◌, subst}
use mathlib.Core.Bool.{Bool, true, false, cond, not}
use mathlib.Core.List.{List, [], ◌∷◌}
use Prim.Native.Nat.{ℕ, ◌-◌, ◌≤◌}
use lib.ListN.{length}
use borrow.Author.Tests.{ltb-false}
use Rattle.refusals.specs.declared.Refusal.{Refusal}
use Rattle.refusals.specs.Order.{Row, decide, Passed}
use Rattle.refusals.proofs.Deciding.{holds_here}
use Rattle.judging.specs.Table.{monitors, sound}
use Rattle.judging.specs.Places.{place_refusals}
use Rattle.refusals.proofs.Decided.{by-passing}
use Rattle.judging.proofs.Keeps.{Keeps, stays}
use Rattle.judging.proofs.Place.{Place, place, there}
use Rattle.loads.specs.Load.{store_refusals, stored, table_after_store, compare_refusals, compared, table_after_compare}
use Rattle.loads.proofs.Keeps.{store_keeps, compare-keeps}
use Rattle.messages.specs.Messages.{message_size}
use Rattle.passing.specs.Operations.{wake_refusals, woken_at, table_after_wake, out_after_wake, relay_refusals, relayed_at, table_after_relay, out_after_relay, beaten, table_after_beat, out_after_beat, time_out_refusals, timed_out, table_after_time_out}
use Rattle.passing.proofs.Silent.{wake_keeps, hop_keeps, beat_keeps, late-keeps}
use Rattle.story.specs.Runs.{Operation, Store, Compare, Wake, Relay, Heartbeat, TimeOut, Beside, Seen, StoreAnswered, CompareAnswered, WakeAnswered, RelayAnswered, HeartbeatAnswered, TimeOutAnswered, Step, operated, promised, ruled}
use Rattle.std.specs.Prelude.{Err}

-- ---- two questions with the same refusals, as one

decide_both : {A B C : Type 0} (f : A → B → C) (rows : List Row) (a : Refusal → A) (b : Refusal → B) (x : A) (y : B)
    → f (decide rows a x) (decide rows b y) ≡ decide rows (λ r. f (a r) (b r)) (f x y)
unfolding decide
decide_both f [] a b x y = refl
decide_both {A} {B} {C} f (row ∷ rows) a b x y = by row.holds (decide_both f rows a b x y)
  where
    by : (t : Bool) → f (decide rows a x) (decide rows b y) ≡ decide rows (λ r. f (a r) (b r)) (f x y)
        → f (cond t (a row.refusal) (decide rows a x)) (cond t (b row.refusal) (decide rows b y))
        ≡ cond t (f (a row.refusal) (b row.refusal)) (decide rows (λ r. f (a r) (b r)) (f x y))
    by true rest = refl
    by false rest = rest

abbrev pub step_to : List ℕ → Seen → Step
step_to table seen = record { table = table; seen = seen }

-- and three: a table, an answer and a buffer
pub decide_three : {A : Type 0} (told : A → List ℕ → Seen) (rows : List Row) (table : List ℕ) (refused : Refusal → A) (out after : List ℕ) (accepted : A) (left : List ℕ)
    → step_to (decide rows (λ r. table) after) (told (decide rows refused accepted) (decide rows (λ r. out) left))
    ≡ decide rows (λ r. step_to table (told (refused r) out)) (step_to after (told accepted left))
decide_three told rows table refused out after accepted left =
    ap (step_to (decide rows (λ r. table) after)) (decide_both told rows refused (λ r. out) accepted left)
    ∙ decide_both step_to rows (λ r. table) (λ r. told (refused r) out) after (told accepted left)

-- ---- what is promised is what the rules say

pub operation_step : (table : List ℕ) (operation : Operation) → promised table operation ≡ ruled table (Beside operation)
unfolding ruled operated promised table_after_store stored table_after_compare compared woken_at table_after_wake out_after_wake relayed_at table_after_relay out_after_relay beaten table_after_beat out_after_beat timed_out table_after_time_out
operation_step table (Store position codes) = decide_both (λ after said. step_to after (StoreAnswered said)) (store_refusals table position codes) (λ r. table) Err _ _
operation_step table (Compare position) = decide_both (λ after said. step_to after (CompareAnswered said)) (compare_refusals table position) (λ r. table) Err _ _
operation_step table (Wake position out) = decide_three WakeAnswered (wake_refusals table position (length out)) table Err out _ _ _
operation_step table (Relay position message out) = decide_three RelayAnswered (relay_refusals table position (length message) (length out)) table Err out _ _ _
operation_step table (Heartbeat position out) = decide_three HeartbeatAnswered (wake_refusals table position (length out)) table Err out _ _ _
operation_step table (TimeOut position) = decide_both (λ after said. step_to after (TimeOutAnswered said)) (time_out_refusals table position) (λ r. table) Err _ _

-- ---- what none of its refusals stops has its place

module _ (table : List ℕ) (position : ℕ) where
  pub wake_placed : (room : ℕ) → Passed (wake_refusals table position room) → Place table position
  unfolding wake_refusals place_refusals
  wake_placed room none = place table position (none.0, (none.1.0, tt))

  pub wake_room : (room : ℕ) → Passed (wake_refusals table position room) → message_size ≤ room
  unfolding wake_refusals
  wake_room room none = ltb-false room message_size none.1.1.0

  pub relay_placed : (bytes room : ℕ) → Passed (relay_refusals table position bytes room) → Place table position
  unfolding relay_refusals place_refusals
  relay_placed bytes room none = place table position (none.0, (none.1.0, tt))

  pub time_placed : Passed (time_out_refusals table position) → Place table position
  unfolding time_out_refusals place_refusals
  time_placed none = place table position (none.0, (none.1.0, tt))

-- ---- the table afterwards

module _ (table : List ℕ) where
  kept : sound table ≡ true → (rows : List Row) (refused : Refusal → Seen) (after : Step) → (Passed rows → Keeps table after.table)
      → Keeps table (decide rows (λ r. step_to table (refused r)) after).table
  kept s rows refused after each = by-passing (λ step. Keeps table step.table) rows (λ r. step_to table (refused r)) after (λ r. stays table s) each

  pub operation_keeps : (operation : Operation) → sound table ≡ true → Keeps table (ruled table (Beside operation)).table
  unfolding ruled operated
  operation_keeps (Store position codes) s =
      subst (Keeps table) (ap (λ (step : Step). step.table) (operation_step table (Store position codes))) (unfold promised in store_keeps table position s codes)
  operation_keeps (Compare position) s =
      subst (Keeps table) (ap (λ (step : Step). step.table) (operation_step table (Compare position))) (unfold promised in compare-keeps table position s)
  operation_keeps (Wake position out) s =
      kept s (wake_refusals table position (length out)) _ _ (λ none. wake_keeps (position - 1) table s (there table position (wake_placed table position (length out) none)))
  operation_keeps (Relay position message out) s =
      kept s (relay_refusals table position (length message) (length out)) _ _
      (λ none. hop_keeps (position - 1) table s (there table position (relay_placed table position (length message) (length out) none)) message)
  operation_keeps (Heartbeat position out) s =
      kept s (wake_refusals table position (length out)) _ _ (λ none. beat_keeps (position - 1) table s (there table position (wake_placed table position (length out) none)))
  operation_keeps (TimeOut position) s =
      kept s (time_out_refusals table position) _ _ (λ none. late-keeps (position - 1) table s (there table position (time_placed table position none)))

  -- one that is not sound is the first refusal of every operation
  pub unsound_stays : (operation : Operation) → sound table ≡ false → (ruled table (Beside operation)).table ≡ table
  unfolding ruled operated store_refusals compare_refusals place_refusals wake_refusals relay_refusals time_out_refusals
  unsound_stays (Store position codes) e = ap (λ (step : Step). step.table) (holds_here _ _ _ _ (ap not e))
  unsound_stays (Compare position) e = ap (λ (step : Step). step.table) (holds_here _ _ _ _ (ap not e))
  unsound_stays (Wake position out) e = ap (λ (step : Step). step.table) (holds_here _ _ _ _ (ap not e))
  unsound_stays (Relay position message out) e = ap (λ (step : Step). step.table) (holds_here _ _ _ _ (ap not e))
  unsound_stays (Heartbeat position out) e = ap (λ (step : Step). step.table) (holds_here _ _ _ _ (ap not e))
  unsound_stays (TimeOut position) e = ap (λ (step : Step). step.table) (holds_here _ _ _ _ (ap not e))

  -- so the number of monitors stays
  pub operation_monitors : (operation : Operation) → monitors (promised table operation).table ≡ monitors table
  operation_monitors operation = ap (λ (step : Step). monitors step.table) (operation_step table operation) ∙ by (sound table) refl
    where
      by : (b : Bool) → sound table ≡ b → monitors (ruled table (Beside operation)).table ≡ monitors table
      by true s = (operation_keeps operation s).monitors-after
      by false e = ap monitors (unsound_stays operation e)
