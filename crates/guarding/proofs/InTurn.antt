-- Document 02, L8: a whole heartbeat is the elementary operations in turn. Nothing is refused on the way: every turn keeps the table sound with its monitors, what
-- is handed out is a message of eight bytes, and it is what goes on; and where nothing is handed out, nothing more happens.
-- Assumes nothing.
use mathlib.Core.Path.{◌≡◌, refl, sym, ap, ap₂, ◌∙◌, subst⁻¹}
use mathlib.Core.Bool.{Bool, true, false, cond, not, ◌&&◌}
use mathlib.Core.List.{List, [], ◌∷◌, map}
use Prim.Native.Nat.{ℕ, suc, ◌-◌, ◌≤◌, ◌<◌}
use native.Mathlib.Omega.{arith}
use lib.Dec.{eqb, leb}
use lib.ListN.{length, take, drop}
use lib.Seq.{take_at}
use borrow.Author.Tests.{eq-eqb, le-leb, le-ltb}
use Rattle.laws.specs.Rows.{row_at}
use Rattle.refusals.specs.Order.{Passed}
use Rattle.refusals.proofs.Deciding.{passes}
use Rattle.records.specs.Record.{record_size}
use Rattle.judging.specs.Table.{monitors, sound}
use Rattle.judging.proofs.Place.{Place, there}
use Rattle.messages.specs.Messages.{message_size, message}
use Rattle.messages.proofs.Sent.{message-long}
use Rattle.heartbeats.specs.declared.steps.Beat.{Beat}
use Rattle.heartbeats.specs.Steps.{towards_a, wakes, answers}
use Rattle.passing.specs.declared.operations.Relayed.{Relayed}
use Rattle.passing.specs.declared.operations.Relayed.TheVariants.{Stopped, SentOn}
use Rattle.passing.specs.Hops.{bytes_sent, wake_sends, wake_leaves, hop_sends, hop_leaves, way_from, sent_along, left_along, beat_sends, beat_leaves}
use Rattle.passing.specs.Operations.{
  handed_out,
  sent_towards,
  wake_refusals,
  woken_at,
  table_after_wake,
  out_after_wake,
  relay_refusals,
  relayed_at,
  table_after_relay,
  out_after_relay,
  beaten,
  table_after_beat,
  out_after_beat,
}
use Rattle.guarding.specs.Chains.{at}
use Rattle.guarding.specs.InTurn.{woke, relayed, sent_in_turn, left_in_turn, sent_by_turns, left_by_turns}
use Rattle.passing.proofs.Silent.{none-along, wake_keeps, hop_keeps, Within, way_within}
use Rattle.std.specs.Prelude.{Option, Some, None, Result, Ok, Err}
use Rattle.refusals.specs.declared.Refusal.{Refusal}
use Rattle.heartbeats.specs.Steps.{sends}
use Rattle.passing.specs.declared.operations.End.{End}
use Rattle.passing.specs.declared.operations.End.TheVariants.{A, B}

-- ---- what is handed out is what was sent

-- a message is not nothing
some_sent : {A : Type 0} (count flags : ℕ) (x y : A) → cond (eqb (length (message count flags)) 0) x y ≡ y
some_sent count flags x y = ap (λ (l : ℕ). cond (eqb l 0) x y) (message-long count flags)

taken_out : (count flags : ℕ) (out : List ℕ) → take message_size (handed_out (message count flags) out) ≡ message count flags
unfolding handed_out
taken_out count flags out =
    take_at (message count flags) (drop (length (message count flags)) out) message_size (message-long count flags)

handed-on : (b : Option Beat) (out : List ℕ) → relayed (Ok (cond (eqb (length (bytes_sent b)) 0) Stopped SentOn)) (handed_out (bytes_sent b) out) ≡ bytes_sent b
handed-on None out = refl
handed-on (Some b) out =
    ap (λ (came : Relayed). relayed (Ok came) (handed_out (message b.count b.flags) out)) (some_sent b.count b.flags Stopped SentOn) ∙ taken_out b.count b.flags out

handed-woke : (r : List ℕ) (b : Option Beat) (out : List ℕ) → woke (Ok (sent_towards r (bytes_sent b))) (handed_out (bytes_sent b) out) ≡ bytes_sent b
unfolding sent_towards
handed-woke r None out = refl
handed-woke r (Some b) out =
    ap (λ (came : Option End). woke (Ok came) (handed_out (message b.count b.flags) out)) (some_sent b.count b.flags None (cond (towards_a r) (Some A) (Some B)))
    ∙ either (towards_a r)
  where
    either : (toA : Bool) → woke (Ok (cond toA (Some A) (Some B))) (handed_out (message b.count b.flags) out) ≡ message b.count b.flags
    either true = taken_out b.count b.flags out
    either false = taken_out b.count b.flags out

-- ---- nothing is refused

module _ (table : List ℕ) (position : ℕ) (p : Place table position) (out : List ℕ) (room : message_size ≤ length out) where
  at_position : not (leb 1 position && leb position (monitors table)) ≡ false
  at_position = ap₂ (λ (a b : Bool). not (a && b)) (le-leb 1 position p.first) (le-leb position (monitors table) p.last)

  wake_passed : Passed (wake_refusals table position (length out))
  unfolding wake_refusals
  wake_passed = (ap not p.its-sound, (at_position, (le-ltb _ _ room, tt)))

  relay_passed : (bytes : ℕ) → bytes ≡ message_size → Passed (relay_refusals table position bytes (length out))
  unfolding relay_refusals
  relay_passed bytes e = (ap not p.its-sound, (at_position, (ap not (eq-eqb bytes message_size e), (le-ltb _ _ room, tt))))

  -- ---- and so each comes to what its monitor makes of it

  module _ (count flags : ℕ) where
    abbrev came : List ℕ
    came = message count flags

    not-refused : Passed (relay_refusals table position (length came) (length out))
    not-refused = relay_passed (length came) (message-long count flags)

    relay_leaves : table_after_relay table position came (length out) ≡ hop_leaves (position - 1) came table
    unfolding table_after_relay
    relay_leaves = passes _ _ _ not-refused

    relay_hands : relayed (relayed_at table position came (length out)) (out_after_relay table position came out) ≡ hop_sends (position - 1) came table
    unfolding relayed_at out_after_relay hop_sends
    relay_hands =
        ap₂ relayed (passes (relay_refusals table position (length came) (length out)) Err _ not-refused)
        (passes (relay_refusals table position (length came) (length out)) (λ r. out) _ not-refused)
        ∙ handed-on (answers came (row_at record_size (position - 1) table)) out

  wake-leaves : table_after_wake table position (length out) ≡ wake_leaves (position - 1) table
  unfolding table_after_wake
  wake-leaves = passes _ _ _ wake_passed

  wake_hands : woke (woken_at table position (length out)) (out_after_wake table position out) ≡ wake_sends (position - 1) table
  unfolding woken_at out_after_wake wake_sends
  wake_hands =
      ap₂ woke (passes (wake_refusals table position (length out)) Err _ wake_passed) (passes (wake_refusals table position (length out)) (λ r. out) _ wake_passed)
      ∙ handed-woke (row_at record_size (position - 1) table) (wakes (row_at record_size (position - 1) table)) out

-- ---- along the way

module _ (n : ℕ) (out : List ℕ) (room : message_size ≤ length out) where
  turns : (ks : List ℕ) → Within n ks → (b : Option Beat) (table : List ℕ) → sound table ≡ true → monitors table ≡ n
      → (sent_in_turn out (map suc ks) (bytes_sent b) table ≡ sent_along ks (bytes_sent b) table)
      × (left_in_turn out (map suc ks) (bytes_sent b) table ≡ left_along ks (bytes_sent b) table)
  unfolding sent_in_turn left_in_turn sent_along left_along hop_sends
  turns [] within b table s e = (refl, refl)
  turns (k ∷ ks) within None table s e = (sym (none-along (k ∷ ks) table).0, sym (none-along (k ∷ ks) table).1)
  turns (k ∷ ks) within (Some b) table s e =
      let m = message b.count b.flags in
      let its_place : k < monitors table = subst⁻¹ (λ (x : ℕ). k < x) e within.0 in
      let p : Place table (suc k) = record { its-sound = s; first = omega arith; last = its_place } in
      let index : suc k - 1 ≡ k = omega arith in
      let next = relay_leaves table (suc k) p out room b.count b.flags ∙ ap (λ (i : ℕ). hop_leaves i m table) index in
      let on = relay_hands table (suc k) p out room b.count b.flags ∙ ap (λ (i : ℕ). hop_sends i m table) index in
      let keeps = hop_keeps k table s its_place m in
      let rest = turns ks within.1 (answers m (row_at record_size k table)) (hop_leaves k m table) keeps.sound-after (keeps.monitors-after ∙ e) in (
        some_sent b.count b.flags [] _ ∙ ap₂ (sent_in_turn out (map suc ks)) on next ∙ rest.0,
        some_sent b.count b.flags table _ ∙ ap₂ (left_in_turn out (map suc ks)) on next ∙ rest.1,
      )

-- ---- a whole heartbeat

module _ (table : List ℕ) (position : ℕ) (out : List ℕ) (p : Place table position) (room : message_size ≤ length out) where
  by_turns : (sent_by_turns out table position ≡ beat_sends (position - 1) table) × (left_by_turns out table position ≡ beat_leaves (position - 1) table)
  unfolding sent_by_turns left_by_turns beat_sends beat_leaves wake_sends
  by_turns =
      let k = position - 1 in
      let its_place = there table position p in
      let keeps = wake_keeps k table p.its-sound its_place in
      let first = wake_hands table position p out room in
      let next = wake-leaves table position p out room in
      let within = way_within (towards_a (at k table)) (monitors table) k its_place in
      let rest =
      turns (monitors table) out room (way_from k table) within (wakes (at k table)) (wake_leaves k table) keeps.sound-after keeps.monitors-after in (
        ap₂ (sent_in_turn out (map suc (way_from k table))) first next ∙ rest.0,
        ap₂ (left_in_turn out (map suc (way_from k table))) first next ∙ rest.1,
      )

  pub in_turn : (table_after_beat table position (length out) ≡ left_by_turns out table position)
      × (out_after_beat table position out ≡ handed_out (sent_by_turns out table position) out)
      × (beaten table position (length out) ≡ Ok (sent_towards (at (position - 1) table) (sent_by_turns out table position)))
  unfolding table_after_beat out_after_beat beaten
  in_turn =
      let passed = wake_passed table position p out room in (
        passes _ _ _ passed ∙ sym by_turns.1,
        passes _ _ _ passed ∙ ap (λ (sent : List ℕ). handed_out sent out) (sym by_turns.0),
        passes _ _ _ passed ∙ ap (λ (sent : List ℕ). Ok (sent_towards (at (position - 1) table) sent)) (sym by_turns.0),
      )
