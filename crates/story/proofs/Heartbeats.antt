-- The operations of a heartbeat where none of their refusals holds: what comes of them, the buffer, and the record of the monitor at the position; every other
-- stays.
-- Assumes nothing.
use mathlib.Core.Path.{◌≡◌, refl, ap}
use mathlib.Core.Bool.{cond}
use mathlib.Core.List.{List, [], ◌++◌}
use Prim.Native.Nat.{ℕ, ◌-◌, ◌<◌}
use lib.Dec.{eqb}
use lib.ListN.{length, drop}
use Rattle.laws.specs.Rows.{row_at}
use Rattle.refusals.specs.Order.{Passed}
use Rattle.refusals.proofs.Deciding.{passes}
use Rattle.records.specs.Record.{record_size}
use Rattle.judging.specs.Table.{monitors}
use Rattle.messages.specs.Messages.{message_size, message}
use Rattle.messages.proofs.Sent.{message-long}
use Rattle.heartbeats.specs.Steps.{towards_a, woken, wakes, reached, answers, late}
use Rattle.heartbeats.proofs.Kept.{length-woken, length-reached, length-late}
use Rattle.passing.specs.declared.operations.Relayed.TheVariants.{Stopped, SentOn}
use Rattle.passing.specs.Hops.{bytes_sent, wake_sends, wake_leaves, hop_sends, hop_leaves, beat_sends, beat_leaves}
use Rattle.passing.specs.Operations.{handed_out, sent_towards, sent_on, ran_out, wake_refusals, woken_at, table_after_wake, out_after_wake, relay_refusals, relayed_at, table_after_relay, out_after_relay, beaten, table_after_beat, out_after_beat, time_out_refusals, timed_out, table_after_time_out}
use Rattle.story.proofs.Accepted.{own, others}
use Rattle.story.proofs.Operations.{wake_placed, relay_placed, time_placed}
use Rattle.std.specs.Prelude.{Some, None, Ok, Err}
use Rattle.passing.specs.declared.operations.End.TheVariants.{A, B}

-- ---- what is handed out

pub nothing_handed : (out : List ℕ) → handed_out [] out ≡ out
unfolding handed_out
nothing_handed out = refl

pub message-handed : (c f : ℕ) (out : List ℕ) → handed_out (message c f) out ≡ message c f ++ drop message_size out
unfolding handed_out
message-handed c f out = ap (λ (n : ℕ). message c f ++ drop n out) (message-long c f)

-- and what is told of it
pub nothing_told : (r : List ℕ) → (sent_towards r [] ≡ None) × (sent_on [] ≡ Stopped)
unfolding sent_towards
nothing_told r = (refl, refl)

pub message-told : (r : List ℕ) (c f : ℕ) → (sent_towards r (message c f) ≡ cond (towards_a r) (Some A) (Some B)) × (sent_on (message c f) ≡ SentOn)
unfolding sent_towards
message-told r c f = (
  ap (λ (n : ℕ). cond (eqb n 0) None (cond (towards_a r) (Some A) (Some B))) (message-long c f),
  ap (λ (n : ℕ). cond (eqb n 0) Stopped SentOn) (message-long c f),
)

module _ (table : List ℕ) (position : ℕ) where
  abbrev r : List ℕ
  r = row_at record_size (position - 1) table

  -- a table in which one record became another, and every other stays
  abbrev pub Turned : List ℕ → List ℕ → Type 0
  Turned after own =
      (row_at record_size (position - 1) after ≡ own) × ((j : ℕ) → j < monitors table → (j ≡ position - 1 → ⊥) → row_at record_size j after ≡ row_at record_size j table)

  module _ (out : List ℕ) (none : Passed (wake_refusals table position (length out))) where
    pub wake_done : (woken_at table position (length out) ≡ Ok (sent_towards r (bytes_sent (wakes r))))
        × (out_after_wake table position out ≡ handed_out (bytes_sent (wakes r)) out)
        × Turned (table_after_wake table position (length out)) (woken r)
    unfolding woken_at out_after_wake table_after_wake wake_sends wake_leaves
    wake_done =
        let rows = wake_refusals table position (length out) in
        let place = wake_placed table position (length out) none in (
          passes rows Err _ none,
          passes rows (λ r. out) _ none,
          (own rows table position woken length-woken place none, others rows table position woken length-woken place none),
        )

    pub beat_done : (beaten table position (length out) ≡ Ok (sent_towards r (beat_sends (position - 1) table)))
        × (out_after_beat table position out ≡ handed_out (beat_sends (position - 1) table) out)
        × (table_after_beat table position (length out) ≡ beat_leaves (position - 1) table)
    unfolding beaten out_after_beat table_after_beat
    beat_done =
        let rows = wake_refusals table position (length out) in
        (passes rows Err _ none, passes rows (λ r. out) _ none, passes rows (λ r. table) _ none)

  pub relay_done : (m out : List ℕ) → Passed (relay_refusals table position (length m) (length out))
      → (relayed_at table position m (length out) ≡ Ok (sent_on (bytes_sent (answers m r))))
      × (out_after_relay table position m out ≡ handed_out (bytes_sent (answers m r)) out)
      × Turned (table_after_relay table position m (length out)) (reached m r)
  unfolding relayed_at out_after_relay table_after_relay hop_sends hop_leaves
  relay_done m out none =
      let rows = relay_refusals table position (length m) (length out) in
      let place = relay_placed table position (length m) (length out) none in
      let as_long : (x : List ℕ) → length (reached m x) ≡ length x = λ x. length-reached x m in (
        passes rows Err _ none,
        passes rows (λ r. out) _ none,
        (own rows table position (reached m) as_long place none, others rows table position (reached m) as_long place none),
      )

  pub time_done : Passed (time_out_refusals table position)
      → (timed_out table position ≡ Ok (ran_out r)) × Turned (table_after_time_out table position) (late r)
  unfolding timed_out table_after_time_out
  time_done none =
      let rows = time_out_refusals table position in
      let place = time_placed table position none in (
        passes rows Err _ none,
        (own rows table position late length-late place none, others rows table position late length-late place none),
      )
