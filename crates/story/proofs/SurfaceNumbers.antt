-- The number that an answer holds is that of the first refusal that holds, and 0 where none does: what is made of the outcome of a list
-- of refusals may be made of each outcome. A summary's own refusal comes before that of the room.
-- Assumes nothing.
use mathlib.Core.Path.{◌≡◌, refl, sym, ap, ◌∙◌}
use mathlib.Core.Bool.{Bool, true, false, cond, not}
use mathlib.Core.List.{List, [], ◌∷◌, ◌++◌}
use Prim.Native.Nat.{ℕ}
use native.Mathlib.Omega.{arith}
use lib.Dec.{ltb}
use lib.Ieee.{Float}
use lib.IntN.{ℤ}
use lib.ListN.{length}
use Rattle.refusals.specs.declared.Refusal.{Refusal}
use Rattle.refusals.specs.declared.Refusal.TheVariants.{NoRoom}
use Rattle.refusals.specs.Numbers.{number_of}
use Rattle.refusals.specs.Order.{decide}
use Rattle.refusals.proofs.Deciding.{decide-map, decide_append}
use Rattle.chain.specs.Frame.{frame_refusals, answer}
use Rattle.priorities.specs.declared.outputs.Events.{Events}
use Rattle.discharge.specs.Question.{discharge_refusals, discharged}
use Rattle.clocking.specs.Clock.{Clock}
use Rattle.releasing.specs.Release.{release_refusals, released}
use Rattle.releasing.specs.Look.{look_refusals, looked}
use Rattle.ports.specs.declared.checks.Checked.{Checked}
use Rattle.ports.specs.declared.checks.Checked.TheVariants.{Right, CounterDiffers, Damaged}
use Rattle.ports.specs.declared.ports.Port.{Port}
use Rattle.ports.specs.declared.ports.Port.TheVariants.{A, B}
use Rattle.host.specs.Frames.{build_refusals, built}
use Rattle.ports.specs.Check.{check_refusals, checked}
use Rattle.messages.specs.declared.verdicts.Verdict.TheVariants.{Passed as Good, Failed, Damaged as MessageDamaged, TimedOut}
use Rattle.messages.specs.Messages.{count_in, flags_in, message_right, is_pass}
use Rattle.messages.specs.Verdicts.{verdict_refusals, verdict_of, verdict}
use Rattle.ports.specs.Ports.{port_refusals, port_of}
use Rattle.passing.specs.declared.operations.Relayed.{Relayed}
use Rattle.passing.specs.declared.operations.Relayed.TheVariants.{Stopped, SentOn}
use Rattle.passing.specs.declared.operations.TimedOut.{TimedOut as Timed}
use Rattle.passing.specs.declared.operations.TimedOut.TheVariants.{NoTimeoutMonitor, RanOut}
use Rattle.passing.specs.Operations.{wake_refusals, woken_at, relay_refusals, relayed_at, beaten, time_out_refusals, timed_out}
use Rattle.readings.specs.Readings.{measured, whole_of, summary_of}
use Rattle.story.specs.Numbers.{checked_numbers, port_numbers, sent_numbers, relayed_numbers, timed_numbers, first_number, summary_refusals}
use Rattle.story.proofs.Numbers.{checked-number as told-checked, port_number as told-port, wake_number as told-wake, beat_number as told-beat, relay_number as told-relay, time_number as told-time}
use Rattle.packing.specs.Packed.{Parts, refused, accepted}
use Rattle.door.specs.Answers.{built_parts, checked_parts, port_parts, verdict_parts}
use Rattle.door.specs.Volts.{summary_size, room_row, summary_parts, summary_out}
use Rattle.oskorbine.specs.Answers.{frame_parts, discharged_parts, sent_parts, relayed_parts, timed_parts, looked_parts}
use Rattle.std.specs.Prelude.{Option, Some, None, Result, Ok, Err}
use Rattle.passing.specs.declared.operations.End.{End}
use Rattle.passing.specs.declared.operations.End.TheVariants.{A, B}
use Rattle.readings.specs.declared.pack_summary.Summary.{Summary}

pub frame-number : (table frame : List ℕ) (room : ℕ) → (frame_parts (answer table frame room)).number ≡ first_number (frame_refusals table frame room)
unfolding answer
frame-number table frame room = decide-map (λ x. (frame_parts x).number) (frame_refusals table frame room) Err _

pub release_number : (c : Clock) (table : List ℕ) → (frame_parts (released c table)).number ≡ first_number (release_refusals c table)
unfolding released
release_number c table = decide-map (λ x. (frame_parts x).number) (release_refusals c table) Err _

pub discharge_number : (table : List ℕ) (position : ℕ) (events : Events) (phase room : ℕ)
    → (discharged_parts (discharged table position events phase room)).number ≡ first_number (discharge_refusals table position phase room)
unfolding discharged
discharge_number table position events phase room = decide-map (λ x. (discharged_parts x).number) (discharge_refusals table position phase room) Err _

pub look_number : (c : Clock) (position room : ℕ) → (looked_parts (looked c position room)).number ≡ first_number (look_refusals c position room)
unfolding looked
look_number c position room = decide-map (λ x. (looked_parts x).number) (look_refusals c position room) Err _

pub built-number : (code n : ℕ) (values : List ℕ) (room : ℕ) → (built_parts (built code n values room)).number ≡ first_number (build_refusals code n values room)
unfolding built
built-number code n values room = decide-map (λ x. (built_parts x).number) (build_refusals code n values room) Err _

-- the parts of an answer of a check, of two ports and of a heartbeat have the number that demand 1 has
same-checked : (c : Result Checked Refusal) → (checked_parts c).number ≡ (checked_numbers c).number
same-checked (Err r) = refl
same-checked (Ok Right) = refl
same-checked (Ok (CounterDiffers c)) = refl
same-checked (Ok Damaged) = refl

same_port : (n k : ℕ) (p : Result Port Refusal) → (port_parts n k p).number ≡ (port_numbers p).number
same_port n k (Err r) = refl
same_port n k (Ok (A true)) = refl
same_port n k (Ok (A false)) = refl
same_port n k (Ok (B true)) = refl
same_port n k (Ok (B false)) = refl

same_sent : (s : Result (Option End) Refusal) → (sent_parts s).number ≡ (sent_numbers s).number
same_sent (Err r) = refl
same_sent (Ok None) = refl
same_sent (Ok (Some A)) = refl
same_sent (Ok (Some B)) = refl

same-relayed : (m : Result Relayed Refusal) → (relayed_parts m).number ≡ (relayed_numbers m).number
same-relayed (Err r) = refl
same-relayed (Ok Stopped) = refl
same-relayed (Ok SentOn) = refl

same_timed : (t : Result Timed Refusal) → (timed_parts t).number ≡ (timed_numbers t).number
same_timed (Err r) = refl
same_timed (Ok NoTimeoutMonitor) = refl
same_timed (Ok RanOut) = refl

pub checked-number : (payload : List ℕ) (expected : ℕ) → (checked_parts (checked payload expected)).number ≡ first_number (check_refusals payload expected)
checked-number payload expected = same-checked (checked payload expected) ∙ told-checked payload expected

pub port_number : (a b : List ℕ) (n k expected : ℕ) → (port_parts n k (port_of a b n k expected)).number ≡ first_number (port_refusals a b n k expected)
port_number a b n k expected = same_port n k (port_of a b n k expected) ∙ told-port a b n k expected

module _ (table : List ℕ) (position : ℕ) where
  pub wake_number : (room : ℕ) → (sent_parts (woken_at table position room)).number ≡ first_number (wake_refusals table position room)
  wake_number room = same_sent (woken_at table position room) ∙ told-wake table position room

  pub beat_number : (room : ℕ) → (sent_parts (beaten table position room)).number ≡ first_number (wake_refusals table position room)
  beat_number room = same_sent (beaten table position room) ∙ told-beat table position room

  pub relay_number : (message : List ℕ) (room : ℕ) → (relayed_parts (relayed_at table position message room)).number ≡ first_number (relay_refusals table position (length message) room)
  relay_number message room = same-relayed (relayed_at table position message room) ∙ told-relay table position message room

  pub time_number : (timed_parts (timed_out table position)).number ≡ first_number (time_out_refusals table position)
  time_number = same_timed (timed_out table position) ∙ told-time table position

pub verdict-number : (bytes : List ℕ) (late : Bool) → (verdict_parts (verdict bytes late)).number ≡ first_number (verdict_refusals bytes late)
unfolding verdict verdict_of
verdict-number bytes late =
    decide-map (λ x. (verdict_parts x).number) (verdict_refusals bytes late) Err _
    ∙ ap (decide (verdict_refusals bytes late) number_of) (none late (message_right bytes) (is_pass (count_in bytes) (flags_in bytes)))
  where
    none : (l r p : Bool) → (verdict_parts (Ok (cond l TimedOut (cond (not r) MessageDamaged (cond p Good (Failed (count_in bytes) (flags_in bytes))))))).number ≡ 0
    none true r p = refl
    none false false p = refl
    none false true true = refl
    none false true false = refl

-- ---- a summary

-- 8, then 6
pub summary_number : (codes : List ℤ) (room : ℕ)
    → (summary_parts (summary_of codes) room).number ≡ first_number (summary_refusals codes ++ room_row room ∷ [])
unfolding summary_of whole_of
summary_number codes room =
    decide-map (λ x. (summary_parts x room).number) (summary_refusals codes) Err (Ok (whole_of (measured codes)))
    ∙ ap (decide (summary_refusals codes) number_of) (by_room (measured codes))
    ∙ sym (decide_append (summary_refusals codes) (room_row room ∷ []) number_of 0)
  where
    by_room : (ms : List ℤ) → (summary_parts (Ok (whole_of ms)) room).number ≡ first_number (room_row room ∷ [])
    by_room [] = decide-map (λ p. p.number) (room_row room ∷ []) refused _
    by_room (m ∷ ms) = decide-map (λ p. p.number) (room_row room ∷ []) refused _

-- where it is refused the buffer stays
pub summary_stays : (codes : List ℤ) (out : List Float) (r : Refusal) → summary_parts (summary_of codes) (length out) ≡ refused r
    → summary_out (summary_of codes) out ≡ out
unfolding decide
summary_stays codes out r = by (summary_of codes)
  where
    stays : (cells : ℕ) (written : List Float) (b : Bool) → cond b (refused NoRoom) (accepted 1 cells) ≡ refused r → cond b out written ≡ out
    stays cells written true e = refl
    stays cells written false e = absurd (omega (arith, ap (λ (p : Parts). p.first) e))

    by : (p : Result (Option Summary) Refusal) → summary_parts p (length out) ≡ refused r → summary_out p out ≡ out
    by (Err r') e = refl
    by (Ok None) e = refl
    by (Ok (Some s)) e = stays s.cells _ (ltb (length out) summary_size) e

-- and where all cells are cleared
pub nothing_stays : (codes : List ℤ) (out : List Float) → summary_of codes ≡ (Ok None) → summary_out (summary_of codes) out ≡ out
nothing_stays codes out e = ap (λ (p : Result (Option Summary) Refusal). summary_out p out) e
