-- What the surface promises, in one record: the chain's functions (`oskorbine`) and the host's (`door`), which a controller without a chain
-- links alone. Every function is proved to meet its own contract, asks nothing of its arguments, and leaves
-- one outcome, which the definitions of the crates below say, as for theirs (`story`, demand 1); a u32 that it answers with is taken
-- apart again into the paper's number and the two values, with nothing lost; the eight bytes of two ports are those that the host
-- hands back; and a summary refuses in its order, and leaves its buffer where it does.
-- Assumes nothing.
use mathlib.Core.Path.{◌≡◌, refl}
use mathlib.Core.Bool.{Bool, not}
use mathlib.Core.List.{List, [], ◌∷◌, ◌++◌}
use Prim.Native.Nat.{ℕ, ◌<◌}
use lib.Ieee.{Float}
use lib.IntN.{ℤ}
use lib.Dec.{eqb}
use lib.ListN.{length, get_or}
use Rattle.refusals.specs.declared.Refusal.{Refusal}
use Rattle.chain.specs.Frame.{frame_refusals, answer, table_after, reply_after}
use Rattle.loads.specs.Load.{store_refusals, stored, table_after_store, compare_refusals, compared, table_after_compare, load_refusals, loaded, table_after_load}
use Rattle.priorities.specs.declared.outputs.Events.{Events}
use Rattle.discharge.specs.Question.{discharge_refusals, discharged, outputs_after}
use Rattle.passing.specs.declared.operations.Relayed.{Relayed}
use Rattle.passing.specs.declared.operations.TimedOut.{TimedOut}
use Rattle.passing.specs.Operations.{wake_refusals, woken_at, table_after_wake, out_after_wake, relay_refusals, relayed_at, table_after_relay, out_after_relay, beaten, table_after_beat, out_after_beat, time_out_refusals, timed_out, table_after_time_out}
use Rattle.clocking.specs.Clock.{Clock, answered}
use Rattle.releasing.specs.Release.{release_refusals, released, table_released}
use Rattle.releasing.specs.Look.{look_refusals, looked, out_after}
use Rattle.clock_state.specs.State.{state_size, idle}
use Rattle.clocking.specs.Bytes.{clock_of, state_after}
use Rattle.host.specs.Frames.{build_refusals, built, buffer_after}
use Rattle.ports.specs.Check.{check_refusals, checked}
use Rattle.messages.specs.Verdicts.{verdict_refusals, verdict}
use Rattle.ports.specs.Ports.{port_refusals, port_of}
use Rattle.ports.specs.Parts.{bytes_of}
use Rattle.readings.specs.Readings.{microvolts, reading_of, summary_of}
use Rattle.story.specs.Numbers.{first_number, summary_refusals}
use Rattle.story.proofs.OneOutcome.{Settles, leaves, settles}
use Rattle.story.proofs.Demand1.{Promised}
use Rattle.packing.specs.Packed.{packed, apart, refused, accepted}
use Rattle.packing.proofs.Packed.{apart-packed}
use Rattle.door.specs.Answers.{built_parts, checked_parts, port_parts, verdict_parts, pointed}
use Rattle.door.specs.Volts.{volts_or_nan, room_row, summary_parts, summary_out}
use Rattle.door.proofs.Fits.{built-fits, checked-fits, verdict-fits, port_fits, summary_fits}
use Rattle.door.proofs.Pointed.{pointed-bytes}
use Rattle.oskorbine.specs.Answers.{frame_parts, load_parts, discharged_parts, sent_parts, relayed_parts, timed_parts, looked_parts}
use Rattle.oskorbine.specs.Events.{events_in}
use Rattle.oskorbine.proofs.Fits.{frame-fits, release_fits, load_fits, discharge_fits, sent_fits, relayed-fits, timed_fits, look_fits, byte_fits}
use Rattle.story.proofs.Numbers.{store-number, compare-number, load-number}
use Rattle.story.proofs.SurfaceNumbers.{frame-number, discharge_number, wake_number, beat_number, relay_number, time_number, release_number, look_number, built-number, checked-number, verdict-number, port_number, summary_number, summary_stays, nothing_stays}
use Rattle.door.proofs as door
use Rattle.oskorbine.proofs as oskorbine
use Rattle.std.specs.Prelude.{Option, None, Result, Ok}
use Rattle.passing.specs.declared.operations.End.{End}

-- ---- every function

pub record Promises : Type 2 where
  frame : Promised oskorbine.osk_frame.Statement.statement oskorbine.osk_frame.Reads.Asked
  store : Promised oskorbine.osk_store.Statement.statement oskorbine.osk_store.Reads.Asked
  compare : Promised oskorbine.osk_compare.Statement.statement oskorbine.osk_compare.Reads.Asked
  load : Promised oskorbine.osk_load.Statement.statement oskorbine.osk_load.Reads.Asked
  discharge : Promised oskorbine.osk_discharge.Statement.statement oskorbine.osk_discharge.Reads.Asked
  wake : Promised oskorbine.osk_wake.Statement.statement oskorbine.osk_wake.Reads.Asked
  relay : Promised oskorbine.osk_relay.Statement.statement oskorbine.osk_relay.Reads.Asked
  heartbeat : Promised oskorbine.osk_heartbeat.Statement.statement oskorbine.osk_heartbeat.Reads.Asked
  time_out : Promised oskorbine.osk_time_out.Statement.statement oskorbine.osk_time_out.Reads.Asked
  host_frame : Promised door.osk_host_frame.Statement.statement door.osk_host_frame.Reads.Asked
  check : Promised door.osk_check.Statement.statement door.osk_check.Reads.Asked
  verdict-on : Promised door.osk_verdict.Statement.statement door.osk_verdict.Reads.Asked
  two_ports : Promised door.osk_two_ports.Statement.statement door.osk_two_ports.Reads.Asked
  clock-start : Promised oskorbine.osk_clock_start.Statement.statement oskorbine.osk_clock_start.Reads.Asked
  clock_byte : Promised oskorbine.osk_clock_byte.Statement.statement oskorbine.osk_clock_byte.Reads.Asked
  clock_window : Promised oskorbine.osk_clock_window.Statement.statement oskorbine.osk_clock_window.Reads.Asked
  clock_release : Promised oskorbine.osk_clock_release.Statement.statement oskorbine.osk_clock_release.Reads.Asked
  microvolts_of : Promised door.osk_microvolts.Statement.statement door.osk_microvolts.Reads.Asked
  volts_of : Promised door.osk_volts.Statement.statement door.osk_volts.Reads.Asked
  summary : Promised door.osk_summary.Statement.statement door.osk_summary.Reads.Asked

-- what each leaves: what comes back, and the bytes of each buffer that it was lent to change. A summary's buffer is no bytes, so it stands
-- beside what comes back
pub record Outcomes : Type 0 where
  frame : Settles oskorbine.osk_frame.Reads.Post (λ κ z e. leaves z (e.0.now ∷ e.1.1.0.now ∷ []))
      (λ κ a. leaves (packed (frame_parts (answer a.0.now a.1.0.now (length a.1.1.0.now)))) (table_after a.0.now a.1.0.now (length a.1.1.0.now) ∷ reply_after a.0.now a.1.0.now a.1.1.0.now ∷ []))
  store : Settles oskorbine.osk_store.Reads.Post (λ κ z e. leaves z (e.0.now ∷ []))
      (λ κ a. leaves (packed (load_parts (stored a.0.now a.1.0 a.1.1.0.now))) (table_after_store a.0.now a.1.0 a.1.1.0.now ∷ []))
  compare : Settles oskorbine.osk_compare.Reads.Post (λ κ z e. leaves z (e.0.now ∷ []))
      (λ κ a. leaves (packed (load_parts (compared a.0.now a.1.0))) (table_after_compare a.0.now a.1.0 ∷ []))
  load : Settles oskorbine.osk_load.Reads.Post (λ κ z e. leaves z (e.0.now ∷ []))
      (λ κ a. leaves (packed (load_parts (loaded a.0.now a.1.0 a.1.1.0.now))) (table_after_load a.0.now a.1.0 a.1.1.0.now ∷ []))
  discharge : Settles oskorbine.osk_discharge.Reads.Post (λ κ z e. leaves z (e.1.1.1.1.0.now ∷ []))
      (λ κ a. leaves (packed (discharged_parts (discharged a.0.now a.1.0 (events_in a.1.1.0) a.1.1.1.0 (length a.1.1.1.1.0.now)))) (outputs_after a.0.now a.1.0 (events_in a.1.1.0) a.1.1.1.0 a.1.1.1.1.0.now ∷ []))
  wake : Settles oskorbine.osk_wake.Reads.Post (λ κ z e. leaves z (e.0.now ∷ e.1.1.0.now ∷ []))
      (λ κ a. leaves (packed (sent_parts (woken_at a.0.now a.1.0 (length a.1.1.0.now)))) (table_after_wake a.0.now a.1.0 (length a.1.1.0.now) ∷ out_after_wake a.0.now a.1.0 a.1.1.0.now ∷ []))
  relay : Settles oskorbine.osk_relay.Reads.Post (λ κ z e. leaves z (e.0.now ∷ e.1.1.1.0.now ∷ []))
      (λ κ a. leaves (packed (relayed_parts (relayed_at a.0.now a.1.0 a.1.1.0.now (length a.1.1.1.0.now)))) (table_after_relay a.0.now a.1.0 a.1.1.0.now (length a.1.1.1.0.now) ∷ out_after_relay a.0.now a.1.0 a.1.1.0.now a.1.1.1.0.now ∷ []))
  heartbeat : Settles oskorbine.osk_heartbeat.Reads.Post (λ κ z e. leaves z (e.0.now ∷ e.1.1.0.now ∷ []))
      (λ κ a. leaves (packed (sent_parts (beaten a.0.now a.1.0 (length a.1.1.0.now)))) (table_after_beat a.0.now a.1.0 (length a.1.1.0.now) ∷ out_after_beat a.0.now a.1.0 a.1.1.0.now ∷ []))
  time_out : Settles oskorbine.osk_time_out.Reads.Post (λ κ z e. leaves z (e.0.now ∷ []))
      (λ κ a. leaves (packed (timed_parts (timed_out a.0.now a.1.0))) (table_after_time_out a.0.now a.1.0 ∷ []))
  host_frame : Settles door.osk_host_frame.Reads.Post (λ κ z e. leaves z (e.1.1.1.0.now ∷ []))
      (λ κ a. leaves (packed (built_parts (built a.0 a.1.0 a.1.1.0.now (length a.1.1.1.0.now)))) (buffer_after a.0 a.1.0 a.1.1.0.now a.1.1.1.0.now ∷ []))
  check : Settles door.osk_check.Reads.Post (λ κ z e. leaves z []) (λ κ a. leaves (packed (checked_parts (checked a.0.now a.1.0))) [])
  verdict-on : Settles door.osk_verdict.Reads.Post (λ κ z e. leaves z []) (λ κ a. leaves (packed (verdict_parts (verdict a.0.now (not (eqb a.1.0 0))))) [])
  two_ports : Settles door.osk_two_ports.Reads.Post (λ κ z e. leaves z [])
      (λ κ a. leaves (packed (port_parts a.1.1.0 a.1.1.1.0 (port_of a.0.now a.1.0.now a.1.1.0 a.1.1.1.0 a.1.1.1.1.0))) [])
  clock-start : Settles oskorbine.osk_clock_start.Reads.Post (λ κ z e. leaves z (e.0.now ∷ [])) (λ κ a. leaves tt (idle ∷ []))
  clock_byte : Settles oskorbine.osk_clock_byte.Reads.Post (λ κ z e. leaves z (e.0.now ∷ []))
      (λ κ a. leaves (packed (accepted (answered (clock_of a.0.now)) 0)) (state_after a.1.0.now a.1.1.0 a.0.now ∷ []))
  clock_window : Settles oskorbine.osk_clock_window.Reads.Post (λ κ z e. leaves z (e.1.1.0.now ∷ []))
      (λ κ a. leaves (packed (looked_parts (looked (clock_of a.0.now) a.1.0 (length a.1.1.0.now)))) (out_after (clock_of a.0.now) a.1.0 a.1.1.0.now ∷ []))
  clock_release : Settles oskorbine.osk_clock_release.Reads.Post (λ κ z e. leaves z (e.0.now ∷ e.1.0.now ∷ []))
      (λ κ a. leaves (packed (frame_parts (released (clock_of a.0.now) a.1.0.now))) (idle ∷ table_released (clock_of a.0.now) a.1.0.now ∷ []))
  microvolts_of : Settles door.osk_microvolts.Reads.Post (λ κ z e. leaves z []) (λ κ a. leaves (microvolts (record { 0 = a.0 })) [])
  volts_of : Settles door.osk_volts.Reads.Post (λ κ z e. leaves z []) (λ κ a. leaves (volts_or_nan (reading_of (record { 0 = a.0 }))) [])
  summary : Settles door.osk_summary.Reads.Post (λ κ z e. leaves {A = ℕ × List Float} (z, e.1.0.now) [])
      (λ κ a. leaves {A = ℕ × List Float} (packed (summary_parts (summary_of a.0.now) (length a.1.0.now)), summary_out (summary_of a.0.now) a.1.0.now) [])

-- ---- the surface

pub record Surface : Type 2 where
  promises : Promises
  outcomes : Outcomes
  -- an answer is taken apart again: nothing is lost in the packing. A byte clocked is one of a state of bytes, and a payload and a heartbeat are bytes
  frame_apart : (table frame : List ℕ) (room : ℕ) → apart (packed (frame_parts (answer table frame room))) ≡ frame_parts (answer table frame room)
  load_apart : (l : Result (Unit {0}) Refusal) → apart (packed (load_parts l)) ≡ load_parts l
  discharge_apart : (table : List ℕ) (position : ℕ) (events : Events) (phase room : ℕ)
      → apart (packed (discharged_parts (discharged table position events phase room))) ≡ discharged_parts (discharged table position events phase room)
  sent_apart : (s : Result (Option End) Refusal) → apart (packed (sent_parts s)) ≡ sent_parts s
  relayed-apart : (m : Result Relayed Refusal) → apart (packed (relayed_parts m)) ≡ relayed_parts m
  timed_apart : (t : Result TimedOut Refusal) → apart (packed (timed_parts t)) ≡ timed_parts t
  host_frame-apart : (code n : ℕ) (values : List ℕ) (room : ℕ) → apart (packed (built_parts (built code n values room))) ≡ built_parts (built code n values room)
  check_apart : (payload : List ℕ) (expected : ℕ) → ((k : ℕ) → get_or payload k 0 < 256)
      → apart (packed (checked_parts (checked payload expected))) ≡ checked_parts (checked payload expected)
  verdict-apart : (bytes : List ℕ) (late : Bool) → ((k : ℕ) → get_or bytes k 0 < 256) → apart (packed (verdict_parts (verdict bytes late))) ≡ verdict_parts (verdict bytes late)
  two_ports_apart : (a b : List ℕ) (n k expected : ℕ) → apart (packed (port_parts n k (port_of a b n k expected))) ≡ port_parts n k (port_of a b n k expected)
  byte_apart : (s : List ℕ) → ((k : ℕ) → get_or s k 0 < 256) → apart (packed (accepted (answered (clock_of s)) 0)) ≡ accepted (answered (clock_of s)) 0
  window_apart : (s : List ℕ) (position room : ℕ) → apart (packed (looked_parts (looked (clock_of s) position room))) ≡ looked_parts (looked (clock_of s) position room)
  release_apart : (s table : List ℕ) → apart (packed (frame_parts (released (clock_of s) table))) ≡ frame_parts (released (clock_of s) table)
  summary_apart : (codes : List ℤ) (room : ℕ) → apart (packed (summary_parts (summary_of codes) room)) ≡ summary_parts (summary_of codes) room
  -- its number is that of the first refusal that holds, and 0 where none does
  frame-number : (table frame : List ℕ) (room : ℕ) → (frame_parts (answer table frame room)).number ≡ first_number (frame_refusals table frame room)
  store-number : (table : List ℕ) (position : ℕ) (codes : List ℤ) → (load_parts (stored table position codes)).number ≡ first_number (store_refusals table position codes)
  compare-number : (table : List ℕ) (position : ℕ) → (load_parts (compared table position)).number ≡ first_number (compare_refusals table position)
  load-number : (table : List ℕ) (position : ℕ) (codes : List ℤ) → (load_parts (loaded table position codes)).number ≡ first_number (load_refusals table position codes)
  discharge_number : (table : List ℕ) (position : ℕ) (events : Events) (phase room : ℕ)
      → (discharged_parts (discharged table position events phase room)).number ≡ first_number (discharge_refusals table position phase room)
  wake_number : (table : List ℕ) (position room : ℕ) → (sent_parts (woken_at table position room)).number ≡ first_number (wake_refusals table position room)
  relay_number : (table : List ℕ) (position : ℕ) (message : List ℕ) (room : ℕ)
      → (relayed_parts (relayed_at table position message room)).number ≡ first_number (relay_refusals table position (length message) room)
  heartbeat_number : (table : List ℕ) (position room : ℕ) → (sent_parts (beaten table position room)).number ≡ first_number (wake_refusals table position room)
  time_out_number : (table : List ℕ) (position : ℕ) → (timed_parts (timed_out table position)).number ≡ first_number (time_out_refusals table position)
  host_frame-number : (code n : ℕ) (values : List ℕ) (room : ℕ) → (built_parts (built code n values room)).number ≡ first_number (build_refusals code n values room)
  check_number : (payload : List ℕ) (expected : ℕ) → (checked_parts (checked payload expected)).number ≡ first_number (check_refusals payload expected)
  verdict-number : (bytes : List ℕ) (late : Bool) → (verdict_parts (verdict bytes late)).number ≡ first_number (verdict_refusals bytes late)
  two_ports_number : (a b : List ℕ) (n k expected : ℕ) → (port_parts n k (port_of a b n k expected)).number ≡ first_number (port_refusals a b n k expected)
  window_number : (c : Clock) (position room : ℕ) → (looked_parts (looked c position room)).number ≡ first_number (look_refusals c position room)
  release_number : (c : Clock) (table : List ℕ) → (frame_parts (released c table)).number ≡ first_number (release_refusals c table)
  summary_number : (codes : List ℤ) (room : ℕ) → (summary_parts (summary_of codes) room).number ≡ first_number (summary_refusals codes ++ room_row room ∷ [])
  -- the state's size is the header's OSK_CLOCK_STATE
  clock-state : state_size ≡ 264
  -- the eight bytes that an answer of two ports points at are those that the host hands back
  pointed-bytes : (a b : List ℕ) (n k expected : ℕ) → pointed (port_parts n k (port_of a b n k expected)) a b ≡ bytes_of a b n k expected
  -- a summary's buffer stays where it is refused, and where all cells are cleared. The other buffers are those of demand 1
  summary_stays : (codes : List ℤ) (out : List Float) (r : Refusal) → summary_parts (summary_of codes) (length out) ≡ refused r → summary_out (summary_of codes) out ≡ out
  nothing_stays : (codes : List ℤ) (out : List Float) → summary_of codes ≡ (Ok None) → summary_out (summary_of codes) out ≡ out

-- ---- the answer

proved : Promises
proved =
    record {
      frame = (λ M. oskorbine.osk_frame.Met.met, λ κ a. tt);
      store = (λ M. oskorbine.osk_store.Met.met, λ κ a. tt);
      compare = (λ M. oskorbine.osk_compare.Met.met, λ κ a. tt);
      load = (λ M. oskorbine.osk_load.Met.met, λ κ a. tt);
      discharge = (λ M. oskorbine.osk_discharge.Met.met, λ κ a. tt);
      wake = (λ M. oskorbine.osk_wake.Met.met, λ κ a. tt);
      relay = (λ M. oskorbine.osk_relay.Met.met, λ κ a. tt);
      heartbeat = (λ M. oskorbine.osk_heartbeat.Met.met, λ κ a. tt);
      time_out = (λ M. oskorbine.osk_time_out.Met.met, λ κ a. tt);
      host_frame = (λ M. door.osk_host_frame.Met.met, λ κ a. tt);
      check = (λ M. door.osk_check.Met.met, λ κ a. tt);
      verdict-on = (λ M. door.osk_verdict.Met.met, λ κ a. tt);
      two_ports = (λ M. door.osk_two_ports.Met.met, λ κ a. tt);
      clock-start = (λ M. oskorbine.osk_clock_start.Met.met, λ κ a. tt);
      clock_byte = (λ M. oskorbine.osk_clock_byte.Met.met, λ κ a. tt);
      clock_window = (λ M. oskorbine.osk_clock_window.Met.met, λ κ a. tt);
      clock_release = (λ M. oskorbine.osk_clock_release.Met.met, λ κ a. tt);
      microvolts_of = (λ M. door.osk_microvolts.Met.met, λ κ a. tt);
      volts_of = (λ M. door.osk_volts.Met.met, λ κ a. tt);
      summary = (λ M. door.osk_summary.Met.met, λ κ a. tt);
    }

settled : Outcomes
settled =
    record {
      frame = settles (λ κ a z e p i. leaves (p.0 i) (p.1.0 i ∷ p.1.1 i ∷ []));
      store = settles (λ κ a z e p i. leaves (p.0 i) (p.1 i ∷ []));
      compare = settles (λ κ a z e p i. leaves (p.0 i) (p.1 i ∷ []));
      load = settles (λ κ a z e p i. leaves (p.0 i) (p.1 i ∷ []));
      discharge = settles (λ κ a z e p i. leaves (p.0 i) (p.1 i ∷ []));
      wake = settles (λ κ a z e p i. leaves (p.0 i) (p.1.0 i ∷ p.1.1 i ∷ []));
      relay = settles (λ κ a z e p i. leaves (p.0 i) (p.1.0 i ∷ p.1.1 i ∷ []));
      heartbeat = settles (λ κ a z e p i. leaves (p.0 i) (p.1.0 i ∷ p.1.1 i ∷ []));
      time_out = settles (λ κ a z e p i. leaves (p.0 i) (p.1 i ∷ []));
      host_frame = settles (λ κ a z e p i. leaves (p.0 i) (p.1 i ∷ []));
      check = settles (λ κ a z e p i. leaves (p i) []);
      verdict-on = settles (λ κ a z e p i. leaves (p i) []);
      two_ports = settles (λ κ a z e p i. leaves (p i) []);
      clock-start = settles (λ κ a z e p i. leaves z (p i ∷ []));
      clock_byte = settles (λ κ a z e p i. leaves (p.0 i) (p.1.1 i ∷ []));
      clock_window = settles (λ κ a z e p i. leaves (p.0 i) (p.1 i ∷ []));
      clock_release = settles (λ κ a z e p i. leaves (p.0 i) (p.1.0 i ∷ p.1.1 i ∷ []));
      microvolts_of = settles (λ κ a z e p i. leaves (p i) []);
      volts_of = settles (λ κ a z e p i. leaves (p i) []);
      summary = settles (λ κ a z e p i. leaves (p.0 i, p.1 i) []);
    }

pub surface : Surface
surface =
    record {
      promises = proved;
      outcomes = settled;
      frame_apart = λ table frame room. apart-packed _ (frame-fits table frame room);
      load_apart = λ l. apart-packed _ (load_fits l);
      discharge_apart = λ table position events phase room. apart-packed _ (discharge_fits table position events phase room);
      sent_apart = λ s. apart-packed _ (sent_fits s);
      relayed-apart = λ m. apart-packed _ (relayed-fits m);
      timed_apart = λ t. apart-packed _ (timed_fits t);
      host_frame-apart = λ code n values room. apart-packed _ (built-fits code n values room);
      check_apart = λ payload expected small. apart-packed _ (checked-fits payload expected small);
      verdict-apart = λ bytes late small. apart-packed _ (verdict-fits bytes late small);
      two_ports_apart = λ a b n k expected. apart-packed _ (port_fits a b n k expected);
      byte_apart = λ s bytes. apart-packed _ (byte_fits s bytes);
      window_apart = λ s position room. apart-packed _ (look_fits s position room);
      release_apart = λ s table. apart-packed _ (release_fits s table);
      summary_apart = λ codes room. apart-packed _ (summary_fits codes room);
      frame-number = frame-number;
      store-number = store-number;
      compare-number = compare-number;
      load-number = load-number;
      discharge_number = discharge_number;
      wake_number = wake_number;
      relay_number = relay_number;
      heartbeat_number = beat_number;
      time_out_number = time_number;
      host_frame-number = built-number;
      check_number = checked-number;
      verdict-number = verdict-number;
      two_ports_number = port_number;
      window_number = look_number;
      release_number = release_number;
      summary_number = summary_number;
      clock-state = refl;
      pointed-bytes = pointed-bytes;
      summary_stays = summary_stays;
      nothing_stays = nothing_stays;
    }
