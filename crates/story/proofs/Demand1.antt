-- Demand 1. Every frame, reply and reading, of any length and content, gets one answer and an end to the work. Bad frames are refused
-- by number, and every lent buffer stays as it was lent. Three things are stated: every public function is proved to meet its own
-- contract, for all inputs, and leaves one outcome, which the definitions say; the number it gives is that of the first condition that
-- holds; and where it refuses, every byte of a table or a buffer that it was lent stays. Each is proved where it is cited from.
-- Assumes nothing.
use mathlib.Core.Path.{◌≡◌, refl}
use mathlib.Core.Bool.{Bool, false}
use mathlib.Core.List.{List, [], ◌∷◌}
use mathlib.Core.Logic.{◌↔◌}
use Prim.Native.Nat.{ℕ}
use native.Mathlib.Omega.{arith}
use lib.IntN.{ℤ}
use lib.ListN.{length}
use borrow.Author.Tests.{le-ltb}
use Rattle.refusals.specs.declared.Refusal.{Refusal}
use Rattle.refusals.specs.Numbers.{number_of}
use Rattle.refusals.specs.Order.{Row, Passed}
use Rattle.laying.proofs as laying
use Rattle.refusals.proofs as refusals
use Rattle.packing.proofs as packing
use Rattle.pec.proofs as pec
use Rattle.check_words.proofs as check_words
use Rattle.remainders.proofs as remainders
use Rattle.records.specs.declared.commands.Command.TheVariants.{Writes, Bares}
use Rattle.records.specs.declared.commands.Write.{Write}
use Rattle.records.specs.declared.commands.Bare.{Bare}
use Rattle.records.proofs as records
use Rattle.writes.proofs as writes
use Rattle.writing.proofs as writing
use Rattle.reads.proofs as reads
use Rattle.monitor.proofs as monitor
use Rattle.acting.proofs as acting
use Rattle.judging.specs.Refusals.{room_row}
use Rattle.chain.specs.Frame.{frame_refusals, answer, table_after, reply_after}
use Rattle.chain.specs.Numbers.{numbers_of}
use Rattle.judging.proofs as judging
use Rattle.serving.proofs as serving
use Rattle.replying.proofs as replying
use Rattle.chain.proofs as chain
use Rattle.chain.proofs.Refused.{refused-table, refused-reply}
use Rattle.priorities.specs.declared.outputs.Events.{Events}
use Rattle.discharge.specs.Question.{discharge_refusals, discharged, outputs_after}
use Rattle.loads.specs.Load.{store_refusals, stored, table_after_store, compare_refusals, compared, table_after_compare, load_refusals, loaded, table_after_load}
use Rattle.loads.specs.Numbers.{load_number}
use Rattle.thresholds.proofs as thresholds
use Rattle.cells.proofs as cells
use Rattle.measuring.proofs as measuring
use Rattle.heartbeats.proofs as heartbeats
use Rattle.passing.specs.Operations.{wake_refusals, woken_at, table_after_wake, out_after_wake, relay_refusals, relayed_at, table_after_relay, out_after_relay, beaten, table_after_beat, out_after_beat, time_out_refusals, timed_out, table_after_time_out}
use Rattle.passing.proofs as passing
use Rattle.loads.proofs as loads
use Rattle.priorities.proofs as priorities
use Rattle.discharge.proofs as discharge
use Rattle.loads.proofs.Refused.{refused-store, refused-compare, refused-load}
use Rattle.clocking.specs.Clock.{Clock, start}
use Rattle.releasing.specs.Release.{release_refusals, released, table_released}
use Rattle.releasing.specs.Look.{look_refusals, looked, out_after}
use Rattle.clock_state.specs.State.{idle}
use Rattle.clocking.specs.Bytes.{clock_of}
use Rattle.clock_state.proofs as clock_state
use Rattle.clocking.proofs as clocking
use Rattle.releasing.proofs as releasing
use Rattle.clocked.proofs as clocked
use Rattle.clocking.proofs.View.{view_idle}
use Rattle.host.specs.Frames.{build_refusals, built, buffer_after}
use Rattle.ports.specs.Verdicts.{counter_row}
use Rattle.ports.specs.Check.{check_refusals, checked}
use Rattle.ports.specs.Ports.{port_refusals, port_of}
use Rattle.ports.specs.Parts.{bytes_of}
use Rattle.ports.proofs as ports
use Rattle.host.proofs as host
use Rattle.messages.specs.Verdicts.{verdict_refusals, verdict}
use Rattle.messages.proofs as messages
use Rattle.readings.specs.Readings.{summary_of}
use Rattle.readings.proofs as readings
use Rattle.story.specs.Numbers.{discharged_numbers, sent_numbers, relayed_numbers, timed_numbers, built_numbers, checked_numbers, port_numbers, verdict_numbers, looked_numbers, pack_numbers, summary_refusals, first_number, First, order}
use Rattle.story.proofs.OneOutcome.{OneOutcome, one_outcomes}
use Rattle.story.proofs.Numbers.{number_exactly, zero_exactly, frame-number, store-number, compare-number, load-number, discharge_number, wake_number, beat_number, relay_number, time_number, release_number, look_number, built-number, checked-number, port_number, verdict-number, summary_number}
use Rattle.story.proofs.Stays.{refused_discharge, refused_wake, refused_beat, refused_relay, refused_time, refused_release, refused_look, refused_build, refused-part}
use Rattle.std.specs.Prelude.{Err}

-- ---- every public function of every library

-- it is safe, ends, and leaves what its `ensures` say (Rattle's own statement of that is proved), and it asks nothing of its arguments
abbrev pub Promised : {L : Type 0} {A : L → Type 0} → (Type 1 → Type 2) → ((κ : L) → A κ → Type 0) → Type 2
Promised {L} {A} statement asked = ((M : Type 1) → statement M) × ((κ : L) (a : A κ) → asked κ a)

pub record Promises : Type 2 where
  -- laying
  put : Promised laying.put.Statement.statement laying.put.Reads.Asked
  -- refusals
  number-of : Promised refusals.number_of.Statement.statement refusals.number_of.Reads.Asked
  -- an answer for C
  pack : Promised packing.pack.Statement.statement packing.pack.Reads.Asked
  pack_refused : Promised packing.refused.Statement.statement packing.refused.Reads.Asked
  pack_accepted : Promised packing.accepted.Statement.statement packing.accepted.Reads.Asked
  -- the remainders
  nothing_left : Promised pec.nothing_left.Statement.statement pec.nothing_left.Reads.Asked
  of_command : Promised pec.of_command.Statement.statement pec.of_command.Reads.Asked
  remainder_10 : Promised pec.remainder_10.Statement.statement pec.remainder_10.Reads.Asked
  two-bytes : Promised check_words.two_bytes.Statement.statement check_words.two_bytes.Reads.Asked
  -- the check words
  command-check : Promised check_words.command_check.Statement.statement check_words.command_check.Reads.Asked
  command-right : Promised check_words.command_right.Statement.statement check_words.command_right.Reads.Asked
  data-pec : Promised remainders.data_pec.Statement.statement remainders.data_pec.Reads.Asked
  number-in : Promised check_words.number_in.Statement.statement check_words.number_in.Reads.Asked
  number-right : Promised check_words.number_right.Statement.statement check_words.number_right.Reads.Asked
  payload-right : Promised check_words.payload_right.Statement.statement check_words.payload_right.Reads.Asked
  counter_in : Promised check_words.counter_in.Statement.statement check_words.counter_in.Reads.Asked
  sealed-two : Promised check_words.sealed_two.Statement.statement check_words.sealed_two.Reads.Asked
  four_in : Promised check_words.four_in.Statement.statement check_words.four_in.Reads.Asked
  four-right : Promised check_words.four_right.Statement.statement check_words.four_right.Reads.Asked
  pec10_bitwise : Promised remainders.pec10_bitwise.Statement.statement remainders.pec10_bitwise.Reads.Asked
  pec10-by_table : Promised remainders.pec10_by_table.Statement.statement remainders.pec10_by_table.Reads.Asked
  pec15_bitwise : Promised remainders.pec15_bitwise.Statement.statement remainders.pec15_bitwise.Reads.Asked
  pec15-by_table : Promised remainders.pec15_by_table.Statement.statement remainders.pec15_by_table.Reads.Asked
  seal : Promised remainders.seal.Statement.statement remainders.seal.Reads.Asked
  sealed : Promised check_words.sealed.Statement.statement check_words.sealed.Reads.Asked
  -- one monitor
  command-of : Promised records.command_of.Statement.statement records.command_of.Reads.Asked
  command-from : Promised records.commands.CommandFromU16.from.Statement.statement records.commands.CommandFromU16.from.Reads.Asked
  frame-length : Promised records.frame_length.Statement.statement records.frame_length.Reads.Asked
  reply-size : Promised records.reply_size.Statement.statement records.reply_size.Reads.Asked
  is-listed : Promised records.is_listed.Statement.statement records.is_listed.Reads.Asked
  record-sound : Promised records.record_sound.Statement.statement records.record_sound.Reads.Asked
  byte_at : Promised records.byte_at.Statement.statement records.byte_at.Reads.Asked
  byte-in : Promised records.byte_in.Statement.statement records.byte_in.Reads.Asked
  is_snapped : Promised records.is_snapped.Statement.statement records.is_snapped.Reads.Asked
  in-lpcm : Promised records.in_lpcm.Statement.statement records.in_lpcm.Reads.Asked
  data-size : Promised records.data_size.Statement.statement records.data_size.Reads.Asked
  width-of : Promised records.width_of.Statement.statement records.width_of.Reads.Asked
  reply-of : Promised reads.reply_of.Statement.statement reads.reply_of.Reads.Asked
  needs_check : Promised writes.needs_check.Statement.statement writes.needs_check.Reads.Asked
  rules-of : Promised writes.rules_of.Statement.statement writes.rules_of.Reads.Asked
  stores-whole : Promised writes.stores_whole.Statement.statement writes.stores_whole.Reads.Asked
  write : Promised writing.write.Statement.statement writing.write.Reads.Asked
  carry_out : Promised monitor.carry_out.Statement.statement monitor.carry_out.Reads.Asked
  act : Promised acting.act.Statement.statement acting.act.Reads.Asked
  remember : Promised monitor.remember.Statement.statement monitor.remember.Reads.Asked
  measure : Promised measuring.measure.Statement.statement measuring.measure.Reads.Asked
  wake : Promised heartbeats.wake.Statement.statement heartbeats.wake.Reads.Asked
  reach : Promised heartbeats.reach.Statement.statement heartbeats.reach.Reads.Asked
  run_out : Promised heartbeats.run_out.Statement.statement heartbeats.run_out.Reads.Asked
  is_towards_a : Promised heartbeats.is_towards_a.Statement.statement heartbeats.is_towards_a.Reads.Asked
  -- the chain
  sound : Promised judging.sound.Statement.statement judging.sound.Reads.Asked
  sound-count : Promised judging.sound_count.Statement.statement judging.sound_count.Reads.Asked
  whole-table : Promised judging.whole_table.Statement.statement judging.whole_table.Reads.Asked
  record_at : Promised judging.record_at.Statement.statement judging.record_at.Reads.Asked
  command-in : Promised judging.command_in.Statement.statement judging.command_in.Reads.Asked
  numbers-of : Promised chain.numbers_of.Statement.statement chain.numbers_of.Reads.Asked
  serve : Promised serving.serve.Statement.statement serving.serve.Reads.Asked
  serve_at : Promised serving.serve_at.Statement.statement serving.serve_at.Reads.Asked
  replies_of : Promised replying.replies_of.Statement.statement replying.replies_of.Reads.Asked
  reply-all : Promised replying.reply_all.Statement.statement replying.reply_all.Reads.Asked
  judge_head : Promised judging.judge_head.Statement.statement judging.judge_head.Reads.Asked
  handle : Promised chain.handle.Statement.statement chain.handle.Reads.Asked
  place-of : Promised judging.place_of.Statement.statement judging.place_of.Reads.Asked
  -- store, compare and load
  codes-of : Promised thresholds.codes_of.Statement.statement thresholds.codes_of.Reads.Asked
  codes-from_step : Promised thresholds.thresholds.ResultCodeFromThresholdStep.from.Statement.statement thresholds.thresholds.ResultCodeFromThresholdStep.from.Reads.Asked
  code-from_bits : Promised thresholds.thresholds.ResultCodeFromI16.from.Statement.statement thresholds.thresholds.ResultCodeFromI16.from.Reads.Asked
  lower_threshold : Promised thresholds.lower_threshold.Statement.statement thresholds.lower_threshold.Reads.Asked
  upper_threshold : Promised thresholds.upper_threshold.Statement.statement thresholds.upper_threshold.Reads.Asked
  over_threshold : Promised thresholds.over_threshold.Statement.statement thresholds.over_threshold.Reads.Asked
  under_threshold : Promised thresholds.under_threshold.Statement.statement thresholds.under_threshold.Reads.Asked
  load-number : Promised loads.load_number.Statement.statement loads.load_number.Reads.Asked
  code-in : Promised cells.code_in.Statement.statement cells.code_in.Reads.Asked
  store_one : Promised cells.store.Statement.statement cells.store.Reads.Asked
  compare_one : Promised cells.compare.Statement.statement cells.compare.Reads.Asked
  store : Promised loads.store.Statement.statement loads.store.Reads.Asked
  compare : Promised loads.compare.Statement.statement loads.compare.Reads.Asked
  load : Promised loads.load.Statement.statement loads.load.Reads.Asked
  -- a heartbeat in a table
  table_wake : Promised passing.wake.Statement.statement passing.wake.Reads.Asked
  table_relay : Promised passing.relay.Statement.statement passing.relay.Reads.Asked
  table_heartbeat : Promised passing.heartbeat.Statement.statement passing.heartbeat.Reads.Asked
  table_time_out : Promised passing.time_out.Statement.statement passing.time_out.Reads.Asked
  -- discharge
  put_outputs : Promised priorities.put_outputs.Statement.statement priorities.put_outputs.Reads.Asked
  discharge_outputs : Promised discharge.discharge.Statement.statement discharge.discharge.Reads.Asked
  -- the clocked engine
  start : Promised clock_state.start.Statement.statement clock_state.start.Reads.Asked
  seen-in : Promised clock_state.seen_in.Statement.statement clock_state.seen_in.Reads.Asked
  kind-byte : Promised clock_state.byte_of.Statement.statement clock_state.byte_of.Reads.Asked
  kind-in : Promised clock_state.kind_in.Statement.statement clock_state.kind_in.Reads.Asked
  chained-in : Promised clock_state.chained_in.Statement.statement clock_state.chained_in.Reads.Asked
  clock : Promised clocking.clock.Statement.statement clocking.clock.Reads.Asked
  judge_release : Promised releasing.judge.Statement.statement releasing.judge.Reads.Asked
  release : Promised releasing.release.Statement.statement releasing.release.Reads.Asked
  look : Promised releasing.look.Statement.statement releasing.look.Reads.Asked
  handle_clocked : Promised clocked.handle.Statement.statement clocked.handle.Reads.Asked
  -- the host
  check : Promised ports.check.Statement.statement ports.check.Reads.Asked
  port-of : Promised ports.port_of.Statement.statement ports.port_of.Reads.Asked
  part-of : Promised ports.part_of.Statement.statement ports.part_of.Reads.Asked
  build : Promised host.build.Statement.statement host.build.Reads.Asked
  -- heartbeats
  message : Promised messages.message.Statement.statement messages.message.Reads.Asked
  message-right : Promised messages.message_right.Statement.statement messages.message_right.Reads.Asked
  verdict-on : Promised messages.verdict_on.Statement.statement messages.verdict_on.Reads.Asked
  -- readings
  microvolts_of : Promised readings.microvolts_of.Statement.statement readings.microvolts_of.Reads.Asked
  reading-of : Promised readings.reading_of.Statement.statement readings.reading_of.Reads.Asked
  summary-of : Promised readings.summary_of.Statement.statement readings.summary_of.Reads.Asked

-- ---- the demand

pub record Demand1 : Type 2 where
  -- every call comes to an end, and to what its contract says; that is one outcome, told by the definitions that the demands speak of
  promises : Promises
  one_outcome : OneOutcome
  -- "A number is given exactly when its condition is the first to hold", and 0 where none holds
  exactly : (rows : List Row) (r : Refusal) → (first_number rows ≡ number_of r) ↔ First rows r
  zero : (rows : List Row) → (first_number rows ≡ 0) ↔ Passed rows
  -- a frame: `chain::handle`, and `clocked::handle`, which promises the same. 6 is only for reads
  frame : (table frame : List ℕ) (room : ℕ) → (numbers_of (answer table frame room)).number ≡ first_number (frame_refusals table frame room)
  frame-order : (table frame : List ℕ) (room : ℕ) → order (frame_refusals table frame room) ≡ 1 ∷ 2 ∷ 3 ∷ 4 ∷ 5 ∷ 6 ∷ []
  no_6_for_a_write : (room : ℕ) (c : Write) (n : ℕ) → (room_row room (Writes c) n).holds ≡ false
  no_6_for_a_bare : (room : ℕ) (c : Bare) (n : ℕ) → (room_row room (Bares c) n).holds ≡ false
  frame_stays : (table frame buffer : List ℕ) (r : Refusal) → answer table frame (length buffer) ≡ Err r
      → (table_after table frame (length buffer) ≡ table) × (reply_after table frame buffer ≡ buffer)
  -- a store, a compare and a load: `loads::store`, `loads::compare` and `loads::load`
  store : (table : List ℕ) (position : ℕ) (codes : List ℤ) → load_number (stored table position codes) ≡ first_number (store_refusals table position codes)
  store-order : (table : List ℕ) (position : ℕ) (codes : List ℤ) → order (store_refusals table position codes) ≡ 1 ∷ 7 ∷ 8 ∷ 9 ∷ []
  store_stays : (table : List ℕ) (position : ℕ) (codes : List ℤ) (r : Refusal) → stored table position codes ≡ Err r
      → table_after_store table position codes ≡ table
  compare : (table : List ℕ) (position : ℕ) → load_number (compared table position) ≡ first_number (compare_refusals table position)
  compare-order : (table : List ℕ) (position : ℕ) → order (compare_refusals table position) ≡ 1 ∷ 7 ∷ []
  compare_stays : (table : List ℕ) (position : ℕ) (r : Refusal) → compared table position ≡ Err r → table_after_compare table position ≡ table
  load : (table : List ℕ) (position : ℕ) (codes : List ℤ) → load_number (loaded table position codes) ≡ first_number (load_refusals table position codes)
  load-order : (table : List ℕ) (position : ℕ) (codes : List ℤ) → order (load_refusals table position codes) ≡ 1 ∷ 7 ∷ 8 ∷ 9 ∷ []
  load_stays : (table : List ℕ) (position : ℕ) (codes : List ℤ) (r : Refusal) → loaded table position codes ≡ Err r
      → table_after_load table position codes ≡ table
  -- the discharge outputs: `discharge::discharge`. The table is only read
  discharge : (table : List ℕ) (position : ℕ) (events : Events) (phase room : ℕ)
      → (discharged_numbers (discharged table position events phase room)).number ≡ first_number (discharge_refusals table position phase room)
  discharge_order : (table : List ℕ) (position phase room : ℕ) → order (discharge_refusals table position phase room) ≡ 1 ∷ 7 ∷ 7 ∷ 6 ∷ []
  discharge_stays : (table : List ℕ) (position : ℕ) (events : Events) (phase : ℕ) (out : List ℕ) (r : Refusal)
      → discharged table position events phase (length out) ≡ Err r → outputs_after table position events phase out ≡ out
  -- a heartbeat in a table: `passing::wake`, `passing::relay`, `passing::heartbeat` and `passing::time_out`. 6 also where nothing would be sent
  wake : (table : List ℕ) (position room : ℕ) → (sent_numbers (woken_at table position room)).number ≡ first_number (wake_refusals table position room)
  wake_order : (table : List ℕ) (position room : ℕ) → order (wake_refusals table position room) ≡ 1 ∷ 7 ∷ 6 ∷ []
  wake_stays : (table : List ℕ) (position : ℕ) (out : List ℕ) (r : Refusal) → woken_at table position (length out) ≡ Err r
      → (table_after_wake table position (length out) ≡ table) × (out_after_wake table position out ≡ out)
  relay : (table : List ℕ) (position : ℕ) (message : List ℕ) (room : ℕ)
      → (relayed_numbers (relayed_at table position message room)).number ≡ first_number (relay_refusals table position (length message) room)
  relay_order : (table : List ℕ) (position bytes room : ℕ) → order (relay_refusals table position bytes room) ≡ 1 ∷ 7 ∷ 5 ∷ 6 ∷ []
  relay_stays : (table : List ℕ) (position : ℕ) (out : List ℕ) (r : Refusal) (message : List ℕ) → relayed_at table position message (length out) ≡ Err r
      → (table_after_relay table position message (length out) ≡ table) × (out_after_relay table position message out ≡ out)
  heartbeat : (table : List ℕ) (position room : ℕ) → (sent_numbers (beaten table position room)).number ≡ first_number (wake_refusals table position room)
  heartbeat_stays : (table : List ℕ) (position : ℕ) (out : List ℕ) (r : Refusal) → beaten table position (length out) ≡ Err r
      → (table_after_beat table position (length out) ≡ table) × (out_after_beat table position out ≡ out)
  time_out : (table : List ℕ) (position : ℕ) → (timed_numbers (timed_out table position)).number ≡ first_number (time_out_refusals table position)
  time_out_order : (table : List ℕ) (position : ℕ) → order (time_out_refusals table position) ≡ 1 ∷ 7 ∷ []
  time_out_stays : (table : List ℕ) (position : ℕ) (r : Refusal) → timed_out table position ≡ Err r → table_after_time_out table position ≡ table
  -- a host's frame: `host::build`
  build : (code n : ℕ) (values : List ℕ) (room : ℕ) → (built_numbers (built code n values room)).number ≡ first_number (build_refusals code n values room)
  build_order : (code n : ℕ) (values : List ℕ) (room : ℕ) → order (build_refusals code n values room) ≡ 4 ∷ 7 ∷ 8 ∷ 6 ∷ []
  build_stays : (code n : ℕ) (values buffer : List ℕ) (r : Refusal) → built code n values (length buffer) ≡ Err r
      → buffer_after code n values buffer ≡ buffer
  -- the check of one payload: `ports::check`. Nothing is lent to be changed
  check : (payload : List ℕ) (expected : ℕ) → (checked_numbers (checked payload expected)).number ≡ first_number (check_refusals payload expected)
  check_order : (payload : List ℕ) (expected : ℕ) → order (check_refusals payload expected) ≡ 7 ∷ 5 ∷ []
  -- two ports: `ports::port_of`, and `ports::part_of` beside it, which then hands back an empty part
  ports : (a b : List ℕ) (n k expected : ℕ) → (port_numbers (port_of a b n k expected)).number ≡ first_number (port_refusals a b n k expected)
  ports_order : (a b : List ℕ) (n k expected : ℕ) → order (port_refusals a b n k expected) ≡ 7 ∷ 7 ∷ 5 ∷ 10 ∷ []
  no_part : (a b : List ℕ) (n k expected : ℕ) (r : Refusal) → port_of a b n k expected ≡ Err r → bytes_of a b n k expected ≡ []
  -- the verdict on a heartbeat: `messages::verdict_on`. Nothing is lent to be changed
  verdict : (bytes : List ℕ) (late : Bool) → (verdict_numbers (verdict bytes late)).number ≡ first_number (verdict_refusals bytes late)
  verdict-order : (bytes : List ℕ) (late : Bool) → order (verdict_refusals bytes late) ≡ 5 ∷ []
  -- a release: `clocked::release`, of any state. The table stays; the state goes back to its start, refused or not
  release : (c : Clock) (table : List ℕ) → (numbers_of (released c table)).number ≡ first_number (release_refusals c table)
  release_order : (c : Clock) (table : List ℕ) → order (release_refusals c table) ≡ 1 ∷ 2 ∷ 3 ∷ 4 ∷ 5 ∷ []
  release_stays : (c : Clock) (table : List ℕ) (r : Refusal) → released c table ≡ Err r → table_released c table ≡ table
  release_starts : clock_of idle ≡ start
  -- a look at a window: `clocked::look`
  look : (c : Clock) (position room : ℕ) → (looked_numbers (looked c position room)).number ≡ first_number (look_refusals c position room)
  look_order : (c : Clock) (position room : ℕ) → order (look_refusals c position room) ≡ 7 ∷ 6 ∷ []
  look_stays : (c : Clock) (position : ℕ) (out : List ℕ) (r : Refusal) → looked c position (length out) ≡ Err r → out_after c position out ≡ out
  -- a summary: `readings::summary_of`. Nothing is lent to be changed
  summary : (codes : List ℤ) → (pack_numbers (summary_of codes)).number ≡ first_number (summary_refusals codes)
  summary_order : (codes : List ℤ) → order (summary_refusals codes) ≡ 8 ∷ []

-- ---- the answer

proved : Promises
proved =
    record {
      put = (λ M. laying.put.Met.met, λ κ a. tt);
      number-of = (λ M. refusals.number_of.Met.met, λ κ a. tt);
      pack = (λ M. packing.pack.Met.met, λ κ a. tt);
      pack_refused = (λ M. packing.refused.Met.met, λ κ a. tt);
      pack_accepted = (λ M. packing.accepted.Met.met, λ κ a. tt);
      nothing_left = (λ M. pec.nothing_left.Met.met, λ κ a. tt);
      of_command = (λ M. pec.of_command.Met.met, λ κ a. tt);
      remainder_10 = (λ M. pec.remainder_10.Met.met, λ κ a. tt);
      two-bytes = (λ M. check_words.two_bytes.Met.met, λ κ a. tt);
      command-check = (λ M. check_words.command_check.Met.met, λ κ a. tt);
      command-right = (λ M. check_words.command_right.Met.met, λ κ a. tt);
      data-pec = (λ M. remainders.data_pec.Met.met, λ κ a. tt);
      number-in = (λ M. check_words.number_in.Met.met, λ κ a. tt);
      number-right = (λ M. check_words.number_right.Met.met, λ κ a. tt);
      payload-right = (λ M. check_words.payload_right.Met.met, λ κ a. tt);
      counter_in = (λ M. check_words.counter_in.Met.met, λ κ a. tt);
      sealed-two = (λ M. check_words.sealed_two.Met.met, λ κ a. tt);
      four_in = (λ M. check_words.four_in.Met.met, λ κ a. tt);
      four-right = (λ M. check_words.four_right.Met.met, λ κ a. tt);
      pec10_bitwise = (λ M. remainders.pec10_bitwise.Met.met, λ κ a. tt);
      pec10-by_table = (λ M. remainders.pec10_by_table.Met.met, λ κ a. tt);
      pec15_bitwise = (λ M. remainders.pec15_bitwise.Met.met, λ κ a. tt);
      pec15-by_table = (λ M. remainders.pec15_by_table.Met.met, λ κ a. tt);
      seal = (λ M. remainders.seal.Met.met, λ κ a. tt);
      sealed = (λ M. check_words.sealed.Met.met, λ κ a. tt);
      command-of = (λ M. records.command_of.Met.met, λ κ a. tt);
      command-from = (λ M. records.commands.CommandFromU16.from.Met.met, λ κ a. tt);
      frame-length = (λ M. records.frame_length.Met.met, λ κ a. tt);
      reply-size = (λ M. records.reply_size.Met.met, λ κ a. tt);
      is-listed = (λ M. records.is_listed.Met.met, λ κ a. tt);
      record-sound = (λ M. records.record_sound.Met.met, λ κ a. tt);
      byte_at = (λ M. records.byte_at.Met.met, λ κ a. tt);
      byte-in = (λ M. records.byte_in.Met.met, λ κ a. tt);
      is_snapped = (λ M. records.is_snapped.Met.met, λ κ a. tt);
      in-lpcm = (λ M. records.in_lpcm.Met.met, λ κ a. tt);
      data-size = (λ M. records.data_size.Met.met, λ κ a. tt);
      width-of = (λ M. records.width_of.Met.met, λ κ a. tt);
      reply-of = (λ M. reads.reply_of.Met.met, λ κ a. tt);
      needs_check = (λ M. writes.needs_check.Met.met, λ κ a. tt);
      rules-of = (λ M. writes.rules_of.Met.met, λ κ a. tt);
      stores-whole = (λ M. writes.stores_whole.Met.met, λ κ a. tt);
      write = (λ M. writing.write.Met.met, λ κ a. tt);
      carry_out = (λ M. monitor.carry_out.Met.met, λ κ a. tt);
      act = (λ M. acting.act.Met.met, λ κ a. tt);
      remember = (λ M. monitor.remember.Met.met, λ κ a. tt);
      measure = (λ M. measuring.measure.Met.met, λ κ a. tt);
      wake = (λ M. heartbeats.wake.Met.met, λ κ a. tt);
      reach = (λ M. heartbeats.reach.Met.met, λ κ a. tt);
      run_out = (λ M. heartbeats.run_out.Met.met, λ κ a. tt);
      is_towards_a = (λ M. heartbeats.is_towards_a.Met.met, λ κ a. tt);
      sound = (λ M. judging.sound.Met.met, λ κ a. tt);
      sound-count = (λ M. judging.sound_count.Met.met, λ κ a. tt);
      whole-table = (λ M. judging.whole_table.Met.met, λ κ a. tt);
      record_at = (λ M. judging.record_at.Met.met, λ κ a. tt);
      command-in = (λ M. judging.command_in.Met.met, λ κ a. tt);
      numbers-of = (λ M. chain.numbers_of.Met.met, λ κ a. tt);
      serve = (λ M. serving.serve.Met.met, λ κ a. tt);
      serve_at = (λ M. serving.serve_at.Met.met, λ κ a. tt);
      replies_of = (λ M. replying.replies_of.Met.met, λ κ a. tt);
      reply-all = (λ M. replying.reply_all.Met.met, λ κ a. tt);
      judge_head = (λ M. judging.judge_head.Met.met, λ κ a. tt);
      handle = (λ M. chain.handle.Met.met, λ κ a. tt);
      place-of = (λ M. judging.place_of.Met.met, λ κ a. tt);
      codes-of = (λ M. thresholds.codes_of.Met.met, λ κ a. tt);
      codes-from_step = (λ M. thresholds.thresholds.ResultCodeFromThresholdStep.from.Met.met, λ κ a. tt);
      code-from_bits = (λ M. thresholds.thresholds.ResultCodeFromI16.from.Met.met, λ κ a. tt);
      lower_threshold = (λ M. thresholds.lower_threshold.Met.met, λ κ a. tt);
      upper_threshold = (λ M. thresholds.upper_threshold.Met.met, λ κ a. tt);
      over_threshold = (λ M. thresholds.over_threshold.Met.met, λ κ a. tt);
      under_threshold = (λ M. thresholds.under_threshold.Met.met, λ κ a. tt);
      load-number = (λ M. loads.load_number.Met.met, λ κ a. tt);
      code-in = (λ M. cells.code_in.Met.met, λ κ a. tt);
      store_one = (λ M. cells.store.Met.met, λ κ a. tt);
      compare_one = (λ M. cells.compare.Met.met, λ κ a. tt);
      store = (λ M. loads.store.Met.met, λ κ a. tt);
      compare = (λ M. loads.compare.Met.met, λ κ a. tt);
      load = (λ M. loads.load.Met.met, λ κ a. tt);
      table_wake = (λ M. passing.wake.Met.met, λ κ a. tt);
      table_relay = (λ M. passing.relay.Met.met, λ κ a. tt);
      table_heartbeat = (λ M. passing.heartbeat.Met.met, λ κ a. tt);
      table_time_out = (λ M. passing.time_out.Met.met, λ κ a. tt);
      put_outputs = (λ M. priorities.put_outputs.Met.met, λ κ a. tt);
      discharge_outputs = (λ M. discharge.discharge.Met.met, λ κ a. tt);
      start = (λ M. clock_state.start.Met.met, λ κ a. tt);
      seen-in = (λ M. clock_state.seen_in.Met.met, λ κ a. tt);
      kind-byte = (λ M. clock_state.byte_of.Met.met, λ κ a. tt);
      kind-in = (λ M. clock_state.kind_in.Met.met, λ κ a. tt);
      chained-in = (λ M. clock_state.chained_in.Met.met, λ κ a. tt);
      clock = (λ M. clocking.clock.Met.met, λ κ a. tt);
      judge_release = (λ M. releasing.judge.Met.met, λ κ a. tt);
      release = (λ M. releasing.release.Met.met, λ κ a. tt);
      look = (λ M. releasing.look.Met.met, λ κ a. tt);
      handle_clocked = (λ M. clocked.handle.Met.met, λ κ a. tt);
      check = (λ M. ports.check.Met.met, λ κ a. tt);
      port-of = (λ M. ports.port_of.Met.met, λ κ a. tt);
      part-of = (λ M. ports.part_of.Met.met, λ κ a. tt);
      build = (λ M. host.build.Met.met, λ κ a. tt);
      message = (λ M. messages.message.Met.met, λ κ a. tt);
      message-right = (λ M. messages.message_right.Met.met, λ κ a. tt);
      verdict-on = (λ M. messages.verdict_on.Met.met, λ κ a. tt);
      microvolts_of = (λ M. readings.microvolts_of.Met.met, λ κ a. tt);
      reading-of = (λ M. readings.reading_of.Met.met, λ κ a. tt);
      summary-of = (λ M. readings.summary_of.Met.met, λ κ a. tt);
    }

pub demand_1 : Demand1
unfolding frame_refusals store_refusals compare_refusals load_refusals discharge_refusals wake_refusals relay_refusals time_out_refusals build_refusals check_refusals counter_row port_refusals verdict_refusals release_refusals look_refusals
demand_1 =
    record {
      promises = proved;
      one_outcome = one_outcomes;
      exactly = number_exactly;
      zero = zero_exactly;
      frame = frame-number;
      frame-order = λ table frame room. refl;
      no_6_for_a_write = λ room c n. le-ltb room 0 (omega arith);
      no_6_for_a_bare = λ room c n. le-ltb room 0 (omega arith);
      frame_stays = λ table frame buffer r e. (refused-table table frame (length buffer) r e, refused-reply table frame buffer r e);
      store = store-number;
      store-order = λ table position codes. refl;
      store_stays = λ table position codes r. refused-store table position codes r;
      compare = compare-number;
      compare-order = λ table position. refl;
      compare_stays = refused-compare;
      load = load-number;
      load-order = λ table position codes. refl;
      load_stays = refused-load;
      discharge = discharge_number;
      discharge_order = λ table position phase room. refl;
      discharge_stays = refused_discharge;
      wake = wake_number;
      wake_order = λ table position room. refl;
      wake_stays = refused_wake;
      relay = relay_number;
      relay_order = λ table position bytes room. refl;
      relay_stays = refused_relay;
      heartbeat = beat_number;
      heartbeat_stays = refused_beat;
      time_out = time_number;
      time_out_order = λ table position. refl;
      time_out_stays = refused_time;
      build = built-number;
      build_order = λ code n values room. refl;
      build_stays = refused_build;
      check = checked-number;
      check_order = λ payload expected. refl;
      ports = port_number;
      ports_order = λ a b n k expected. refl;
      no_part = refused-part;
      verdict = verdict-number;
      verdict-order = λ bytes late. refl;
      release = release_number;
      release_order = λ c table. refl;
      release_stays = refused_release;
      release_starts = view_idle;
      look = look_number;
      look_order = λ c position room. refl;
      look_stays = refused_look;
      summary = summary_number;
      summary_order = λ codes. refl;
    }
