-- What every public function promises, by the definitions, and that it leaves nothing to choose. A promise is a function's own
-- `ensures`, as Rattle reads it: `Reads.Post κ a z e` is what they ask of what comes back, z, and of the parameters at exit, e, for the
-- arguments a. Each line says that it gives exactly what stands there, so that what the demands say of the definitions they say of
-- the functions; and that two outcomes that meet it are then equal (document 01, "Nothing left to choose"), by one law for all.
-- Assumes nothing.
use mathlib.Core.Path.{◌≡◌, sym, ◌∙◌}
use mathlib.Core.Bool.{cond, ◌&&◌}
use mathlib.Core.List.{List, [], ◌∷◌, ◌++◌}
use Prim.Native.Nat.{ℕ}
use lib.Dec.{eqb, leb}
use lib.ListN.{length, drop, get_or}
use Rattle.laws.specs.Rows.{rows, joined, along}
use Rattle.laying.specs.Placed.{placed, fits}
use Rattle.laying.proofs as laying
use Rattle.refusals.specs.Numbers.{number_of}
use Rattle.refusals.proofs as refusals
use Rattle.packing.specs.Packed.{packed, refused, accepted}
use Rattle.packing.proofs as packing
use Rattle.laws.specs.Bits.{bits_of}
use Rattle.pec.specs.Remainder.{remainder}
use Rattle.pec.specs.Words.{two_bytes, polynomial15, polynomial10, pec15, pec10, command_check, command_right, data_pec, seal, counter_of, sealed_right, payload_right, number_in, number_right}
use Rattle.pec.proofs as pec
use Rattle.check_words.proofs as check_words
use Rattle.remainders.proofs as remainders
use Rattle.wire.specs.Order.{write_payloads}
use Rattle.records.specs.Commands.{commands, command_of, is_listed, frame_length, most_monitors, reply_length, data_size, width_of}
use Rattle.records.specs.Record.{cell_count, last_cells, byte_in, snapped, in_lpcm, is_record, record_sound, record_size}
use Rattle.reads.specs.Reply.{reply}
use Rattle.writes.specs.Writes.{rules_of, stores_whole, written}
use Rattle.thresholds.specs.Thresholds.{lower, upper, vuv, vov, codes_of}
use Rattle.monitor.specs.Effects.{cells_to, done, takes, keeps}
use Rattle.cells.specs.Cells.{code_in, store, compare}
use Rattle.records.proofs as records
use Rattle.writes.proofs as writes
use Rattle.writing.proofs as writing
use Rattle.reads.proofs as reads
use Rattle.monitor.proofs as monitor
use Rattle.acting.proofs as acting
use Rattle.judging.specs.Table.{monitors, whole_table, sound}
use Rattle.judging.specs.Table.{ends, place_at}
use Rattle.judging.proofs.Lies.{place_told}
use Rattle.judging.specs.Refusals.{command_in}
use Rattle.replying.specs.Replied.{replied, replies_fit, replies_into}
use Rattle.chain.specs.Frame.{answer, table_after, reply_after}
use Rattle.serving.specs.Served.{has_record, served_at, takes_at, takers}
use Rattle.judging.specs.Heads.{head_judged}
use Rattle.loads.specs.Load.{stored, table_after_store, compared, table_after_compare, loaded, table_after_load}
use Rattle.chain.specs.Numbers.{numbers_of}
use Rattle.loads.specs.Numbers.{load_number}
use Rattle.thresholds.proofs as thresholds
use Rattle.cells.proofs as cells
use Rattle.measuring.specs.Measuring.{measured, passes}
use Rattle.measuring.proofs as measuring
use Rattle.heartbeats.specs.Steps.{is_timeout, towards_a, woken, wakes, reached, answers, late}
use Rattle.heartbeats.proofs as heartbeats
use Rattle.passing.specs.Operations.{woken_at, table_after_wake, out_after_wake, relayed_at, table_after_relay, out_after_relay, beaten, table_after_beat, out_after_beat, timed_out, table_after_time_out}
use Rattle.passing.proofs as passing
use Rattle.loads.proofs as loads
use Rattle.judging.specs.Places.{placed as place_of}
use Rattle.priorities.specs.Outputs.{outputs, count_on}
use Rattle.priorities.proofs as priorities
use Rattle.discharge.specs.Question.{discharged, outputs_after}
use Rattle.discharge.proofs as discharge
use Rattle.judging.proofs as judging
use Rattle.serving.proofs as serving
use Rattle.replying.proofs as replying
use Rattle.chain.proofs as chain
use Rattle.clocking.specs.Clock.{answered}
use Rattle.releasing.specs.Release.{released, table_released}
use Rattle.releasing.specs.Judged.{judged}
use Rattle.releasing.specs.Look.{looked, out_after}
use Rattle.clock_state.specs.State.{idle, seen_in, kind_byte, kind_in, chained_in}
use Rattle.clocking.specs.Bytes.{clock_of, state_after}
use Rattle.clock_state.proofs as clock_state
use Rattle.clocking.proofs as clocking
use Rattle.releasing.proofs as releasing
use Rattle.clocked.proofs as clocked
use Rattle.host.specs.Frames.{built, buffer_after}
use Rattle.ports.specs.Check.{checked}
use Rattle.ports.specs.Ports.{port_of}
use Rattle.ports.specs.Parts.{lying, part_of}
use Rattle.ports.proofs as ports
use Rattle.host.proofs as host
use Rattle.messages.specs.Messages.{message, message_right}
use Rattle.messages.specs.Verdicts.{verdict}
use Rattle.messages.proofs as messages
use Rattle.readings.specs.Readings.{microvolts, reading_of, summary_of}
use Rattle.readings.proofs as readings
use Rattle.std.specs.Prelude.{None}

-- ---- what is shown of each

-- what a call leaves: what comes back, and the bytes of each buffer that it was lent to change
pub record Outcome (A : Type 0) : Type 0 where
  pub back : A
  pub lent : List (List ℕ)

abbrev pub leaves : {A : Type 0} → A → List (List ℕ) → Outcome A
leaves z bytes = record { back = z; lent = bytes }

module _ {L : Type 0} {A Z E : L → Type 0} {T : Type 0} (promise : (κ : L) → A κ → Z κ → E κ → Type 0) (left : (κ : L) → Z κ → E κ → Outcome T) where
  -- for any arguments, a call that meets the promise leaves what is said
  abbrev pub Says : ((κ : L) → A κ → Outcome T) → Type 0
  Says said = (κ : L) (a : A κ) (z : Z κ) (e : E κ) → promise κ a z e → left κ z e ≡ said κ a

  -- for any arguments, two calls that meet it leave the same
  abbrev pub One : Type 0
  One = (κ : L) (a : A κ) (z z' : Z κ) (e e' : E κ) → promise κ a z e → promise κ a z' e' → left κ z e ≡ left κ z' e'

  abbrev pub Settles : ((κ : L) → A κ → Outcome T) → Type 0
  Settles said = Says said × One

pub one_outcome : {A : Type 0} {one other said : A} → one ≡ said → other ≡ said → one ≡ other
one_outcome p q = p ∙ sym q

-- the first gives the second
pub settles : {L : Type 0} {A Z E : L → Type 0} {T : Type 0} {promise : (κ : L) → A κ → Z κ → E κ → Type 0} {left : (κ : L) → Z κ → E κ → Outcome T} {said : (κ : L) → A κ → Outcome T}
    → Says promise left said → Settles promise left said
settles says = (says, λ κ a z z' e e' p q. one_outcome (says κ a z e p) (says κ a z' e' q))

-- ---- every public function of every library

pub record OneOutcome : Type 0 where
  -- laying
  put : Settles laying.put.Reads.Post (λ κ z e. leaves z (e.0.now ∷ []))
      (λ κ a. leaves tt (cond (fits a.1.0 a.1.1.0.now a.0.now) (placed a.1.0 a.1.1.0.now a.0.now) a.0.now ∷ []))
  -- refusals
  number-of : Settles refusals.number_of.Reads.Post (λ κ z e. leaves z []) (λ κ a. leaves (number_of a.0) [])
  -- an answer for C
  pack : Settles packing.pack.Reads.Post (λ κ z e. leaves z []) (λ κ a. leaves (packed (record { number = a.0; first = a.1.0; second = a.1.1.0 })) [])
  pack_refused : Settles packing.refused.Reads.Post (λ κ z e. leaves z []) (λ κ a. leaves (packed (refused a.0)) [])
  pack_accepted : Settles packing.accepted.Reads.Post (λ κ z e. leaves z []) (λ κ a. leaves (packed (accepted a.0 a.1.0)) [])
  -- the remainders
  nothing_left : Settles pec.nothing_left.Reads.Post (λ κ z e. leaves z []) (λ κ a. leaves (number_right a.0) [])
  of_command : Settles pec.of_command.Reads.Post (λ κ z e. leaves z []) (λ κ a. leaves (remainder 15 polynomial15 16 (bits_of 16 a.0)) [])
  remainder_10 : Settles pec.remainder_10.Reads.Post (λ κ z e. leaves z []) (λ κ a. leaves (remainder 10 polynomial10 0 (bits_of 64 a.0)) [])
  two-bytes : Settles check_words.two_bytes.Reads.Post (λ κ z e. leaves z []) (λ κ a. leaves (two_bytes a.0) [])
  -- the check words
  command-check : Settles check_words.command_check.Reads.Post (λ κ z e. leaves z []) (λ κ a. leaves (command_check a.0) [])
  command-right : Settles check_words.command_right.Reads.Post (λ κ z e. leaves z []) (λ κ a. leaves (command_right a.0.now) [])
  data-pec : Settles remainders.data_pec.Reads.Post (λ κ z e. leaves z []) (λ κ a. leaves (data_pec a.0.now a.1.0) [])
  number-in : Settles check_words.number_in.Reads.Post (λ κ z e. leaves z []) (λ κ a. leaves (number_in a.0.now) [])
  number-right : Settles check_words.number_right.Reads.Post (λ κ z e. leaves z []) (λ κ a. leaves (number_right a.0) [])
  four_in : Settles check_words.four_in.Reads.Post (λ κ z e. leaves z []) (λ κ a. leaves (number_in (0x00 ∷ 0x00 ∷ 0x01 ∷ 0x1A ∷ a.0.now)) [])
  four-right : Settles check_words.four_right.Reads.Post (λ κ z e. leaves z []) (λ κ a. leaves (sealed_right 2 a.0.now) [])
  payload-right : Settles check_words.payload_right.Reads.Post (λ κ z e. leaves z []) (λ κ a. leaves (payload_right a.0.now) [])
  counter_in : Settles check_words.counter_in.Reads.Post (λ κ z e. leaves z []) (λ κ a. leaves (counter_of a.0.now) [])
  pec10_bitwise : Settles remainders.pec10_bitwise.Reads.Post (λ κ z e. leaves z []) (λ κ a. leaves (pec10 a.0.now) [])
  pec10-by_table : Settles remainders.pec10_by_table.Reads.Post (λ κ z e. leaves z []) (λ κ a. leaves (pec10 a.0.now) [])
  pec15_bitwise : Settles remainders.pec15_bitwise.Reads.Post (λ κ z e. leaves z []) (λ κ a. leaves (pec15 a.0.now) [])
  pec15-by_table : Settles remainders.pec15_by_table.Reads.Post (λ κ z e. leaves z []) (λ κ a. leaves (pec15 a.0.now) [])
  sealed-two : Settles check_words.sealed_two.Reads.Post (λ κ z e. leaves z []) (λ κ a. leaves (a.0.now ++ seal a.0.now a.1.0) [])
  sealed : Settles check_words.sealed.Reads.Post (λ κ z e. leaves z []) (λ κ a. leaves (a.0.now ++ seal a.0.now a.1.0) [])
  seal : Settles remainders.seal.Reads.Post (λ κ z e. leaves z []) (λ κ a. leaves (seal a.0.now a.1.0) [])
  -- one monitor
  command-of : Settles records.command_of.Reads.Post (λ κ z e. leaves z []) (λ κ a. leaves (command_of a.0 commands) [])
  command-from : Settles records.commands.CommandFromU16.from.Reads.Post (λ κ z e. leaves z []) (λ κ a. leaves (command_of a.0 commands) [])
  frame-length : Settles records.frame_length.Reads.Post (λ κ z e. leaves z [])
      (λ κ a. leaves (cond (leb a.1.0 most_monitors) (frame_length a.0 a.1.0) 0) [])
  reply-size : Settles records.reply_size.Reads.Post (λ κ z e. leaves z [])
      (λ κ a. leaves (cond (leb a.1.0 most_monitors) (reply_length a.0 a.1.0) 0) [])
  is-listed : Settles records.is_listed.Reads.Post (λ κ z e. leaves z []) (λ κ a. leaves (is_listed a.0) [])
  record-sound : Settles records.record_sound.Reads.Post (λ κ z e. leaves z []) (λ κ a. leaves (is_record a.0.now && record_sound a.0.now) [])
  byte_at : Settles records.byte_at.Reads.Post (λ κ z e. leaves z []) (λ κ a. leaves (get_or a.0.now a.1.0 0) [])
  byte-in : Settles records.byte_in.Reads.Post (λ κ z e. leaves z []) (λ κ a. leaves (byte_in a.1.0 a.0.now a.1.1.0) [])
  is_snapped : Settles records.is_snapped.Reads.Post (λ κ z e. leaves z []) (λ κ a. leaves (snapped a.0.now) [])
  in-lpcm : Settles records.in_lpcm.Reads.Post (λ κ z e. leaves z []) (λ κ a. leaves (in_lpcm a.0.now) [])
  data-size : Settles records.data_size.Reads.Post (λ κ z e. leaves z []) (λ κ a. leaves (data_size a.0) [])
  width-of : Settles records.width_of.Reads.Post (λ κ z e. leaves z []) (λ κ a. leaves (width_of a.0) [])
  reply-of : Settles reads.reply_of.Reads.Post (λ κ z e. leaves z []) (λ κ a. leaves (reply a.0 a.1.0.now) [])
  needs_check : Settles writes.needs_check.Reads.Post (λ κ z e. leaves z []) (λ κ a. leaves (rules_of a.0).needs_check [])
  rules-of : Settles writes.rules_of.Reads.Post (λ κ z e. leaves z []) (λ κ a. leaves (rules_of a.0) [])
  stores-whole : Settles writes.stores_whole.Reads.Post (λ κ z e. leaves z []) (λ κ a. leaves (stores_whole a.0) [])
  write : Settles writing.write.Reads.Post (λ κ z e. leaves z (e.1.1.0.now ∷ []))
      (λ κ a. leaves tt (cond (is_record a.1.1.0.now && leb (data_size a.0) (length a.1.1.1.0.now)) (written a.0 a.1.0 a.1.1.1.0.now a.1.1.0.now) a.1.1.0.now ∷ []))
  carry_out : Settles monitor.carry_out.Reads.Post (λ κ z e. leaves z (e.1.0.now ∷ []))
      (λ κ a. leaves tt (cond (is_record a.1.0.now) (done a.0 a.1.0.now) a.1.0.now ∷ []))
  act : Settles acting.act.Reads.Post (λ κ z e. leaves z (e.1.0.now ∷ []))
      (λ κ a. leaves (is_record a.1.0.now && takes a.0 a.1.1.0.now a.1.0.now) (cond (is_record a.1.0.now) (keeps a.0 a.1.1.0.now a.1.0.now) a.1.0.now ∷ []))
  remember : Settles monitor.remember.Reads.Post (λ κ z e. leaves z (e.0.now ∷ [])) (λ κ a. leaves tt (cond (is_record a.0.now) (cells_to last_cells a.0.now) a.0.now ∷ []))
  measure : Settles measuring.measure.Reads.Post (λ κ z e. leaves z (e.0.now ∷ []))
      (λ κ a. leaves (is_record a.0.now && passes a.0.now) (cond (is_record a.0.now) (measured a.0.now) a.0.now ∷ []))
  wake : Settles heartbeats.wake.Reads.Post (λ κ z e. leaves z (e.0.now ∷ []))
      (λ κ a. leaves (cond (is_record a.0.now) (wakes a.0.now) None) (cond (is_record a.0.now) (woken a.0.now) a.0.now ∷ []))
  reach : Settles heartbeats.reach.Reads.Post (λ κ z e. leaves z (e.0.now ∷ []))
      (λ κ a. leaves (cond (is_record a.0.now) (answers a.1.0.now a.0.now) None) (cond (is_record a.0.now) (reached a.1.0.now a.0.now) a.0.now ∷ []))
  run_out : Settles heartbeats.run_out.Reads.Post (λ κ z e. leaves z (e.0.now ∷ []))
      (λ κ a. leaves (is_record a.0.now && is_timeout a.0.now) (cond (is_record a.0.now) (late a.0.now) a.0.now ∷ []))
  is_towards_a : Settles heartbeats.is_towards_a.Reads.Post (λ κ z e. leaves z []) (λ κ a. leaves (towards_a a.0.now) [])
  -- the chain
  sound-table : Settles judging.sound.Reads.Post (λ κ z e. leaves z []) (λ κ a. leaves (sound a.0.now) [])
  sound-count : Settles judging.sound_count.Reads.Post (λ κ z e. leaves z []) (λ κ a. leaves (cond (sound a.0.now) (monitors a.0.now) 0) [])
  whole-table : Settles judging.whole_table.Reads.Post (λ κ z e. leaves z []) (λ κ a. leaves (whole_table a.1.0 a.0.now) [])
  record_at : Settles judging.record_at.Reads.Post (λ κ z e. leaves (ends z) []) (λ κ a. leaves (place_at a.1.0 a.0.now) [])
  command-in : Settles judging.command_in.Reads.Post (λ κ z e. leaves z []) (λ κ a. leaves (command_in a.0.now) [])
  judge_head : Settles judging.judge_head.Reads.Post (λ κ z e. leaves z []) (λ κ a. leaves (head_judged a.0.now a.1.0 a.1.1.0) [])
  numbers-of : Settles chain.numbers_of.Reads.Post (λ κ z e. leaves z []) (λ κ a. leaves (numbers_of a.0) [])
  serve : Settles serving.serve.Reads.Post (λ κ z e. leaves z (e.0.now ∷ []))
      (λ κ a. leaves (cond (whole_table a.1.1.0 a.0.now) (takers a.1.0 (rows record_size a.1.1.0 a.0.now) (write_payloads (width_of a.1.0) a.1.1.0 a.1.1.1.0.now)) 0) (cond (whole_table a.1.1.0 a.0.now) (joined (along (λ r own. keeps a.1.0 own r) (rows record_size a.1.1.0 a.0.now) (write_payloads (width_of a.1.0) a.1.1.0 a.1.1.1.0.now))) a.0.now ∷ []))
  serve_at : Settles serving.serve_at.Reads.Post (λ κ z e. leaves z (e.0.now ∷ []))
      (λ κ a. leaves (has_record a.1.1.0 a.0.now && takes_at a.1.1.0 a.1.0 a.1.1.1.0.now a.0.now) (cond (has_record a.1.1.0 a.0.now) (served_at a.1.1.0 a.1.0 a.1.1.1.0.now a.0.now) a.0.now ∷ []))
  replies_of : Settles replying.replies_of.Reads.Post (λ κ z e. leaves z (e.1.1.1.0.now ∷ []))
      (λ κ a. leaves (cond (replies_fit a.1.0 a.1.1.0 a.0.now (length a.1.1.1.0.now)) (reply_length a.1.0 a.1.1.0) 0) (cond (replies_fit a.1.0 a.1.1.0 a.0.now (length a.1.1.1.0.now)) (replied a.1.0 a.1.1.0 a.0.now a.1.1.1.0.now) a.1.1.1.0.now ∷ []))
  reply-all : Settles replying.reply_all.Reads.Post (λ κ z e. leaves z (e.1.1.0.now ∷ []))
      (λ κ a. leaves (cond (replies_into a.1.0 a.0.now (length a.1.1.0.now)) (reply_length a.1.0 (monitors a.0.now)) 0) (cond (replies_into a.1.0 a.0.now (length a.1.1.0.now)) (replied a.1.0 (monitors a.0.now) a.0.now a.1.1.0.now) a.1.1.0.now ∷ []))
  handle : Settles chain.handle.Reads.Post (λ κ z e. leaves z (e.0.now ∷ e.1.1.0.now ∷ []))
      (λ κ a. leaves (answer a.0.now a.1.0.now (length a.1.1.0.now)) (table_after a.0.now a.1.0.now (length a.1.1.0.now) ∷ reply_after a.0.now a.1.0.now a.1.1.0.now ∷ []))
  place-of : Settles judging.place_of.Reads.Post (λ κ z e. leaves z []) (λ κ a. leaves (place_of a.0.now a.1.0) [])
  -- store, compare and load
  codes-of : Settles thresholds.codes_of.Reads.Post (λ κ z e. leaves z []) (λ κ a. leaves (codes_of a.0) [])
  codes-from_step : Settles thresholds.thresholds.ResultCodeFromThresholdStep.from.Reads.Post (λ κ z e. leaves z []) (λ κ a. leaves (codes_of a.0) [])
  code-from_bits : Settles thresholds.thresholds.ResultCodeFromI16.from.Reads.Post (λ κ z e. leaves z.0 []) (λ κ a. leaves a.0 [])
  lower_threshold : Settles thresholds.lower_threshold.Reads.Post (λ κ z e. leaves z []) (λ κ a. leaves (lower a.1.0 a.0.now) [])
  upper_threshold : Settles thresholds.upper_threshold.Reads.Post (λ κ z e. leaves z []) (λ κ a. leaves (upper a.1.0 a.0.now) [])
  over_threshold : Settles thresholds.over_threshold.Reads.Post (λ κ z e. leaves z []) (λ κ a. leaves (vov a.0.now) [])
  under_threshold : Settles thresholds.under_threshold.Reads.Post (λ κ z e. leaves z []) (λ κ a. leaves (vuv a.0.now) [])
  load-number : Settles loads.load_number.Reads.Post (λ κ z e. leaves z []) (λ κ a. leaves (load_number a.0) [])
  code-in : Settles cells.code_in.Reads.Post (λ κ z e. leaves z []) (λ κ a. leaves (code_in a.1.0 a.0.now a.1.1.0) [])
  store_one : Settles cells.store.Reads.Post (λ κ z e. leaves z (e.0.now ∷ []))
      (λ κ a. leaves (is_record a.0.now && eqb (length a.1.0.now) cell_count) (cond (is_record a.0.now && eqb (length a.1.0.now) cell_count) (store a.1.0.now a.0.now) a.0.now ∷ []))
  compare_one : Settles cells.compare.Reads.Post (λ κ z e. leaves z (e.0.now ∷ []))
      (λ κ a. leaves (is_record a.0.now) (cond (is_record a.0.now) (compare a.0.now) a.0.now ∷ []))
  store : Settles loads.store.Reads.Post (λ κ z e. leaves z (e.0.now ∷ []))
      (λ κ a. leaves (stored a.0.now a.1.0 a.1.1.0.now) (table_after_store a.0.now a.1.0 a.1.1.0.now ∷ []))
  compare : Settles loads.compare.Reads.Post (λ κ z e. leaves z (e.0.now ∷ []))
      (λ κ a. leaves (compared a.0.now a.1.0) (table_after_compare a.0.now a.1.0 ∷ []))
  load : Settles loads.load.Reads.Post (λ κ z e. leaves z (e.0.now ∷ []))
      (λ κ a. leaves (loaded a.0.now a.1.0 a.1.1.0.now) (table_after_load a.0.now a.1.0 a.1.1.0.now ∷ []))
  -- a heartbeat in a table
  table_wake : Settles passing.wake.Reads.Post (λ κ z e. leaves z (e.0.now ∷ e.1.1.0.now ∷ []))
      (λ κ a. leaves (woken_at a.0.now a.1.0 (length a.1.1.0.now)) (table_after_wake a.0.now a.1.0 (length a.1.1.0.now) ∷ out_after_wake a.0.now a.1.0 a.1.1.0.now ∷ []))
  table_relay : Settles passing.relay.Reads.Post (λ κ z e. leaves z (e.0.now ∷ e.1.1.1.0.now ∷ []))
      (λ κ a. leaves (relayed_at a.0.now a.1.0 a.1.1.0.now (length a.1.1.1.0.now)) (table_after_relay a.0.now a.1.0 a.1.1.0.now (length a.1.1.1.0.now) ∷ out_after_relay a.0.now a.1.0 a.1.1.0.now a.1.1.1.0.now ∷ []))
  table_heartbeat : Settles passing.heartbeat.Reads.Post (λ κ z e. leaves z (e.0.now ∷ e.1.1.0.now ∷ []))
      (λ κ a. leaves (beaten a.0.now a.1.0 (length a.1.1.0.now)) (table_after_beat a.0.now a.1.0 (length a.1.1.0.now) ∷ out_after_beat a.0.now a.1.0 a.1.1.0.now ∷ []))
  table_time_out : Settles passing.time_out.Reads.Post (λ κ z e. leaves z (e.0.now ∷ []))
      (λ κ a. leaves (timed_out a.0.now a.1.0) (table_after_time_out a.0.now a.1.0 ∷ []))
  -- discharge
  put_outputs : Settles priorities.put_outputs.Reads.Post (λ κ z e. leaves z (e.1.1.1.0.now ∷ []))
      (λ κ a. leaves (cond (leb cell_count (length a.1.1.1.0.now)) (count_on a.1.0 a.1.1.0 a.0.now) 0) (cond (leb cell_count (length a.1.1.1.0.now)) (outputs a.1.0 a.1.1.0 a.0.now ++ drop cell_count a.1.1.1.0.now) a.1.1.1.0.now ∷ []))
  discharge_outputs : Settles discharge.discharge.Reads.Post (λ κ z e. leaves z (e.1.1.1.1.0.now ∷ []))
      (λ κ a. leaves (discharged a.0.now a.1.0 a.1.1.0 a.1.1.1.0 (length a.1.1.1.1.0.now)) (outputs_after a.0.now a.1.0 a.1.1.0 a.1.1.1.0 a.1.1.1.1.0.now ∷ []))
  -- the clocked engine
  start : Settles clock_state.start.Reads.Post (λ κ z e. leaves z (e.0.now ∷ [])) (λ κ a. leaves tt (idle ∷ []))
  seen-in : Settles clock_state.seen_in.Reads.Post (λ κ z e. leaves z []) (λ κ a. leaves (seen_in a.0.now) [])
  kind-byte : Settles clock_state.byte_of.Reads.Post (λ κ z e. leaves z []) (λ κ a. leaves (kind_byte a.0) [])
  kind-in : Settles clock_state.kind_in.Reads.Post (λ κ z e. leaves z []) (λ κ a. leaves (kind_in a.0.now) [])
  chained-in : Settles clock_state.chained_in.Reads.Post (λ κ z e. leaves z []) (λ κ a. leaves (chained_in a.0.now) [])
  clock : Settles clocking.clock.Reads.Post (λ κ z e. leaves z (e.0.now ∷ []))
      (λ κ a. leaves (answered (clock_of a.0.now)) (state_after a.1.0.now a.1.1.0 a.0.now ∷ []))
  judge_release : Settles releasing.judge.Reads.Post (λ κ z e. leaves z []) (λ κ a. leaves (judged (clock_of a.0.now) a.1.0.now) [])
  release : Settles releasing.release.Reads.Post (λ κ z e. leaves z (e.0.now ∷ e.1.0.now ∷ []))
      (λ κ a. leaves (released (clock_of a.0.now) a.1.0.now) (idle ∷ table_released (clock_of a.0.now) a.1.0.now ∷ []))
  look : Settles releasing.look.Reads.Post (λ κ z e. leaves z (e.1.1.0.now ∷ []))
      (λ κ a. leaves (looked (clock_of a.0.now) a.1.0 (length a.1.1.0.now)) (out_after (clock_of a.0.now) a.1.0 a.1.1.0.now ∷ []))
  handle_clocked : Settles clocked.handle.Reads.Post (λ κ z e. leaves z (e.0.now ∷ e.1.1.0.now ∷ []))
      (λ κ a. leaves (answer a.0.now a.1.0.now (length a.1.1.0.now)) (table_after a.0.now a.1.0.now (length a.1.1.0.now) ∷ reply_after a.0.now a.1.0.now a.1.1.0.now ∷ []))
  -- the host
  check : Settles ports.check.Reads.Post (λ κ z e. leaves z []) (λ κ a. leaves (checked a.0.now a.1.0) [])
  port-of : Settles ports.port_of.Reads.Post (λ κ z e. leaves z []) (λ κ a. leaves (port_of a.0.now a.1.0.now a.1.1.0 a.1.1.1.0 a.1.1.1.1.0) [])
  part-of : Settles ports.part_of.Reads.Post (λ κ z e. leaves (lying z) []) (λ κ a. leaves (part_of a.0 a.1.0 a.1.1.0 a.1.1.1.0 a.1.1.1.1.0) [])
  build : Settles host.build.Reads.Post (λ κ z e. leaves z (e.1.1.1.0.now ∷ []))
      (λ κ a. leaves (built a.0 a.1.0 a.1.1.0.now (length a.1.1.1.0.now)) (buffer_after a.0 a.1.0 a.1.1.0.now a.1.1.1.0.now ∷ []))
  -- heartbeats
  message : Settles messages.message.Reads.Post (λ κ z e. leaves z []) (λ κ a. leaves (message a.0 a.1.0) [])
  message-right : Settles messages.message_right.Reads.Post (λ κ z e. leaves z []) (λ κ a. leaves (message_right a.0.now) [])
  verdict-on : Settles messages.verdict_on.Reads.Post (λ κ z e. leaves z []) (λ κ a. leaves (verdict a.0.now a.1.0) [])
  -- readings
  microvolts_of : Settles readings.microvolts_of.Reads.Post (λ κ z e. leaves z []) (λ κ a. leaves (microvolts a.0) [])
  reading-of : Settles readings.reading_of.Reads.Post (λ κ z e. leaves z []) (λ κ a. leaves (reading_of a.0) [])
  summary-of : Settles readings.summary_of.Reads.Post (λ κ z e. leaves z []) (λ κ a. leaves (summary_of a.0.now) [])

pub one_outcomes : OneOutcome
one_outcomes =
    record {
      put = settles (λ κ a z e p i. leaves z (p i ∷ []));
      number-of = settles (λ κ a z e p i. leaves (p i) []);
      pack = settles (λ κ a z e p i. leaves (p i) []);
      pack_refused = settles (λ κ a z e p i. leaves (p i) []);
      pack_accepted = settles (λ κ a z e p i. leaves (p i) []);
      nothing_left = settles (λ κ a z e p i. leaves (p i) []);
      of_command = settles (λ κ a z e p i. leaves (p i) []);
      remainder_10 = settles (λ κ a z e p i. leaves (p i) []);
      two-bytes = settles (λ κ a z e p i. leaves (p i) []);
      command-check = settles (λ κ a z e p i. leaves (p i) []);
      command-right = settles (λ κ a z e p i. leaves (p i) []);
      data-pec = settles (λ κ a z e p i. leaves (p i) []);
      number-in = settles (λ κ a z e p i. leaves (p.0 i) []);
      number-right = settles (λ κ a z e p i. leaves (p i) []);
      four_in = settles (λ κ a z e p i. leaves (p.0 i) []);
      four-right = settles (λ κ a z e p i. leaves (p i) []);
      payload-right = settles (λ κ a z e p i. leaves (p i) []);
      counter_in = settles (λ κ a z e p i. leaves (p i) []);
      pec10_bitwise = settles (λ κ a z e p i. leaves (p i) []);
      pec10-by_table = settles (λ κ a z e p i. leaves (p i) []);
      pec15_bitwise = settles (λ κ a z e p i. leaves (p i) []);
      pec15-by_table = settles (λ κ a z e p i. leaves (p i) []);
      seal = settles (λ κ a z e p i. leaves (p i) []);
      sealed-two = settles (λ κ a z e p i. leaves (p i) []);
      sealed = settles (λ κ a z e p i. leaves (p i) []);
      command-of = settles (λ κ a z e p i. leaves (p i) []);
      command-from = settles (λ κ a z e p i. leaves (p i) []);
      frame-length = settles (λ κ a z e p i. leaves (p i) []);
      reply-size = settles (λ κ a z e p i. leaves (p i) []);
      is-listed = settles (λ κ a z e p i. leaves (p i) []);
      record-sound = settles (λ κ a z e p i. leaves (p i) []);
      byte_at = settles (λ κ a z e p i. leaves (p i) []);
      byte-in = settles (λ κ a z e p i. leaves (p i) []);
      is_snapped = settles (λ κ a z e p i. leaves (p i) []);
      in-lpcm = settles (λ κ a z e p i. leaves (p i) []);
      data-size = settles (λ κ a z e p i. leaves (p.0 i) []);
      width-of = settles (λ κ a z e p i. leaves (p.0 i) []);
      reply-of = settles (λ κ a z e p i. leaves (p i) []);
      needs_check = settles (λ κ a z e p i. leaves (p i) []);
      rules-of = settles (λ κ a z e p i. leaves (p i) []);
      stores-whole = settles (λ κ a z e p i. leaves (p i) []);
      write = settles (λ κ a z e p i. leaves z (p i ∷ []));
      carry_out = settles (λ κ a z e p i. leaves z (p i ∷ []));
      act = settles (λ κ a z e p i. leaves (p.0 i) (p.1 i ∷ []));
      remember = settles (λ κ a z e p i. leaves z (p i ∷ []));
      measure = settles (λ κ a z e p i. leaves (p.0 i) (p.1 i ∷ []));
      wake = settles (λ κ a z e p i. leaves (p.0 i) (p.1 i ∷ []));
      reach = settles (λ κ a z e p i. leaves (p.0 i) (p.1 i ∷ []));
      run_out = settles (λ κ a z e p i. leaves (p.0 i) (p.1 i ∷ []));
      is_towards_a = settles (λ κ a z e p i. leaves (p i) []);
      sound-table = settles (λ κ a z e p i. leaves (p i) []);
      sound-count = settles (λ κ a z e p i. leaves (p i) []);
      whole-table = settles (λ κ a z e p i. leaves (p i) []);
      record_at = settles (λ κ a z e p i. leaves (place_told a.1.0 a.0.now z p i) []);
      command-in = settles (λ κ a z e p i. leaves (p i) []);
      judge_head = settles (λ κ a z e p i. leaves (p i) []);
      numbers-of = settles (λ κ a z e p i. leaves (p i) []);
      serve = settles (λ κ a z e p i. leaves (p.0 i) (p.1 i ∷ []));
      serve_at = settles (λ κ a z e p i. leaves (p.0 i) (p.1 i ∷ []));
      replies_of = settles (λ κ a z e p i. leaves (p.0 i) (p.1 i ∷ []));
      reply-all = settles (λ κ a z e p i. leaves (p.0 i) (p.1 i ∷ []));
      handle = settles (λ κ a z e p i. leaves (p.0 i) (p.1.0 i ∷ p.1.1 i ∷ []));
      place-of = settles (λ κ a z e p i. leaves (p i) []);
      codes-of = settles (λ κ a z e p i. leaves (p i) []);
      codes-from_step = settles (λ κ a z e p i. leaves (p i) []);
      code-from_bits = settles (λ κ a z e p i. leaves (p i) []);
      lower_threshold = settles (λ κ a z e p i. leaves (p i) []);
      upper_threshold = settles (λ κ a z e p i. leaves (p i) []);
      over_threshold = settles (λ κ a z e p i. leaves (p i) []);
      under_threshold = settles (λ κ a z e p i. leaves (p i) []);
      load-number = settles (λ κ a z e p i. leaves (p i) []);
      code-in = settles (λ κ a z e p i. leaves (p i) []);
      store = settles (λ κ a z e p i. leaves (p.0 i) (p.1 i ∷ []));
      compare = settles (λ κ a z e p i. leaves (p.0 i) (p.1 i ∷ []));
      store_one = settles (λ κ a z e p i. leaves (p.0 i) (p.1 i ∷ []));
      compare_one = settles (λ κ a z e p i. leaves (p.0 i) (p.1 i ∷ []));
      load = settles (λ κ a z e p i. leaves (p.0 i) (p.1 i ∷ []));
      table_wake = settles (λ κ a z e p i. leaves (p.0 i) (p.1.0 i ∷ p.1.1 i ∷ []));
      table_relay = settles (λ κ a z e p i. leaves (p.0 i) (p.1.0 i ∷ p.1.1 i ∷ []));
      table_heartbeat = settles (λ κ a z e p i. leaves (p.0 i) (p.1.0 i ∷ p.1.1 i ∷ []));
      table_time_out = settles (λ κ a z e p i. leaves (p.0 i) (p.1 i ∷ []));
      put_outputs = settles (λ κ a z e p i. leaves (p.0 i) (p.1 i ∷ []));
      discharge_outputs = settles (λ κ a z e p i. leaves (p.0 i) (p.1 i ∷ []));
      start = settles (λ κ a z e p i. leaves z (p i ∷ []));
      seen-in = settles (λ κ a z e p i. leaves (p.0 i) []);
      kind-byte = settles (λ κ a z e p i. leaves (p i) []);
      kind-in = settles (λ κ a z e p i. leaves (p i) []);
      chained-in = settles (λ κ a z e p i. leaves (p.0 i) []);
      clock = settles (λ κ a z e p i. leaves (p.0 i) (p.1.1 i ∷ []));
      judge_release = settles (λ κ a z e p i. leaves (p i) []);
      release = settles (λ κ a z e p i. leaves (p.0 i) (p.1.0 i ∷ p.1.1 i ∷ []));
      look = settles (λ κ a z e p i. leaves (p.0 i) (p.1 i ∷ []));
      handle_clocked = settles (λ κ a z e p i. leaves (p.0 i) (p.1.0 i ∷ p.1.1 i ∷ []));
      check = settles (λ κ a z e p i. leaves (p i) []);
      port-of = settles (λ κ a z e p i. leaves (p i) []);
      part-of = settles (λ κ a z e p i. leaves (p.1 i) []);
      build = settles (λ κ a z e p i. leaves (p.0 i) (p.1 i ∷ []));
      message = settles (λ κ a z e p i. leaves (p i) []);
      message-right = settles (λ κ a z e p i. leaves (p i) []);
      verdict-on = settles (λ κ a z e p i. leaves (p i) []);
      microvolts_of = settles (λ κ a z e p i. leaves (p i) []);
      reading-of = settles (λ κ a z e p i. leaves (p i) []);
      summary-of = settles (λ κ a z e p i. leaves (p i) []);
    }
