-- Demand 2. What the chain does with a frame is what the data sheet says as document 01 condenses it, with the requests of document 02 that
-- have landed (L1, L2, L3, L5, L6, L7, L8), monitor by monitor. What our host writes hands each monitor its own data bytes: nearest first in our list, farthest
-- first on the wire. Monitors are counted from 0 here: monitor 1 of the paper is k = 0. Each field is proved where it is cited from.
-- Assumes nothing.
use mathlib.Core.Path.{◌≡◌, refl}
use mathlib.Core.Bool.{Bool, true, false, cond, not, ◌&&◌, ◌||◌}
use mathlib.Core.List.{List, [], ◌∷◌, ◌++◌, map}
use mathlib.Core.Logic.{◌⊎◌, ◌↔◌}
use Prim.Native.Nat.{ℕ, suc, ◌+◌, ◌-◌, ◌*◌, ◌/◌, ◌%◌, ◌^◌, ◌≤◌, ◌<◌}
use lib.Bits.{bit_and, bit_or}
use lib.Dec.{eqb, ltb, leb}
use lib.IntN.{ℤ, pos, negsuc, ◌-ℤ◌}
use lib.ListN.{length, take, drop, get_or, replicate}
use lib.Signed.{lt_z}
use mir.Syntax.{w16}
use mir.Val.{SFits}
use Rattle.laws.specs.Counts.{all, count}
use Rattle.laws.specs.Bits.{bit_at, bits_of_bytes, Bytes}
use Rattle.laws.specs.Rows.{rows, row_at, joined}
use Rattle.laws.specs.Tables.{tabulate}
use Rattle.pec.specs.Words.{seal, counter_of, command_right, sealed_right, payload_right}
use Rattle.pec.specs.Spikes.{Spike}
use Rattle.pec.proofs.Spikes.{spike-some}
use Rattle.refusals.specs.declared.Refusal.{Refusal}
use Rattle.refusals.specs.declared.Refusal.TheVariants.{TableNotSound, FrameShort, CommandWrong, CodeNotListed, LengthWrong, NoRoom, PositionWrong, CountWrong, CodeCleared, BothDamaged}
use Rattle.refusals.specs.Order.{◌gives◌, Passed}
use Rattle.records.specs.declared.commands.Bare.{Bare}
use Rattle.records.specs.declared.commands.Bare.TheVariants.{Mute, Unmute, Ulrr, Clrcell, Snap, Unsnap, Cmen, Cmdis}
use Rattle.records.specs.declared.commands.Command.{Command}
use Rattle.records.specs.declared.commands.Command.TheVariants.{Reads, Writes, Bares, Unlisted}
use Rattle.records.specs.declared.commands.Write.{Write}
use Rattle.records.specs.declared.commands.Write.TheVariants.{Wrcfgb, Wrrr, Wrpwma, Wrpwmb, Wrcmcfg, Wrcmcellt, Wrcmgpiot, Clrcmflag}
use Rattle.records.specs.declared.record.Part.{Part}
use Rattle.records.specs.Record.{cell_count, cells, flags, snapshot, status_bits, dcc_bits, pwm_a, pwm_b, lpcm_configuration, lpcm_cell_thresholds, lpcm_gpio_thresholds, lpcm_flags, cmf0, cmf1, last_cells, record_size, retention, counter, unlocked, snapped, in_lpcm, bytes_of as part_of, byte_in, byte_of, on_bytes, record_sound}
use Rattle.records.specs.Commands.{commands, command_of, is_listed, rdcfga, rdcfgb, rdcva, rdcvb, rdcvc, rdcvd, rdcve, rdcvf, rdstatc, rdstatd, rdsid, rdrr, rdpwma, rdpwmb, rdcmcfg, rdcmcellt, rdcmgpiot, rdcmflag, most_monitors, data_size, register_size, payload_size, width_of, frame_length, reply_length}
use Rattle.records.proofs.Widths.{six_but_clrcmflag}
use Rattle.writes.specs.Writes.{written}
use Rattle.writes.proofs.Written.{needs_but_wrrr}
use Rattle.monitor.specs.Effects.{locked, next_count, counted, done, accepts, keeps}
use Rattle.reads.specs.Shown.{cell_reads, of_cells, shown_cells}
use Rattle.reads.specs.Reply.{six_bytes, register, reply}
use Rattle.monitor.proofs.Keeping.{keeps-right, keeps_wrong, keeps-none}
use Rattle.judging.specs.Table.{monitors, sound, Beside}
use Rattle.judging.specs.Refusals.{command_in}
use Rattle.serving.specs.Served.{Awake, awake_of, payloads_in}
use Rattle.serving.proofs.Taken.{awake_all}
use Rattle.chain.specs.Frame.{frame_refusals, answer, table_after, reply_after}
use Rattle.judging.proofs.Keeps.{Keeps}
use Rattle.chain.proofs.FrameKeeps.{frame-keeps}
use Rattle.thresholds.specs.Thresholds.{lower, upper, vuv, vov, codes_of}
use Rattle.cells.specs.Cells.{store, code_in, code_at, is_cleared, flags_for, flags_of, compare, flags_in, load}
use Rattle.cells.proofs.OwnFlags.{own-flags, cleared_skipped}
use Rattle.cells.proofs.OwnCodes.{own_code, load-flags}
use Rattle.measuring.specs.Measuring.{cuv, cov, cdv, masked, pending, measured, passes, violates}
use Rattle.measuring.proofs.Measured.{length-measured, sound-measured, measured_spares, last-measured, flags_stay}
use Rattle.measuring.proofs.Found.{violation_shows, pending_shows, nothing_else, passes_where, passed_clear, passed_nothing_pending, passed_nothing_violated}
use Rattle.measuring.proofs.Examples.{Measurements, measurements}
use Rattle.loads.specs.Load.{store_refusals, stored, table_after_store, compare_refusals, compared, table_after_compare, load_refusals, loaded, table_after_load}
use Rattle.loads.proofs.Keeps.{store_keeps, compare-keeps, load-keeps}
use Rattle.loads.proofs.Bytes.{store-as_long, store_only_cells, compare-as_long, compare_only_flags, compare_only_sets}
use Rattle.loads.proofs.Judging.{as_stored}
use Rattle.loads.proofs.Halves.{compare-after-store, store_and_compare, second-judged, second_counts, second-compared, compare_again}
use Rattle.monitor.specs.Spares.{Apart, Spares, Before}
use Rattle.monitor.proofs.Spares.{keeps_spares}
use Rattle.priorities.specs.declared.outputs.Events.{Events}
use Rattle.priorities.specs.declared.outputs.Output.{Output}
use Rattle.priorities.specs.Switches.{muted, dcc, duty}
use Rattle.priorities.specs.Table27.{Row, phases, table27, decided, output_of, Decides, Decider}
use Rattle.priorities.specs.OwnBits.{flipped, duty_at, duty_bit, Own}
use Rattle.priorities.specs.Outputs.{shown, outputs, count_on}
use Rattle.priorities.proofs.Deciding.{its-row, one_decides, row_range, on-by_4_or_1, dcc-on, on_for_its-duty}
use Rattle.priorities.proofs.OwnBits.{dcc-at, duty-at, no_other_bit}
use Rattle.priorities.proofs.Vectors.{SheetBits, sheet_bits}
use Rattle.priorities.proofs.Shown.{row-shown, on-shown, own-output, count-shown, shutdown_none, mute_none, wrcfgb_none}
use Rattle.discharge.specs.Question.{discharge_refusals, discharged, outputs_after}
use Rattle.host.specs.Frames.{head_size, sealed, value_count, frame_for, build_refusals, built, buffer_after}
use Rattle.ports.specs.declared.checks.Checked.TheVariants.{Right, CounterDiffers, Damaged as PayloadDamaged}
use Rattle.ports.specs.declared.ports.Port.TheVariants.{A, B}
use Rattle.ports.specs.Verdicts.{is_damaged, is_right, counter_differs, counter_row}
use Rattle.ports.specs.Check.{check_refusals, checked}
use Rattle.ports.specs.Ports.{part_a, part_b, port_refusals, chosen, port_of, by_port}
use Rattle.ports.specs.Parts.{bytes_of}
use Rattle.messages.specs.declared.verdicts.Verdict.TheVariants.{Passed as Good, Failed, Damaged, TimedOut}
use Rattle.messages.specs.Messages.{message, count_in, flags_in as flagsByte, message_right, is_pass}
use Rattle.messages.specs.Verdicts.{verdict_refusals, verdict}
use Rattle.heartbeats.specs.Steps.{manages, is_manager, is_timeout, ndev, towards_a, woken, wakes, reached, answers, late}
use Rattle.heartbeats.proofs.Kept.{woken_spares, woken_lpcm, late_spares, late_lpcm, reached_spares, reached_lpcm, manager-left, awake_left, wrong_left}
use Rattle.heartbeats.proofs.Examples.{Turns, turns}
use Rattle.messages.proofs.Sent.{message-bytes, message-right}
use Rattle.messages.proofs.Judged.{exactly, sent_passed, sent_failed}
use Rattle.messages.proofs.Struck.{damaged_by_data, damaged_by-command, damaged_by-spike}
use Rattle.story.specs.Numbers.{First}
use Rattle.story.specs.Snapshots.{snapped_after}
use Rattle.story.specs.Growth.{size01, size_l2, size_l6, size_l8}
use Rattle.story.specs.Lpcm.{enabled_after}
use Rattle.story.specs.Spikes.{StruckData, StruckCommand, own_in, unhit, unhit_of, unhit_awake, StruckEach, Spoilt}
use Rattle.story.specs.Missed.{OneCounter, read_after, from_a, from_b, EachSeen, SeenAs, SomeDiffer}
use Rattle.story.proofs.Accepted.{frame_refused, write_answer, write_answer_awake, wrrr_answer, read_answer, bare_answer, record_after, reply-own, reply_past, write_no_reply, bare_no_reply, store-done, store-own, store-others, compare-done, compare-own, compare-others, load-done, load-own, load-others, discharge_answer, host_writes}
use Rattle.story.proofs.OurHost.{own_data, write_taken, write_taken_by-all, bare_taken_by-all, each-keeps-its-own, reply-right, read_taken_by-all, each-reply-its-own, each-reply-right}
use Rattle.story.specs.ReadsBack.{ReadsBack, as_written, fixed_behind-two, three_thresholds}
use Rattle.story.proofs.ReadBack.{b_read_back, pwm_a_read_back, pwm_b_read_back, lpcm_read_back, cell-thresholds_read_back, gpio_thresholds_read_back}
use Rattle.story.proofs.Retention.{wrrr_unlocked, wrrr_locked, ulrr_unlocks, retained, not_retained}
use Rattle.story.proofs.AsBefore.{as_before, front_awake, cmf0_stays, last_stays, reply_as_before, pwm_stays, a_stays, b_stays, copy_stays}
use Rattle.story.proofs.Snapshot.{snap_takes, snap_again, snap_again_shows, snap_st, snap_copies, store_snap_st, store_copy, compare_snap_st, compare_copy, shows_the_cells, shows_as_it_lies}
use Rattle.story.proofs.Lpcm.{cmen_enables, cmen_again, enabled-after, last-cells, clrcmflag_clears}
use Rattle.passing.specs.declared.operations.Relayed.TheVariants.{Stopped, SentOn}
use Rattle.passing.specs.declared.operations.TimedOut.TheVariants.{NoTimeoutMonitor, RanOut}
use Rattle.passing.specs.Hops.{bytes_sent, wake_sends, wake_leaves, hops, behind, way, way_from, sent_along, left_along, beat_sends, beat_leaves}
use Rattle.passing.specs.Operations.{handed_out, sent_towards, sent_on, wake_refusals, woken_at, table_after_wake, out_after_wake, relay_refusals, relayed_at, table_after_relay, out_after_relay, beaten, table_after_beat, out_after_beat, time_out_refusals, timed_out, table_after_time_out}
use Rattle.guarding.specs.Chains.{Guarded, FromTheEnd, Watched, passing, union, less, Struck}
use Rattle.guarding.specs.InTurn.{sent_by_turns, left_by_turns}
use Rattle.guarding.proofs.Arrives.{arrives, number, exactly_all, verdict-passed as beat_passed, verdict_exactly}
use Rattle.guarding.proofs.AllMeasured.{all-measured}
use Rattle.guarding.proofs.Struck.{struck_hop, struck_last}
use Rattle.guarding.proofs.Stopped.{stopped, no_beat}
use Rattle.guarding.proofs.Untouched.{untouched}
use Rattle.guarding.proofs.Examples.{Examples, examples as chain-examples}
use Rattle.guarding.proofs.Watched.{watched}
use Rattle.guarding.proofs.InTurn.{in_turn}
use Rattle.story.proofs.Operations.{wake_placed, wake_room}
use Rattle.story.proofs.Heartbeats.{nothing_handed, message-handed, nothing_told, message-told, Turned, wake_done, beat_done, relay_done, time_done}
use Rattle.story.proofs.Beats.{manager-wakes, no_manager_sleeps, monitor-sends_on, timeout_judges, time_runs_out}
use Rattle.story.proofs.Muting.{mute_answers, unmute_answers}
use Rattle.story.proofs.Verdicts.{three_verdicts, checked-right, checked_damaged, checked_differs, port_chosen, last_differs}
use Rattle.story.proofs.BothEnds.{reply-same, reply_differs, the_replies, handed-from_a, handed-from_b, any_from_a, any_from_b}
use Rattle.story.proofs.Cleared.{clrcell_clears}
use Rattle.story.proofs.Spoilt.{right-unhit, struck_answer, struck_answer_awake, awake_unhit, struck_no_reply, struck_some, struck_fewer, struck_hit, struck_lpcm, struck_unhit}
use Rattle.story.proofs.Spikes.{hit_by_bit, unhit-by_bits, struck_each, each_spoilt, struck_spoilt, struck_wrrr_answer, struck_wrrr_stores, struck_wrrr_locked, struck_refused, struck_refused_any}
use Rattle.story.proofs.Counted.{right-accepted, differs_accepted, any_accepted, any_kept, next-apart}
use Rattle.story.proofs.Missed.{own-counter-right, other_counter_differs, counter-after, missed_in_reply, missed_at_ports, missed_seen, some-seen, read_from_a, refused_in_reply, refused-seen, wrrr_unseen}
use Rattle.story.proofs.Sharp.{Sharp, sharp}
use Rattle.story.proofs.OneMissed.{OneMissed, one_missed}
use Rattle.story.proofs.EitherSide.{EitherSide, either_side}
use Rattle.std.specs.Prelude.{Some, None, Ok, Err}
use Rattle.chain.specs.Frame.{took}
use Rattle.heartbeats.specs.Steps.{sends}
use Rattle.passing.specs.declared.operations.End.TheVariants.{A as EndA, B as EndB}

pub record Demand2 : Type 0 where
  -- ---- a frame: `chain::handle`, and `clocked::handle`, which promises the same

  -- the exact refusals, in their order
  refusals : (table frame : List ℕ) (room : ℕ) → frame_refusals table frame room
      ≡ (not (sound table) gives TableNotSound)
      ∷ (ltb (length frame) 4 gives FrameShort)
      ∷ (not (command_right (take 4 frame)) gives CommandWrong)
      ∷ (not (is_listed (command_in frame)) gives CodeNotListed)
      ∷ (not (eqb (length frame) (frame_length (command_in frame) (monitors table))) gives LengthWrong)
      ∷ (ltb room (reply_length (command_in frame) (monitors table)) gives NoRoom)
      ∷ []
  refused : (table frame : List ℕ) (room : ℕ) (r : Refusal) → First (frame_refusals table frame room) r → answer table frame room ≡ Err r
  -- none holds: a write other than WRRR is taken by as many monitors as are not in LPCM and find their own bytes right, in a chain with none in LPCM by as many as
  -- find them right; a WRRR, which is executed whatever its check, by all that are not in LPCM; a read and a bare command by all N
  write_answer : (table frame : List ℕ) (room : ℕ) → Passed (frame_refusals table frame room) → (c : Write) → (c ≡ Wrrr → ⊥) → command_in frame ≡ Writes c
      → answer table frame room
      ≡ took (count (λ k. not (in_lpcm (row_at record_size k table)) && sealed_right (data_size c) (own_in (Writes c) (monitors table) frame k)) (tabulate (λ k. k) 0 (monitors table))) 0
  write_answer_awake : (table frame : List ℕ) (room : ℕ) → Passed (frame_refusals table frame room) → (c : Write) → (c ≡ Wrrr → ⊥) → command_in frame ≡ Writes c
      → Awake (monitors table) table → answer table frame room ≡ took (count (sealed_right (data_size c)) (payloads_in (Writes c) frame (monitors table))) 0
  wrrr_answer : (table frame : List ℕ) (room : ℕ) → Passed (frame_refusals table frame room) → command_in frame ≡ Writes Wrrr
      → answer table frame room ≡ took (awake_of (monitors table) table) 0
  awake_all : (n : ℕ) (table : List ℕ) → Awake n table → awake_of n table ≡ n
  read_answer : (table frame : List ℕ) (room : ℕ) → Passed (frame_refusals table frame room) → (part : Part) → command_in frame ≡ Reads part
      → answer table frame room ≡ took (monitors table) (payload_size * monitors table)
  bare_answer : (table frame : List ℕ) (room : ℕ) → Passed (frame_refusals table frame room) → (c : Bare) → command_in frame ≡ Bares c
      → answer table frame room ≡ took (monitors table) 0
  -- every monitor keeps what the command makes of its own record and its own bytes: monitor k's are the k-th from the end, of the command's width
  own_record : (table frame : List ℕ) (room : ℕ) → Passed (frame_refusals table frame room) → (k : ℕ) → k < monitors table
      → row_at record_size k (table_after table frame room)
      ≡ keeps (command_in frame) (row_at (width_of (command_in frame)) (monitors table - suc k) (drop 4 frame)) (row_at record_size k table)
  six_data : (c : Write) → (c ≡ Clrcmflag → ⊥) → data_size c ≡ 6
  two_data : data_size Clrcmflag ≡ 2
  widths : (c : Write) → width_of (Writes c) ≡ data_size c + 2
  -- `monitor::act`: every accepted command locks the retention; a taken write or bare command counts; wrong bytes change no more, WRRR's
  -- excepted, and in LPCM no write does
  read_keeps : (part : Part) (own r : List ℕ) → keeps (Reads part) own r ≡ locked r
  bare_keeps : (c : Bare) (own r : List ℕ) → keeps (Bares c) own r ≡ done c (counted (locked r))
  right-keeps : (c : Write) (own r : List ℕ) → in_lpcm r ≡ false → sealed_right (data_size c) own ≡ true
      → keeps (Writes c) own r ≡ written c (byte_of unlocked r) own (counted (locked r))
  wrong_keeps : (c : Write) → (c ≡ Wrrr → ⊥) → (own r : List ℕ) → sealed_right (data_size c) own ≡ false → keeps (Writes c) own r ≡ locked r
  lpcm_keeps : (c : Write) (own r : List ℕ) → in_lpcm r ≡ true → keeps (Writes c) own r ≡ locked r
  -- WRRR's own lines, not in LPCM: whatever the last two of its eight bytes are, it counts; it stores the first six where byte 69 was 1, and nothing where it was not
  wrrr_unlocked : (eight r : List ℕ) → length eight ≡ payload_size → in_lpcm r ≡ false → ((i : ℕ) → i < register_size → get_or eight i 0 < 256) → byte_of unlocked r ≡ 1
      → keeps (Writes Wrrr) eight r ≡ on_bytes retention (λ i old. get_or eight i 0) (counted (locked r))
  wrrr_locked : (eight r : List ℕ) → length eight ≡ payload_size → in_lpcm r ≡ false → (byte_of unlocked r ≡ 1 → ⊥) → keeps (Writes Wrrr) eight r ≡ counted (locked r)
  -- through frames: ULRR unlocks every monitor. RDRR after a WRRR, whatever its checks, shows of a monitor that was unlocked and not in LPCM the six bytes
  -- that the WRRR had for it, and of any other the six that it held
  ulrr_unlocks : (table frame : List ℕ) (room : ℕ) → Passed (frame_refusals table frame room) → command_in frame ≡ Bares Ulrr
      → (k : ℕ) → k < monitors table → byte_of unlocked (row_at record_size k (table_after table frame room)) ≡ 1
  retained : (table write read buffer : List ℕ) (room : ℕ) → Passed (frame_refusals table write room) → command_in write ≡ Writes Wrrr
      → Passed (frame_refusals (table_after table write room) read (length buffer)) → command_in read ≡ Reads rdrr
      → (k : ℕ) → k < monitors table → in_lpcm (row_at record_size k table) ≡ false → byte_of unlocked (row_at record_size k table) ≡ 1 → ((i : ℕ) → get_or write i 0 < 256)
      → take register_size (row_at payload_size k (reply_after (table_after table write room) read buffer))
      ≡ take register_size (row_at payload_size (monitors table - suc k) (drop 4 write))
  not_retained : (table write read buffer : List ℕ) (room : ℕ) → Passed (frame_refusals table write room) → command_in write ≡ Writes Wrrr
      → Passed (frame_refusals (table_after table write room) read (length buffer)) → command_in read ≡ Reads rdrr
      → (k : ℕ) → k < monitors table → (byte_of unlocked (row_at record_size k table) ≡ 1 → ⊥) ⊎ (in_lpcm (row_at record_size k table) ≡ true)
      → take register_size (row_at payload_size k (reply_after (table_after table write room) read buffer)) ≡ part_of retention (row_at record_size k table)
  -- a command changes no part of a record but the retention byte, the counter and the parts that are its own
  spares : (p : Part) (c : Command) (own r : List ℕ) → Spares c p → part_of p (keeps c own r) ≡ part_of p r
  -- the record has grown behind its byte 69, three times: by the PWM groups, by the copy of the cells, and by LPCM's. Every command does to a front that has all
  -- of the command's own parts what it does without the rest, and leaves the rest: a write where the rest does not say that the monitor is in LPCM, which a front that
  -- ends before LPCM's flags does not say. A read of a part of the front replies from it, one of the cells where no snapshot is on
  as_before : (c : Command) (own front rest : List ℕ) → size01 ≤ length front → Before c (length front)
      → ((w : Write) → c ≡ Writes w → in_lpcm (front ++ rest) ≡ in_lpcm front) → keeps c own (front ++ rest) ≡ keeps c own front ++ rest
  front_awake : (front : List ℕ) → length front ≤ cmf1.at → in_lpcm front ≡ false
  sizes : (size01 ≡ 70) × (size_l2 ≡ 82) × (size_l6 ≡ 114) × (size_l8 ≡ 170)
  replies_as_before : (p : Part) (front rest : List ℕ) → p.at + p.size ≤ length front → pwm_a.at ≤ length front → of_cells p && snapped front ≡ false
      → reply p (front ++ rest) ≡ reply p front
  -- so both PWM groups stay, and each also where the other is written
  pwm_stays : (c : Command) → (c ≡ Writes Wrpwma → ⊥) → (c ≡ Writes Wrpwmb → ⊥) → (own r : List ℕ)
      → (part_of pwm_a (keeps c own r) ≡ part_of pwm_a r) × (part_of pwm_b (keeps c own r) ≡ part_of pwm_b r)
  pwm_a_stays : (own r : List ℕ) → part_of pwm_a (keeps (Writes Wrpwmb) own r) ≡ part_of pwm_a r
  pwm_b_stays : (own r : List ℕ) → part_of pwm_b (keeps (Writes Wrpwma) own r) ≡ part_of pwm_b r
  -- a sound table stays sound, with its N monitors
  stays_sound : (table frame : List ℕ) (room : ℕ) → sound table ≡ true → Keeps table (table_after table frame room)
  -- every monitor replies in its own place, nearest first, and the bytes past the reply stay
  own-reply : (table frame buffer : List ℕ) → Passed (frame_refusals table frame (length buffer)) → (part : Part) → command_in frame ≡ Reads part
      → (k : ℕ) → k < monitors table → row_at payload_size k (reply_after table frame buffer) ≡ reply part (row_at record_size k table)
  past_reply : (table frame buffer : List ℕ) → Passed (frame_refusals table frame (length buffer)) → (part : Part) → command_in frame ≡ Reads part
      → drop (payload_size * monitors table) (reply_after table frame buffer) ≡ drop (payload_size * monitors table) buffer
  write_no_reply : (table frame buffer : List ℕ) → Passed (frame_refusals table frame (length buffer)) → (c : Write) → command_in frame ≡ Writes c
      → reply_after table frame buffer ≡ buffer
  bare_no_reply : (table frame buffer : List ℕ) → Passed (frame_refusals table frame (length buffer)) → (c : Bare) → command_in frame ≡ Bares c
      → reply_after table frame buffer ≡ buffer
  -- `reads::reply_of`: a reply holds the register and the counter as it stands, with a check over both that is right
  reply-holds : (part : Part) (r : List ℕ) → reply part r ≡ register part r ++ seal (register part r) (byte_of counter r)
  reply-is_right : (part : Part) (r : List ℕ) → payload_right (reply part r) ≡ true
  -- ---- a snapshot

  -- the copy of the cells is as long as they are, and the last part that the record had when SNAP came
  copy_long : snapshot.size ≡ cells.size
  copy_last : snapshot.at + snapshot.size ≡ size_l6
  -- SNAP where SNAP_ST, bit 5 of its byte, is clear: the copy becomes what the cells are, and SNAP_ST is set; where it is set, no more than every bare
  -- command does, which locks and counts. UNSNAP clears it. No more of the record changes: not the live cells, and at UNSNAP not the copy
  snap_st_at : (r : List ℕ) → snapped r ≡ bit_at 5 (get_or r status_bits.at 0)
  snap_takes : (own r : List ℕ) → snapped r ≡ false
      → keeps (Bares Snap) own r ≡ on_bytes status_bits (λ i old. bit_or old 0x20) (on_bytes snapshot (λ i old. get_or (part_of cells r) i 0) (counted (locked r)))
  snap_again : (own r : List ℕ) → snapped r ≡ true → keeps (Bares Snap) own r ≡ counted (locked r)
  unsnap : (own r : List ℕ) → keeps (Bares Unsnap) own r ≡ on_bytes status_bits (λ i old. bit_and old 0xDF) (counted (locked r))
  -- so SNAP_ST after each command; the copy after SNAP, which is what the cell reads showed before it, and after every other command
  snap_st : (own r : List ℕ) → length r ≡ record_size → (c : Command) → snapped (keeps c own r) ≡ snapped_after c (snapped r)
  snap_copies : (own r : List ℕ) → length r ≡ record_size → part_of snapshot (keeps (Bares Snap) own r) ≡ shown_cells r
  copy_stays : (c : Command) (own r : List ℕ) → (c ≡ Bares Snap → ⊥) → part_of snapshot (keeps c own r) ≡ part_of snapshot r
  -- no read shows another register for a SNAP where SNAP_ST was set
  snap_again_shows : (own r : List ℕ) → snapped r ≡ true → (p : Part) → Apart p unlocked → Apart p counter
      → register p (keeps (Bares Snap) own r) ≡ register p r
  -- a store and a compare leave both
  store_snap : (codes : List ℤ) (r : List ℕ) → (snapped (store codes r) ≡ snapped r) × (part_of snapshot (store codes r) ≡ part_of snapshot r)
  compare_snap : (r : List ℕ) → (snapped (compare r) ≡ snapped r) × (part_of snapshot (compare r) ≡ part_of snapshot r)
  -- the six cell reads together show the copy where SNAP_ST is set, however it came to be so, and the live cells where it is not; and FF in the last
  -- four bytes of register F. Every other read, status C and D included, shows its part as it lies
  cell-reads : cell_reads ≡ rdcva ∷ rdcvb ∷ rdcvc ∷ rdcvd ∷ rdcve ∷ rdcvf ∷ []
  shown-cells : (r : List ℕ) → shown_cells r ≡ cond (snapped r) (part_of snapshot r) (part_of cells r)
  cells-shown : (r : List ℕ) → length r ≡ record_size → joined (map (λ p. register p r) cell_reads) ≡ shown_cells r ++ replicate 4 0xFF
  other_shown : (p : Part) (r : List ℕ) → of_cells p ≡ false → register p r ≡ six_bytes p r
  the_others : map of_cells (rdcfga ∷ rdcfgb ∷ rdstatc ∷ rdstatd ∷ rdsid ∷ rdrr ∷ rdpwma ∷ rdpwmb ∷ rdcmcfg ∷ rdcmcellt ∷ rdcmgpiot ∷ rdcmflag ∷ []) ≡ replicate 12 false
  -- ---- LPCM: its settings, and enabling it

  -- where they lie: the configuration, the thresholds of the cells and of the GPIOs, the flags, six bytes each, and the cells of the last measurement, as long as the
  -- cells are and the record's last part. CMC_EN is bit 7 of CMF1, byte 1 of the flags
  lpcm_places : (lpcm_configuration.at ≡ 114) × (lpcm_cell_thresholds.at ≡ 120) × (lpcm_gpio_thresholds.at ≡ 126) × (lpcm_flags.at ≡ 132) × (last_cells.at ≡ 138)
  lpcm_at : (r : List ℕ) → in_lpcm r ≡ bit_at 7 (get_or r (lpcm_flags.at + 1) 0)
  last-long : last_cells.size ≡ cells.size
  last-last : last_cells.at + last_cells.size ≡ record_size
  -- a frame of CLRCMFLAG has four bytes for each monitor, and our host wants two; CMHB is sent by monitors, and is not listed
  clrcmflag_long : (n : ℕ) → (frame_length (Writes Clrcmflag) n ≡ 4 + 4 * n) × (value_count (Writes Clrcmflag) n ≡ 2 * n)
  cmhb_unlisted : command_of 0x0043 commands ≡ Unlisted
  -- CMEN where CMC_EN is clear: CMF1 becomes 83 (hex), and the last measurement what the live cells are; where it is set, no more than every bare command does.
  -- CMDIS clears CMC_EN alone. So CMC_EN after each command
  cmen_enables : (own r : List ℕ) → in_lpcm r ≡ false
      → keeps (Bares Cmen) own r ≡ on_bytes cmf1 (λ i old. 0x83) (on_bytes last_cells (λ i old. get_or (part_of cells r) i 0) (counted (locked r)))
  cmen_again : (own r : List ℕ) → in_lpcm r ≡ true → keeps (Bares Cmen) own r ≡ counted (locked r)
  cmdis : (own r : List ℕ) → keeps (Bares Cmdis) own r ≡ on_bytes cmf1 (λ i old. bit_and old 0x7F) (counted (locked r))
  cmc_en : (own r : List ℕ) → length r ≡ record_size → (c : Command) → in_lpcm (keeps c own r) ≡ enabled_after c (in_lpcm r)
  -- CLRCMFLAG, its two data bytes and their check right: each bit of the first that is 1 clears that bit of CMF0, and whatever the second is CMF1, a byte, stays
  clrcmflag_clears : (own r : List ℕ) → length r ≡ record_size → in_lpcm r ≡ false → sealed_right 2 own ≡ true → get_or own 0 0 < 256 → byte_of cmf1 r < 256
      → keeps (Writes Clrcmflag) own r ≡ on_bytes cmf0 (λ i old. bit_and old (255 - get_or own 0 0)) (counted (locked r))
  -- so of the commands CLRCMFLAG alone changes CMF0, which stays at CMEN and CMDIS, and CMEN alone the last measurement
  cmf0_stays : (c : Command) (own r : List ℕ) → (c ≡ Writes Clrcmflag → ⊥) → part_of cmf0 (keeps c own r) ≡ part_of cmf0 r
  last_stays : (c : Command) (own r : List ℕ) → (c ≡ Bares Cmen → ⊥) → part_of last_cells (keeps c own r) ≡ part_of last_cells r
  last_taken : (own r : List ℕ) → length r ≡ record_size
      → part_of last_cells (keeps (Bares Cmen) own r) ≡ cond (in_lpcm r) (part_of last_cells r) (part_of cells r)
  -- ---- LPCM: one monitor's measurement, `measuring::measure`

  -- it changes CMF0 and the last measurement alone: every part that has no byte of these stays, the counter, byte 69 and CMF1 among them, and the record is as long and
  -- as sound as it was. The last measurement becomes what the cells are, those left out too
  measured-as_long : (r : List ℕ) → length (measured r) ≡ length r
  measured-sound : (r : List ℕ) → record_sound (measured r) ≡ record_sound r
  measured_spares : (r : List ℕ) (p : Part) → Apart p cmf0 → Apart p last_cells → part_of p (measured r) ≡ part_of p r
  measured-last : (r : List ℕ) → length r ≡ record_size → part_of last_cells (measured r) ≡ part_of cells r
  -- the kinds, by their bits of CMF0, with the live code and the last: below CUV, above COV, fallen and risen by more than CDV
  cuv-kind : (r : List ℕ) (c : ℕ) → violates 0 r c ≡ lt_z (code_in cells r c).0 (codes_of (lower lpcm_cell_thresholds r)).0
  cov-kind : (r : List ℕ) (c : ℕ) → violates 1 r c ≡ lt_z (codes_of (upper lpcm_cell_thresholds r)).0 (code_in cells r c).0
  cdvn_kind : (r : List ℕ) (c : ℕ) → violates 2 r c ≡ lt_z (pos (8 * cdv r)) ((code_in last_cells r c).0 -ℤ (code_in cells r c).0)
  cdvp_kind : (r : List ℕ) (c : ℕ) → violates 3 r c ≡ lt_z (pos (8 * cdv r)) ((code_in cells r c).0 -ℤ (code_in last_cells r c).0)
  -- a flag that stands stays; a cell that is not left out and violates a kind sets its flag; a diagnostic that is pending sets all eight; nothing else sets one
  flags_stay : (r : List ℕ) → length r ≡ record_size → (k : ℕ) → bit_at k (byte_of cmf0 r) ≡ true → bit_at k (byte_of cmf0 (measured r)) ≡ true
  violation_shows : (r : List ℕ) → length r ≡ record_size → (c k : ℕ) → c < cell_count → masked r c ≡ false → violates k r c ≡ true
      → bit_at k (byte_of cmf0 (measured r)) ≡ true
  pending_shows : (r : List ℕ) → length r ≡ record_size → pending r ≡ true → (k : ℕ) → k < 8 → bit_at k (byte_of cmf0 (measured r)) ≡ true
  nothing_else : (r : List ℕ) → length r ≡ record_size → pending r ≡ false → (k : ℕ) → bit_at k (byte_of cmf0 r) ≡ false
      → ((c : ℕ) → c < cell_count → masked r c ≡ false → violates k r c ≡ false) → bit_at k (byte_of cmf0 (measured r)) ≡ false
  -- so it passes exactly where no flag stood, nothing is pending and no such cell violates a kind
  passes_where : (r : List ℕ) → length r ≡ record_size → byte_of cmf0 r ≡ 0 → pending r ≡ false
      → ((c : ℕ) → c < cell_count → masked r c ≡ false → (k : ℕ) → violates k r c ≡ false) → passes r ≡ true
  passed_clear : (r : List ℕ) → length r ≡ record_size → passes r ≡ true → byte_of cmf0 r ≡ 0
  passed_nothing_pending : (r : List ℕ) → length r ≡ record_size → passes r ≡ true → pending r ≡ false
  passed_nothing_violated : (r : List ℕ) → length r ≡ record_size → passes r ≡ true → (c : ℕ) → c < cell_count → masked r c ≡ false
      → (k : ℕ) → violates k r c ≡ false
  -- the sheet's two settings, and each limit one code inside and one outside
  measurements : Measurements
  -- ---- readings: `loads::store`, `loads::compare` and `loads::load`

  -- the exact refusals, in their order; a load's are its store's
  store-refusals : (table : List ℕ) (position : ℕ) (codes : List ℤ) → store_refusals table position codes
      ≡ (not (sound table) gives TableNotSound)
      ∷ (not (leb 1 position && leb position (monitors table)) gives PositionWrong)
      ∷ (not (eqb (length codes) cell_count) gives CountWrong)
      ∷ (not (all (λ code. not (is_cleared code)) codes) gives CodeCleared)
      ∷ []
  compare-refusals : (table : List ℕ) (position : ℕ) → compare_refusals table position
      ≡ (not (sound table) gives TableNotSound) ∷ (not (leb 1 position && leb position (monitors table)) gives PositionWrong) ∷ []
  load-refusals : (table : List ℕ) (position : ℕ) (codes : List ℤ) → load_refusals table position codes ≡ store_refusals table position codes
  -- none holds: it is done. The record of the monitor at the position becomes what `cells::store` or `cells::compare` makes of it, and every
  -- other stays
  store-done : (table : List ℕ) (position : ℕ) (codes : List ℤ) → Passed (store_refusals table position codes) → stored table position codes ≡ (Ok tt)
  own-store : (table : List ℕ) (position : ℕ) (codes : List ℤ) → Passed (store_refusals table position codes)
      → row_at record_size (position - 1) (table_after_store table position codes) ≡ store codes (row_at record_size (position - 1) table)
  store-others : (table : List ℕ) (position : ℕ) (codes : List ℤ) → Passed (store_refusals table position codes)
      → (j : ℕ) → j < monitors table → (j ≡ position - 1 → ⊥) → row_at record_size j (table_after_store table position codes) ≡ row_at record_size j table
  compare-done : (table : List ℕ) (position : ℕ) → Passed (compare_refusals table position) → compared table position ≡ (Ok tt)
  own-compare : (table : List ℕ) (position : ℕ) → Passed (compare_refusals table position)
      → row_at record_size (position - 1) (table_after_compare table position) ≡ compare (row_at record_size (position - 1) table)
  compare-others : (table : List ℕ) (position : ℕ) → Passed (compare_refusals table position)
      → (j : ℕ) → j < monitors table → (j ≡ position - 1 → ⊥) → row_at record_size j (table_after_compare table position) ≡ row_at record_size j table
  load-done : (table : List ℕ) (position : ℕ) (codes : List ℤ) → Passed (load_refusals table position codes) → loaded table position codes ≡ (Ok tt)
  own-load : (table : List ℕ) (position : ℕ) (codes : List ℤ) → Passed (load_refusals table position codes)
      → row_at record_size (position - 1) (table_after_load table position codes) ≡ load codes (row_at record_size (position - 1) table)
  others_stay : (table : List ℕ) (position : ℕ) (codes : List ℤ) → Passed (load_refusals table position codes)
      → (j : ℕ) → j < monitors table → (j ≡ position - 1 → ⊥) → row_at record_size j (table_after_load table position codes) ≡ row_at record_size j table
  -- a sound table stays sound, with its N monitors
  store_stays_sound : (table : List ℕ) (position : ℕ) (codes : List ℤ) → sound table ≡ true → Keeps table (table_after_store table position codes)
  compare_stays_sound : (table : List ℕ) (position : ℕ) → sound table ≡ true → Keeps table (table_after_compare table position)
  load_stays_sound : (table : List ℕ) (position : ℕ) (codes : List ℤ) → sound table ≡ true → Keeps table (table_after_load table position codes)
  -- a store changes only the cells of the monitor at the position, done or refused: the table stays as long, and every byte beside them stays
  store-as_long : (table : List ℕ) (position : ℕ) (codes : List ℤ) → length (table_after_store table position codes) ≡ length table
  store_only_cells : (table : List ℕ) (position : ℕ) (codes : List ℤ) (i : ℕ) → (1 ≤ position → Beside cells (position - 1) i)
      → get_or (table_after_store table position codes) i 0 ≡ get_or table i 0
  -- cell c of that record then holds the code given for it, where that is one of 16 bits
  own_code : (codes : List ℤ) (r : List ℕ) → length r ≡ record_size → (c : ℕ) → c < cell_count → SFits w16 (get_or codes c (pos 0))
      → code_at (store codes r) c ≡ record { 0 = get_or codes c (pos 0) }
  -- a compare changes only the flags of the monitor at the position, bytes 0 to 3 of status D, and only sets them: a bit that was set is set
  compare-as_long : (table : List ℕ) (position : ℕ) → length (table_after_compare table position) ≡ length table
  compare_only_flags : (table : List ℕ) (position i : ℕ) → (1 ≤ position → Beside flags (position - 1) i)
      → get_or (table_after_compare table position) i 0 ≡ get_or table i 0
  compare_only_sets : (table : List ℕ) (position i : ℕ)
      → bit_or (get_or table i 0) (get_or (table_after_compare table position) i 0) ≡ get_or (table_after_compare table position) i 0
  -- a cell's two flags become what they were with those of its own code raised; those of a cell at -32768 stay
  own-flags : (r : List ℕ) → length r ≡ record_size → (c : ℕ) → c < cell_count → flags_in (compare r) c ≡ bit_or (flags_in r c) (flags_of r c)
  cleared_skipped : (r : List ℕ) → length r ≡ record_size → (c : ℕ) → c < cell_count → is_cleared (code_at r c).0 ≡ true
      → flags_in (compare r) c ≡ flags_in r c
  -- which CLRCELL leaves in every cell
  clrcell_clears : (r : List ℕ) → length r ≡ record_size → (c : ℕ) → c < cell_count → code_at (done Clrcell r) c ≡ record { 0 = negsuc 32767 }
  -- compare twice is compare once; of two stores the second counts; the second is answered as it would have been without the first
  compare_again : (table : List ℕ) (position : ℕ) → table_after_compare (table_after_compare table position) position ≡ table_after_compare table position
  second-compared : (table : List ℕ) (position : ℕ) → compared (table_after_compare table position) position ≡ compared table position
  second-judged : (table : List ℕ) (position : ℕ) (first second : List ℤ)
      → stored (table_after_store table position first) position second ≡ stored table position second
  second_counts : (table : List ℕ) (position : ℕ) (first second : List ℤ) → stored table position second ≡ (Ok tt)
      → table_after_store (table_after_store table position first) position second ≡ table_after_store table position second
  -- a load is a store and a compare: it is answered as its store is, refused by the same number or done; where the store is done so is the
  -- compare after it, and both leave the load's table
  load_as_store : (table : List ℕ) (position : ℕ) (codes : List ℤ) → loaded table position codes ≡ stored table position codes
  compare-after-store : (table : List ℕ) (position : ℕ) (codes : List ℤ) → stored table position codes ≡ (Ok tt)
      → compared (table_after_store table position codes) position ≡ (Ok tt)
  store_and_compare : (table : List ℕ) (position : ℕ) (codes : List ℤ) → stored table position codes ≡ (Ok tt)
      → table_after_compare (table_after_store table position codes) position ≡ table_after_load table position codes
  -- and document 01's load, which skips nothing: a cell's flags become what they were with those of the code given for it raised
  load-flags : (codes : List ℤ) (r : List ℕ) → length r ≡ record_size → (c : ℕ) → c < cell_count → SFits w16 (get_or codes c (pos 0))
      → is_cleared (get_or codes c (pos 0)) ≡ false
      → flags_in (load codes r) c ≡ bit_or (flags_in r c) (flags_for (record { 0 = get_or codes c (pos 0) }) (codes_of (vuv r)) (codes_of (vov r)))
  -- ---- discharge: `discharge::discharge`, the question about the outputs of one monitor

  -- the exact refusals, in their order
  discharge-refusals : (table : List ℕ) (position phase room : ℕ) → discharge_refusals table position phase room
      ≡ (not (sound table) gives TableNotSound)
      ∷ (not (leb 1 position && leb position (monitors table)) gives PositionWrong)
      ∷ (ltb 14 phase gives PositionWrong)
      ∷ (ltb room 16 gives NoRoom)
      ∷ []
  -- none holds: how many are on of the monitor at the position, and the bytes of the sixteen at the start of the buffer; bytes past them stay
  discharge_answer : (table : List ℕ) (position : ℕ) (events : Events) (phase : ℕ) (out : List ℕ) → Passed (discharge_refusals table position phase (length out))
      → (discharged table position events phase (length out) ≡ Ok (count_on events phase (row_at record_size (position - 1) table)))
      × (outputs_after table position events phase out ≡ outputs events phase (row_at record_size (position - 1) table) ++ drop cell_count out)
  -- there are sixteen bytes; cell c's is its own, and tells its row and whether it is on; as many say on as are counted
  sixteen : (events : Events) (phase : ℕ) (r : List ℕ) → length (outputs events phase r) ≡ 16
  own-output : (events : Events) (phase : ℕ) (r : List ℕ) (c : ℕ) → 1 ≤ c → c ≤ cell_count
      → get_or (outputs events phase r) (c - 1) 0 ≡ shown (output_of events phase r c)
  shown-row : (o : Output) → o.row ≤ 7 → shown o % 0x80 ≡ o.row
  shown-on : (o : Output) → o.row ≤ 7 → leb 0x80 (shown o) ≡ o.on
  counted-on : (events : Events) (phase : ℕ) (r : List ℕ) → count_on events phase r ≡ count (leb 0x80) (outputs events phase r)
  -- the rows, from the top: priority, event, and whether the output is then on
  rows_27 : (events : Events) (phase : ℕ) (r : List ℕ) (c : ℕ) → table27 events phase r c
      ≡ record { priority = 7; event = events.shutdown; on = false }
      ∷ record { priority = 6; event = muted r; on = false }
      ∷ record { priority = 5; event = events.wrcfgb; on = false }
      ∷ record { priority = 4; event = dcc r c; on = true }
      ∷ record { priority = 3; event = events.measurement; on = false }
      ∷ record { priority = 2; event = events.wrpwm; on = false }
      ∷ record { priority = 1; event = true; on = ltb phase (duty r c) }
      ∷ []
  -- MUTE_ST, a cell's DCC bit and its duty, by their places in the record; and bits of the sheet's tables, worked out by hand
  mute_at : (r : List ℕ) → muted r ≡ bit_at 4 (get_or r status_bits.at 0)
  dcc-at : (r : List ℕ) (c : ℕ) → 1 ≤ c → c ≤ cell_count → dcc r c ≡ bit_at ((c - 1) % 8) (get_or r (dcc_bits.at + (c - 1) / 8) 0)
  duty-at : (r : List ℕ) (c : ℕ) → 1 ≤ c → c ≤ cell_count → duty r c ≡ get_or r (duty_at c) 0 / 2 ^ duty_bit c % 16
  sheet_bits : SheetBits
  -- a cell's output is what they decide: exactly one of them, and its number is 1 to 7
  by_27 : (events : Events) (phase : ℕ) (r : List ℕ) (c : ℕ) → output_of events phase r c ≡ decided (table27 events phase r c)
  one_row : (events : Events) (phase : ℕ) (r : List ℕ) (c : ℕ) → Decider (table27 events phase r c)
  no_other_row : (rows : List Row) (p q : Row) → Decides rows p → Decides rows q → p ≡ q
  row_range : (events : Events) (phase : ℕ) (r : List ℕ) (c : ℕ) → (1 ≤ (output_of events phase r c).row) × ((output_of events phase r c).row ≤ 7)
  -- on only by row 4 or row 1; a shutdown, a mute and a write of configuration B leave none on, and nothing else stops a cell's own DCC bit
  on-by_4_or_1 : (events : Events) (phase : ℕ) (r : List ℕ) (c : ℕ) → (output_of events phase r c).on ≡ true
      → ((output_of events phase r c).row ≡ 4) ⊎ ((output_of events phase r c).row ≡ 1)
  shutdown_none : (events : Events) (phase : ℕ) (r : List ℕ) → events.shutdown ≡ true → count_on events phase r ≡ 0
  mute_none : (events : Events) (phase : ℕ) (r : List ℕ) → muted r ≡ true → count_on events phase r ≡ 0
  wrcfgb_none : (events : Events) (phase : ℕ) (r : List ℕ) → events.wrcfgb ≡ true → count_on events phase r ≡ 0
  dcc-on : (events : Events) (phase : ℕ) (r : List ℕ) (c : ℕ) → events.shutdown ≡ false → muted r ≡ false → events.wrcfgb ≡ false → dcc r c ≡ true
      → output_of events phase r c ≡ record { row = 4; on = true }
  -- a cell's output goes by no bit of the record but MUTE_ST, its own DCC bit and the four bits of its duty: by none of another cell
  no_other_bit : (r : List ℕ) (c : ℕ) → 1 ≤ c → c ≤ cell_count → (at bit : ℕ) → bit < 8 → (Own c at bit → ⊥) → (events : Events) (phase : ℕ)
      → output_of events phase (flipped at bit r) c ≡ output_of events phase r c
  -- of the fifteen phases a cell that row 1 decides is on in as many as its duty says
  fifteen : phases ≡ 0 ∷ 1 ∷ 2 ∷ 3 ∷ 4 ∷ 5 ∷ 6 ∷ 7 ∷ 8 ∷ 9 ∷ 10 ∷ 11 ∷ 12 ∷ 13 ∷ 14 ∷ []
  on_for_its-duty : (events : Events) (phase : ℕ) (r : List ℕ) (c : ℕ) → (output_of events phase r c).row ≡ 1
      → count (λ p. (output_of events p r c).on) phases ≡ duty r c
  -- after a MUTE, and without a shutdown, every output of every monitor is off by row 6
  mute_answers : (table frame : List ℕ) (room : ℕ) → Passed (frame_refusals table frame room) → command_in frame ≡ Bares Mute
      → (position : ℕ) (events : Events) (phase : ℕ) (out : List ℕ) → events.shutdown ≡ false
      → Passed (discharge_refusals (table_after table frame room) position phase (length out))
      → (discharged (table_after table frame room) position events phase (length out) ≡ Ok 0)
      × (outputs_after (table_after table frame room) position events phase out ≡ replicate cell_count 6 ++ drop cell_count out)
  -- after a MUTE and an UNMUTE every answer is as it was, of a monitor whose MUTE_ST was clear
  unmute_answers : (table mute unmute : List ℕ) (room other : ℕ) → Passed (frame_refusals table mute room) → command_in mute ≡ Bares Mute
      → Passed (frame_refusals (table_after table mute room) unmute other) → command_in unmute ≡ Bares Unmute
      → (position : ℕ) (events : Events) (phase : ℕ) (out : List ℕ) → muted (row_at record_size (position - 1) table) ≡ false
      → (discharged (table_after (table_after table mute room) unmute other) position events phase (length out) ≡ discharged table position events phase (length out))
      × (outputs_after (table_after (table_after table mute room) unmute other) position events phase out ≡ outputs_after table position events phase out)
  -- ---- our host: `host::build`, and the chain that its frames come to

  -- the frame goes to the start of the buffer, and the bytes past it stay
  host_writes : (code n : ℕ) (values buffer : List ℕ) → Passed (build_refusals code n values (length buffer))
      → (built code n values (length buffer) ≡ Ok (length (frame_for code n values)))
      × (buffer_after code n values buffer ≡ frame_for code n values ++ drop (length (frame_for code n values)) buffer)
  -- monitor k's own bytes, the k-th from the end of the frame, are the k-th data of our list with their check
  own_data : (code n : ℕ) (values : List ℕ) (c : Write) → command_of code commands ≡ Writes c → length values ≡ data_size c * n → (k : ℕ) → k < n
      → row_at (width_of (Writes c)) (n - suc k) (drop 4 (frame_for code n values)) ≡ sealed (row_at (data_size c) k values)
  -- the chain accepts the write, all monitors take it that are not in LPCM, all N where none is, and each keeps what the command makes of its own data
  awake_take : (table values buffer : List ℕ) (code : ℕ) (c : Write) → command_of code commands ≡ Writes c → sound table ≡ true
      → length values ≡ data_size c * monitors table
      → answer table (frame_for code (monitors table) values) (length buffer) ≡ took (awake_of (monitors table) table) 0
  all_take : (table values buffer : List ℕ) (code : ℕ) (c : Write) → command_of code commands ≡ Writes c → sound table ≡ true
      → length values ≡ data_size c * monitors table → Awake (monitors table) table
      → answer table (frame_for code (monitors table) values) (length buffer) ≡ took (monitors table) 0
  each_keeps : (table values buffer : List ℕ) (code : ℕ) (c : Write) → command_of code commands ≡ Writes c → sound table ≡ true
      → length values ≡ data_size c * monitors table → (k : ℕ) → k < monitors table
      → row_at record_size k (table_after table (frame_for code (monitors table) values) (length buffer))
      ≡ keeps (Writes c) (sealed (row_at (data_size c) k values)) (row_at record_size k table)
  -- the chain accepts a bare command, and all N monitors take it
  all-take_bare : (table buffer : List ℕ) (code : ℕ) (c : Bare) → command_of code commands ≡ Bares c → sound table ≡ true
      → answer table (frame_for code (monitors table) []) (length buffer) ≡ took (monitors table) 0
  -- the chain accepts the read, and each monitor's part of the reply is what it replies, and right
  all-reply : (table buffer : List ℕ) (code : ℕ) (part : Part) → command_of code commands ≡ Reads part → sound table ≡ true
      → payload_size * monitors table ≤ length buffer
      → answer table (frame_for code (monitors table) []) (length buffer) ≡ took (monitors table) (payload_size * monitors table)
  each-replies : (table buffer : List ℕ) (code : ℕ) (part : Part) → command_of code commands ≡ Reads part → sound table ≡ true
      → payload_size * monitors table ≤ length buffer → (k : ℕ) → k < monitors table
      → row_at payload_size k (reply_after table (frame_for code (monitors table) []) buffer) ≡ reply part (row_at record_size k table)
  each_right : (table buffer : List ℕ) (code : ℕ) (part : Part) → command_of code commands ≡ Reads part → sound table ≡ true
      → payload_size * monitors table ≤ length buffer → (k : ℕ) → k < monitors table
      → payload_right (row_at payload_size k (reply_after table (frame_for code (monitors table) []) buffer)) ≡ true
  -- configuration B, PWM group A and the LPCM configuration written and read back are our list, of each monitor that is not in LPCM; of PWM group B the first two bytes
  -- of each six, and four of FF; of LPCM's thresholds their 36 bits, and 0
  read_back : ReadsBack Wrcfgb rdcfgb as_written
  read_back_pwm_a : ReadsBack Wrpwma rdpwma as_written
  read_back_pwm_b : ReadsBack Wrpwmb rdpwmb fixed_behind-two
  read_back_lpcm : ReadsBack Wrcmcfg rdcmcfg as_written
  read_back_cell-thresholds : ReadsBack Wrcmcellt rdcmcellt three_thresholds
  read_back_gpio_thresholds : ReadsBack Wrcmgpiot rdcmgpiot three_thresholds
  -- `ports::check`: one payload against the counter that the host expects. The exact refusals, in their order
  check-refusals : (payload : List ℕ) (expected : ℕ) → check_refusals payload expected
      ≡ (ltb 63 expected gives PositionWrong) ∷ (not (eqb (length payload) 8) gives LengthWrong) ∷ []
  -- the three verdicts: eight bytes whose check is wrong are damaged, whatever their counter; else they are right, or their counter differs. One of the three
  -- holds, and no other
  verdicts : (eight : List ℕ) (expected : ℕ)
      → (is_damaged eight ≡ not (payload_right eight))
      × (counter_differs eight expected ≡ payload_right eight && not (eqb (counter_of eight) expected))
      × (is_right eight expected ≡ payload_right eight && eqb (counter_of eight) expected)
  three_verdicts : (eight : List ℕ) (expected : ℕ) → count (λ (b : Bool). b) (is_right eight expected ∷ counter_differs eight expected ∷ is_damaged eight ∷ []) ≡ 1
  -- none refused: each is given exactly where it holds, and with a counter that differs the one received
  check_right : (payload : List ℕ) (expected : ℕ) → Passed (check_refusals payload expected) → (checked payload expected ≡ Ok Right) ↔ (is_right payload expected ≡ true)
  check_damaged : (payload : List ℕ) (expected : ℕ) → Passed (check_refusals payload expected) → (checked payload expected ≡ Ok PayloadDamaged) ↔ (is_damaged payload ≡ true)
  check_differs : (payload : List ℕ) (expected : ℕ) → Passed (check_refusals payload expected)
      → (c : ℕ) → (checked payload expected ≡ Ok (CounterDiffers c)) ↔ ((counter_differs payload expected ≡ true) × (c ≡ counter_of payload))
  -- `ports::port_of` and `ports::part_of`: monitor k of two replies, k from 1. The exact refusals, in their order
  port-refusals : (a b : List ℕ) (n k expected : ℕ) → port_refusals a b n k expected
      ≡ (ltb 63 expected gives PositionWrong)
      ∷ (not (leb 1 n && leb n most_monitors && leb 1 k && leb k n) gives PositionWrong)
      ∷ (not (eqb (length a) (8 * n) && eqb (length b) (8 * n)) gives LengthWrong)
      ∷ (is_damaged (part_a a n k) && is_damaged (part_b b n k) gives BothDamaged)
      ∷ []
  -- none holds: port A's part if it is right, else port B's if it is, else A's if only its counter differs, else B's, of which that is then so; and whether it differs
  which_port : (a b : List ℕ) (n k expected : ℕ) → Passed (port_refusals a b n k expected) → port_of a b n k expected
      ≡ Ok (cond (is_right (part_a a n k) expected) (A false) (cond (is_right (part_b b n k) expected) (B false) (cond (counter_differs (part_a a n k) expected) (A true) (B true))))
  last_differs : (a b : List ℕ) (n k expected : ℕ) → Passed (port_refusals a b n k expected)
      → is_right (part_a a n k) expected ≡ false → is_right (part_b b n k) expected ≡ false → counter_differs (part_a a n k) expected ≡ false → counter_differs (part_b b n k) expected ≡ true
  -- what is handed over is that port's part, and nothing where it is refused
  port_hands : (a b : List ℕ) (n k expected : ℕ) → bytes_of a b n k expected ≡ by_port [] (part_a a n k) (part_b b n k) (port_of a b n k expected)
  -- what the chain replies at port A, and from its other end at port B (`from_a`, `from_b`), hands over monitor k's own reply. Its own counter expected: from A
  -- whatever came to B, and from B where A's part is not right. Any counter expected, and told whether it differs: from A where B's part is not right, and from B
  -- where A's is damaged
  port_a : (table buffer : List ℕ) (code : ℕ) (part : Part) → command_of code commands ≡ Reads part → sound table ≡ true
      → length buffer ≡ payload_size * monitors table
      → reply_after table (frame_for code (monitors table) []) buffer ≡ from_a part (monitors table) table
  handed-from_a : (part : Part) (n : ℕ) (table : List ℕ) (k : ℕ) → 1 ≤ k → k ≤ n → n ≤ most_monitors
      → (expected : ℕ) → expected ≤ 63 → expected ≡ byte_of counter (row_at record_size (k - 1) table) → (b : List ℕ) → length b ≡ payload_size * n
      → (port_of (from_a part n table) b n k expected ≡ Ok (A false)) × (bytes_of (from_a part n table) b n k expected ≡ reply part (row_at record_size (k - 1) table))
  handed-from_b : (part : Part) (n : ℕ) (table : List ℕ) (k : ℕ) → 1 ≤ k → k ≤ n → n ≤ most_monitors
      → (expected : ℕ) → expected ≤ 63 → expected ≡ byte_of counter (row_at record_size (k - 1) table) → (a : List ℕ) → length a ≡ payload_size * n
      → is_right (part_a a n k) expected ≡ false
      → (port_of a (from_b part n table) n k expected ≡ Ok (B false)) × (bytes_of a (from_b part n table) n k expected ≡ reply part (row_at record_size (k - 1) table))
  any_from_a : (part : Part) (n : ℕ) (table : List ℕ) (k : ℕ) → 1 ≤ k → k ≤ n → n ≤ most_monitors
      → (expected : ℕ) → expected ≤ 63 → (b : List ℕ) → length b ≡ payload_size * n → is_right (part_b b n k) expected ≡ false
      → (port_of (from_a part n table) b n k expected ≡ Ok (A (not (is_right (reply part (row_at record_size (k - 1) table)) expected))))
      × (bytes_of (from_a part n table) b n k expected ≡ reply part (row_at record_size (k - 1) table))
  any_from_b : (part : Part) (n : ℕ) (table : List ℕ) (k : ℕ) → 1 ≤ k → k ≤ n → n ≤ most_monitors
      → (expected : ℕ) → expected ≤ 63 → (a : List ℕ) → length a ≡ payload_size * n → is_damaged (part_a a n k) ≡ true
      → (port_of a (from_b part n table) n k expected ≡ Ok (B (not (is_right (reply part (row_at record_size (k - 1) table)) expected))))
      × (bytes_of a (from_b part n table) n k expected ≡ reply part (row_at record_size (k - 1) table))
  -- ---- a spike on the wire: what our host's frames do where bits came turned over. `Spike` says what a spike is, `StruckData` and `StruckCommand` which frames
  -- it struck and where

  -- a write other than WRRR, at least one bit of it turned over, all of these within ten places in a row and none in the first four bytes: it is accepted, and
  -- as many monitors take it as were not hit, those whose own bytes came as they were sent, and are not in LPCM; in a chain with none in LPCM, as were not hit
  spike-answer : (table sent came buffer : List ℕ) → sound table ≡ true → (c : Write) → (c ≡ Wrrr → ⊥) → StruckData (Writes c) (monitors table) sent came
      → (answer table came (length buffer) ≡ took (unhit_awake (Writes c) (monitors table) table sent came) 0) × (reply_after table came buffer ≡ buffer)
  spike-answer_awake : (table sent came buffer : List ℕ) → sound table ≡ true → (c : Write) → (c ≡ Wrrr → ⊥) → StruckData (Writes c) (monitors table) sent came
      → Awake (monitors table) table → answer table came (length buffer) ≡ took (unhit_of (Writes c) (monitors table) sent came) 0
  unhit-awake : (table sent came : List ℕ) → sound table ≡ true → (c : Write) → StruckData (Writes c) (monitors table) sent came → Awake (monitors table) table
      → unhit_awake (Writes c) (monitors table) table sent came ≡ unhit_of (Writes c) (monitors table) sent came
  -- those are fewer than N
  spike-not-all : (table sent came : List ℕ) → sound table ≡ true → (c : Write) → StruckData (Writes c) (monitors table) sent came
      → (unhit_of (Writes c) (monitors table) sent came < monitors table) × (unhit_awake (Writes c) (monitors table) table sent came < monitors table)
  -- by bits: a monitor is hit by any bit of its own bytes, and by nothing else. So a spike with bits on both sides of a border of two payloads hits both
  hit_by_bit : (c : Command) (n : ℕ) (sent came : List ℕ) (k : ℕ) → k < n → (i : ℕ) → i < 8 * width_of c
      → (get_or (bits_of_bytes came) (8 * head_size + 8 * ((n - suc k) * width_of c) + i) false ≡ get_or (bits_of_bytes sent) (8 * head_size + 8 * ((n - suc k) * width_of c) + i) false → ⊥)
      → unhit c n sent came k ≡ false
  unhit-by_bits : (c : Command) (n : ℕ) (sent came : List ℕ) (k : ℕ) → k < n → Bytes sent → Bytes came → length came ≡ length sent
      → ((i : ℕ) → i < 8 * width_of c
      → get_or (bits_of_bytes came) (8 * head_size + 8 * ((n - suc k) * width_of c) + i) false ≡ get_or (bits_of_bytes sent) (8 * head_size + 8 * ((n - suc k) * width_of c) + i) false)
      → unhit c n sent came k ≡ true
  -- a monitor that was hit keeps its record, counter included, but for its unlock byte, which becomes 0; so does one in LPCM, hit or not
  spike_hit : (table sent came : List ℕ) (room : ℕ) → sound table ≡ true → (c : Write) → (c ≡ Wrrr → ⊥) → StruckData (Writes c) (monitors table) sent came
      → (k : ℕ) → k < monitors table → unhit (Writes c) (monitors table) sent came k ≡ false
      → row_at record_size k (table_after table came room) ≡ on_bytes unlocked (λ i old. 0) (row_at record_size k table)
  spike_lpcm : (table sent came : List ℕ) (room : ℕ) → sound table ≡ true → (c : Write) → StruckData (Writes c) (monitors table) sent came
      → (k : ℕ) → k < monitors table → in_lpcm (row_at record_size k table) ≡ true
      → row_at record_size k (table_after table came room) ≡ on_bytes unlocked (λ i old. 0) (row_at record_size k table)
  -- one that was not hit does as it does with the frame that was sent
  spike-unhit : (table sent came : List ℕ) (room : ℕ) → sound table ≡ true → (c : Write) → StruckData (Writes c) (monitors table) sent came
      → (k : ℕ) → k < monitors table → unhit (Writes c) (monitors table) sent came k ≡ true
      → row_at record_size k (table_after table came room) ≡ row_at record_size k (table_after table sent room)
  -- WRRR needs no check, so none protects it: all take it and count that are not in LPCM, and one of them that was unlocked stores its own six bytes as they came
  spike_wrrr : (table sent came buffer : List ℕ) → sound table ≡ true → StruckData (Writes Wrrr) (monitors table) sent came
      → (answer table came (length buffer) ≡ took (awake_of (monitors table) table) 0) × (reply_after table came buffer ≡ buffer)
  spike_wrrr_unlocked : (table sent came : List ℕ) (room : ℕ) → sound table ≡ true → StruckData (Writes Wrrr) (monitors table) sent came
      → (k : ℕ) → k < monitors table → in_lpcm (row_at record_size k table) ≡ false → byte_of unlocked (row_at record_size k table) ≡ 1
      → row_at record_size k (table_after table came room)
      ≡ on_bytes retention (λ i old. get_or (own_in (Writes Wrrr) (monitors table) came k) i 0) (counted (locked (row_at record_size k table)))
  spike_wrrr_locked : (table sent came : List ℕ) (room : ℕ) → sound table ≡ true → StruckData (Writes Wrrr) (monitors table) sent came
      → (k : ℕ) → k < monitors table → in_lpcm (row_at record_size k table) ≡ false → (byte_of unlocked (row_at record_size k table) ≡ 1 → ⊥)
      → row_at record_size k (table_after table came room) ≡ counted (locked (row_at record_size k table))
  -- any frame, for any number of monitors, at least one bit of its first four bytes turned over, and all that were, there or behind them, within fifteen places
  -- in a row: it is refused with 3, and nothing changes
  spike-refused : (table sent came buffer : List ℕ) → sound table ≡ true → (c : Command) (n : ℕ) → StruckCommand c n sent came
      → (answer table came (length buffer) ≡ Err CommandWrong) × (table_after table came (length buffer) ≡ table) × (reply_after table came buffer ≡ buffer)
  -- and no further: examples of both, and eleven places behind a command and sixteen in one that get through
  sharp : Sharp
  -- ---- a missed command: what a read that our host builds shows of a command that came before it (`read_after`)

  -- a reply of a monitor with a counter of at most 63, as a sound record has, is right against that counter, and against any other its counter differs and is the
  -- one told; and so is each monitor's part of the chain's reply
  own-counter : (part : Part) (r : List ℕ) → byte_of counter r ≤ 63 → checked (reply part r) (byte_of counter r) ≡ Ok Right
  other_counter : (part : Part) (r : List ℕ) (expected : ℕ) → expected ≤ 63 → byte_of counter r ≤ 63 → (expected ≡ byte_of counter r → ⊥)
      → checked (reply part r) expected ≡ Ok (CounterDiffers (byte_of counter r))
  each-own-counter : (table buffer : List ℕ) (code : ℕ) (part : Part) → command_of code commands ≡ Reads part → sound table ≡ true
      → payload_size * monitors table ≤ length buffer → (k : ℕ) → k < monitors table
      → checked (row_at payload_size k (reply_after table (frame_for code (monitors table) []) buffer)) (byte_of counter (row_at record_size k table)) ≡ Ok Right
  each_other_counter : (table buffer : List ℕ) (code : ℕ) (part : Part) → command_of code commands ≡ Reads part → sound table ≡ true
      → payload_size * monitors table ≤ length buffer → (k : ℕ) → k < monitors table → (expected : ℕ) → expected ≤ 63
      → (expected ≡ byte_of counter (row_at record_size k table) → ⊥)
      → checked (row_at payload_size k (reply_after table (frame_for code (monitors table) []) buffer)) expected ≡ Ok (CounterDiffers (byte_of counter (row_at record_size k table)))
  -- a counter and the next after it, which is never the same
  next-count : (n : ℕ) → next_count n ≡ cond (ltb n 63) (n + 1) 1
  next-apart : (n : ℕ) → next_count n ≡ n → ⊥
  -- a write that came with its length and its first four bytes, and at each monitor with its own bytes as they were sent or with a wrong check (`Spoilt`): one that
  -- a spike struck at each of some monitors (`StruckEach`) is such a write, and one that a single spike struck is one of those
  struck_each : (c : Write) (n : ℕ) (sent came : List ℕ) → StruckData (Writes c) n sent came → StruckEach c n sent came
  each_spoilt : (c : Write) (n : ℕ) (sent came : List ℕ) → StruckEach c n sent came → Spoilt c n sent came
  -- the monitors that were hit are then exactly those whose check is wrong
  right-unhit : (table sent came : List ℕ) → sound table ≡ true → (c : Write) → Spoilt c (monitors table) sent came → (k : ℕ) → k < monitors table
      → sealed_right (data_size c) (own_in (Writes c) (monitors table) came k) ≡ unhit (Writes c) (monitors table) sent came k
  -- after it the counter of a monitor that was not hit and is not in LPCM is the next one, and that of any other as it was; WRRR is excepted
  counter-after : (table sent came : List ℕ) (room : ℕ) → sound table ≡ true → (c : Write) → (c ≡ Wrrr → ⊥) → Spoilt c (monitors table) sent came
      → (k : ℕ) → k < monitors table
      → let r = row_at record_size k table in
      byte_of counter (row_at record_size k (table_after table came room))
      ≡ cond (not (in_lpcm r) && unhit (Writes c) (monitors table) sent came k) (next_count (byte_of counter r)) (byte_of counter r)
  -- so in any chain, each monitor read and judged against its next counter: those whose counter differs are exactly those that were hit and those in LPCM, each with
  -- its old counter, and all others are right. In the chain's reply, and from both ports (`EachSeen`)
  missed_read : (table sent came : List ℕ) (room : ℕ) → sound table ≡ true → (c : Write) → (c ≡ Wrrr → ⊥) → Spoilt c (monitors table) sent came
      → (code : ℕ) (part : Part) (buffer : List ℕ) → command_of code commands ≡ Reads part → payload_size * monitors table ≤ length buffer → (k : ℕ) → k < monitors table
      → let r = row_at record_size k table in
      checked (row_at payload_size k (read_after table came room code buffer)) (next_count (byte_of counter r))
      ≡ Ok (cond (not (in_lpcm r) && unhit (Writes c) (monitors table) sent came k) Right (CounterDiffers (byte_of counter r)))
  missed_at_ports : (table sent came : List ℕ) (room : ℕ) → sound table ≡ true → (c : Write) → (c ≡ Wrrr → ⊥) → Spoilt c (monitors table) sent came
      → (part : Part) → EachSeen c part table sent came (table_after table came room)
  -- a missed write is seen: all N monitors have one counter and none is in LPCM. Against the next counter exactly the monitors that were hit are seen with another,
  -- which is the old one, and all others right, from port A and from port B; and some monitor is seen so where any bit was turned over
  missed_seen : (table sent came : List ℕ) (room : ℕ) → sound table ≡ true → (c : Write) → (c ≡ Wrrr → ⊥) → Spoilt c (monitors table) sent came
      → (old : ℕ) → OneCounter (monitors table) table old → Awake (monitors table) table → (part : Part) (k : ℕ) → 1 ≤ k → k ≤ monitors table
      → SeenAs part (monitors table) (table_after table came room) k (next_count old) (unhit (Writes c) (monitors table) sent came (k - 1)) old
  some-seen : (table sent came : List ℕ) (room : ℕ) → sound table ≡ true → (c : Write) → (c ≡ Wrrr → ⊥) → Spoilt c (monitors table) sent came
      → (came ≡ sent → ⊥) → (old : ℕ) → OneCounter (monitors table) table old → Awake (monitors table) table → (part : Part)
      → SomeDiffer part (monitors table) (table_after table came room) (next_count old) old
  -- one of them by its bytes
  one_missed : OneMissed
  -- what comes to port A there is what the chain leaves in a buffer of that length for a read that our host builds
  read_from_a : (table frame buffer : List ℕ) (room code : ℕ) (part : Part) → command_of code commands ≡ Reads part → sound table ≡ true
      → length buffer ≡ payload_size * monitors table
      → read_after table frame room code buffer ≡ from_a part (monitors table) (table_after table frame room)
  -- a frame that the chain refuses, among them any with a spike in its command, is missed by all: against the next counter, which a write or a bare command other
  -- than RSTCC lets a host expect, every monitor's reply differs, and tells the old one
  refused_read : (table frame : List ℕ) (room : ℕ) → sound table ≡ true → (refusal : Refusal) → answer table frame room ≡ Err refusal
      → (code : ℕ) (part : Part) (buffer : List ℕ) → command_of code commands ≡ Reads part → payload_size * monitors table ≤ length buffer → (k : ℕ) → k < monitors table
      → let r = row_at record_size k table in
      checked (row_at payload_size k (read_after table frame room code buffer)) (next_count (byte_of counter r)) ≡ Ok (CounterDiffers (byte_of counter r))
  refused-seen : (table frame : List ℕ) (room : ℕ) → sound table ≡ true → (refusal : Refusal) → answer table frame room ≡ Err refusal
      → (part : Part) (k : ℕ) → 1 ≤ k → k ≤ monitors table
      → let r = row_at record_size (k - 1) table in
      SeenAs part (monitors table) (table_after table frame room) k (next_count (byte_of counter r)) false (byte_of counter r)
  command-seen : (table sent came : List ℕ) (room : ℕ) → sound table ≡ true → (c : Command) (n : ℕ) → StruckCommand c n sent came
      → (part : Part) (k : ℕ) → 1 ≤ k → k ≤ monitors table
      → let r = row_at record_size (k - 1) table in
      SeenAs part (monitors table) (table_after table came room) k (next_count (byte_of counter r)) false (byte_of counter r)
  -- why WRRR is excepted: it is taken whatever its check, so a monitor not in LPCM that was hit counts it too, and its reply is right against the next counter
  wrrr_unseen : (table sent came : List ℕ) (room : ℕ) → sound table ≡ true → Spoilt Wrrr (monitors table) sent came → (k : ℕ) → k < monitors table
      → in_lpcm (row_at record_size k table) ≡ false
      → (code : ℕ) (part : Part) (buffer : List ℕ) → command_of code commands ≡ Reads part → payload_size * monitors table ≤ length buffer
      → checked (row_at payload_size k (read_after table came room code buffer)) (next_count (byte_of counter (row_at record_size k table))) ≡ Ok Right
  -- a monitor that receives a write takes either right: data with the check over them and any counter are accepted by every monitor that is not in LPCM, and it keeps
  -- the same of all of them; and so are, of a write of six bytes, own bytes that are right against a counter, and own bytes whose counter differs
  any_accepted : (c : Write) (own r : List ℕ) → length own ≡ data_size c → (i : ℕ) → accepts c (own ++ seal own i) r ≡ not (in_lpcm r)
  any_kept : (c : Write) (own r : List ℕ) → length own ≡ data_size c → (i j : ℕ) → keeps (Writes c) (own ++ seal own i) r ≡ keeps (Writes c) (own ++ seal own j) r
  right-accepted : (c : Write) (own r : List ℕ) (expected : ℕ) → (c ≡ Clrcmflag → ⊥) → is_right own expected ≡ true → accepts c own r ≡ not (in_lpcm r)
  differs_accepted : (c : Write) (own r : List ℕ) (expected : ℕ) → (c ≡ Clrcmflag → ⊥) → counter_differs own expected ≡ true → accepts c own r ≡ not (in_lpcm r)
  -- ---- LPCM: one monitor's turn in a heartbeat, `heartbeats::wake`, `heartbeats::reach` and `heartbeats::run_out`. A heartbeat is no frame

  -- who manages, who is a timeout monitor, how many devices, and which way: by the configuration
  roles : (r : List ℕ)
      → (is_manager r ≡ in_lpcm r && bit_at 7 (byte_in lpcm_configuration r 0))
      × (is_timeout r ≡ in_lpcm r && not (bit_at 7 (byte_in lpcm_configuration r 0)) && bit_at 3 (byte_in lpcm_configuration r 0))
      × (ndev r ≡ byte_in lpcm_configuration r 1)
      × (towards_a r ≡ bit_at 5 (byte_in lpcm_configuration r 4))
  -- a manager that wakes measures, and starts with one less than the devices, in eight bits, if it passes, and with its own flags; no other monitor wakes
  manager-wakes : (r : List ℕ) → is_manager r ≡ true
      → (woken r ≡ measured r) × (wakes r ≡ sends (cond (passes r) ((ndev r + 255) % 256) (ndev r)) (byte_of cmf0 (measured r)))
  no_manager_sleeps : (r : List ℕ) → is_manager r ≡ false → (woken r ≡ r) × (wakes r ≡ None)
  -- any other monitor in LPCM that a right message reaches measures, counts one down if it passes, joins its flags, and sends on
  monitor-sends_on : (r message : List ℕ) → in_lpcm r ≡ true → manages r ≡ false → message_right message ≡ true → is_timeout r ≡ false
      → (reached message r ≡ measured r)
      × (answers message r ≡ sends (cond (passes r) ((count_in message + 255) % 256) (count_in message)) (bit_or (flagsByte message) (byte_of cmf0 (measured r))))
  -- a timeout monitor takes its own step, sends nothing on, and judges: a pass clears its two flags in CMF1, anything else sets bit 0. The time running out sets bit 1
  timeout_judges : (r message : List ℕ) → in_lpcm r ≡ true → manages r ≡ false → message_right message ≡ true → is_timeout r ≡ true
      → (reached message r
      ≡ on_bytes cmf1 (λ i old. cond (is_pass (cond (passes r) ((count_in message + 255) % 256) (count_in message)) (bit_or (flagsByte message) (byte_of cmf0 (measured r)))) (bit_and old 0xFC) (bit_or old 0x01)) (measured r))
      × (answers message r ≡ None)
  time_runs_out : (r : List ℕ) → (is_timeout r ≡ true → late r ≡ on_bytes cmf1 (λ i old. bit_or old 0x02) r) × (is_timeout r ≡ false → late r ≡ r)
  -- a manager takes no message in, a monitor not in LPCM stops it, and one that is not right is ignored: nothing changes, and nothing goes on
  manager-left : (r message : List ℕ) → manages r ≡ true → (reached message r ≡ r) × (answers message r ≡ None)
  awake_left : (r message : List ℕ) → in_lpcm r ≡ false → (reached message r ≡ r) × (answers message r ≡ None)
  wrong_left : (r message : List ℕ) → message_right message ≡ false → (reached message r ≡ r) × (answers message r ≡ None)
  -- no turn changes more than CMF0, CMF1 and the last measurement, so counter and byte 69 stay, and CMC_EN stays
  turn_spares : (r message : List ℕ) (p : Part) → Apart p cmf0 → Apart p cmf1 → Apart p last_cells
      → (part_of p (woken r) ≡ part_of p r) × (part_of p (reached message r) ≡ part_of p r) × (part_of p (late r) ≡ part_of p r)
  turn_lpcm : (r message : List ℕ) → length r ≡ record_size
      → (in_lpcm (woken r) ≡ in_lpcm r) × (in_lpcm (reached message r) ≡ in_lpcm r) × (in_lpcm (late r) ≡ in_lpcm r)
  -- the sheet's chain of six, and both ends of a timeout monitor's verdict
  turns : Turns
  -- ---- LPCM: a heartbeat in a chain, `passing::wake`, `passing::relay`, `passing::heartbeat` and `passing::time_out`. Positions
  -- count from 1; k is one less, as the records lie

  -- the exact refusals, in their order; a whole heartbeat's are a wake's. 6 is given also where nothing would be sent
  wake-refusals : (table : List ℕ) (position room : ℕ) → wake_refusals table position room
      ≡ (not (sound table) gives TableNotSound) ∷ (not (leb 1 position && leb position (monitors table)) gives PositionWrong) ∷ (ltb room 8 gives NoRoom) ∷ []
  relay-refusals : (table : List ℕ) (position bytes room : ℕ) → relay_refusals table position bytes room
      ≡ (not (sound table) gives TableNotSound)
      ∷ (not (leb 1 position && leb position (monitors table)) gives PositionWrong)
      ∷ (not (eqb bytes 8) gives LengthWrong)
      ∷ (ltb room 8 gives NoRoom)
      ∷ []
  time-out-refusals : (table : List ℕ) (position : ℕ) → time_out_refusals table position
      ≡ (not (sound table) gives TableNotSound) ∷ (not (leb 1 position && leb position (monitors table)) gives PositionWrong) ∷ []
  -- none holds: the monitor at the position takes its turn. Its record becomes what that makes of it, and every other stays (`Turned`); what it sends is handed out;
  -- and the answer tells the end that it is sent towards, whether it is sent on, or whether it is a timeout monitor at which the time ran out
  wake_done : (table : List ℕ) (position : ℕ) (out : List ℕ) → Passed (wake_refusals table position (length out))
      → let r = row_at record_size (position - 1) table in
      (woken_at table position (length out) ≡ Ok (sent_towards r (bytes_sent (wakes r))))
      × (out_after_wake table position out ≡ handed_out (bytes_sent (wakes r)) out)
      × Turned table position (table_after_wake table position (length out)) (woken r)
  relay_done : (table : List ℕ) (position : ℕ) (message out : List ℕ) → Passed (relay_refusals table position (length message) (length out))
      → let r = row_at record_size (position - 1) table in
      (relayed_at table position message (length out) ≡ Ok (sent_on (bytes_sent (answers message r))))
      × (out_after_relay table position message out ≡ handed_out (bytes_sent (answers message r)) out)
      × Turned table position (table_after_relay table position message (length out)) (reached message r)
  time_out_done : (table : List ℕ) (position : ℕ) → Passed (time_out_refusals table position)
      → let r = row_at record_size (position - 1) table in
      (timed_out table position ≡ Ok (cond (is_timeout r) RanOut NoTimeoutMonitor)) × Turned table position (table_after_time_out table position) (late r)
  -- a message is handed out at the start of the buffer, and the bytes past its eight stay; where nothing is sent all of them do
  nothing_handed : (out : List ℕ) → handed_out [] out ≡ out
  message-handed : (c f : ℕ) (out : List ℕ) → handed_out (message c f) out ≡ message c f ++ drop 8 out
  nothing_told : (r : List ℕ) → (sent_towards r [] ≡ None) × (sent_on [] ≡ Stopped)
  message-told : (r : List ℕ) (c f : ℕ) → (sent_towards r (message c f) ≡ cond (towards_a r) (Some EndA) (Some EndB)) × (sent_on (message c f) ≡ SentOn)
  -- a whole heartbeat hands out what leaves the chain, and leaves what every monitor's turn leaves: from the one that wakes to the others on its way, nearest
  -- to it first, each reached by what the one before it sent. Towards port A its way goes down to the first monitor, else up to the last
  beat_done : (table : List ℕ) (position : ℕ) (out : List ℕ) → Passed (wake_refusals table position (length out))
      → (beaten table position (length out) ≡ Ok (sent_towards (row_at record_size (position - 1) table) (beat_sends (position - 1) table)))
      × (out_after_beat table position out ≡ handed_out (beat_sends (position - 1) table) out)
      × (table_after_beat table position (length out) ≡ beat_leaves (position - 1) table)
  ways : (n k : ℕ) → (way true n k ≡ tabulate (λ i. k - suc i) 0 k) × (way false n k ≡ tabulate (λ i. k + suc i) 0 (n - suc k))
  -- and that is what `passing::wake` and then `passing::relay` at each position on the way leave and hand out, a buffer lent anew for each (`sent_by_turns`,
  -- `left_by_turns`), until nothing is handed out
  in_turn : (table : List ℕ) (position : ℕ) (out : List ℕ) → Passed (wake_refusals table position (length out))
      → (table_after_beat table position (length out) ≡ left_by_turns out table position)
      × (out_after_beat table position out ≡ handed_out (sent_by_turns out table position) out)
      × (beaten table position (length out) ≡ Ok (sent_towards (row_at record_size (position - 1) table) (sent_by_turns out table position)))
  -- where the one that is to wake is no manager in LPCM nothing is sent, and nothing changes
  beat_none : (k : ℕ) (table : List ℕ) → is_manager (row_at record_size k table) ≡ false → (beat_sends k table ≡ []) × (beat_leaves k table ≡ table)
  -- a manager at the end that it sends away from, the far one towards the host or the near one, and every other monitor in LPCM, no manager and no timeout monitor
  -- (`Guarded`, `FromTheEnd`), for every N: the message arrives. CMC_NDEV, a byte, less its count, in eight bits, is how many passed, which is N exactly where all
  -- did, and its flags are the union of all. Where CMC_NDEV is N + 42 (hex) the verdict is `passed` exactly where all did; with any other it never is, so that no
  -- monitor can be missing. And every monitor was measured
  beat_arrives : (toA : Bool) (k : ℕ) (table : List ℕ) → Guarded toA k table → FromTheEnd toA k (monitors table) → ndev (row_at record_size k table) < 256
      → beat_sends k table ≡ message (less (ndev (row_at record_size k table)) (count passes (rows record_size (monitors table) table))) (union (rows record_size (monitors table) table))
  beat_number : (toA : Bool) (k : ℕ) (table : List ℕ) → Guarded toA k table → FromTheEnd toA k (monitors table)
      → let passed = count passes (rows record_size (monitors table) table) in
      ndev (row_at record_size k table) < 256 → less (ndev (row_at record_size k table)) (less (ndev (row_at record_size k table)) passed) ≡ passed
  beat_all : (table : List ℕ)
      → (count passes (rows record_size (monitors table) table) ≡ monitors table) ↔ (all passes (rows record_size (monitors table) table) ≡ true)
  beat_passed : (toA : Bool) (k : ℕ) (table : List ℕ) → Guarded toA k table → FromTheEnd toA k (monitors table) → ndev (row_at record_size k table) ≡ monitors table + 0x42
      → (verdict (beat_sends k table) false ≡ Ok Good) ↔ (all passes (rows record_size (monitors table) table) ≡ true)
  beat_exactly : (toA : Bool) (k : ℕ) (table : List ℕ) → Guarded toA k table → FromTheEnd toA k (monitors table) → ndev (row_at record_size k table) < 256
      → (verdict (beat_sends k table) false ≡ Ok Good)
      ↔ ((all passes (rows record_size (monitors table) table) ≡ true) × (ndev (row_at record_size k table) ≡ monitors table + 0x42))
  beat_measures : (toA : Bool) (k : ℕ) (table : List ℕ) → Guarded toA k table → FromTheEnd toA k (monitors table) → (j : ℕ) → j < monitors table
      → row_at record_size j (beat_leaves k table) ≡ measured (row_at record_size j table)
  -- in such a chain, wherever the manager is: a message that is struck behind h hops (`Struck`: one bit or more, within ten places in a row of the last four bytes or
  -- within fifteen of the first four) comes to nothing, and the table stays as it then is, in which every monitor from there on is as it was (`beat_untouched`);
  -- struck on its way out it is damaged in the host's eyes
  beat_struck : (toA : Bool) (k : ℕ) (table : List ℕ) → Guarded toA k table → (h : ℕ) → h < hops toA (monitors table) k → (came : List ℕ)
      → Struck (sent_along (take h (way_from k table)) (wake_sends k table) (wake_leaves k table)) came
      → let left = left_along (take h (way_from k table)) (wake_sends k table) (wake_leaves k table) in
      (sent_along (drop h (way_from k table)) came left ≡ []) × (left_along (drop h (way_from k table)) came left ≡ left)
  beat_untouched : (toA : Bool) (k : ℕ) (table : List ℕ) → Guarded toA k table → (h j : ℕ) → h ≤ j → j < hops toA (monitors table) k
      → row_at record_size (behind toA k j) (left_along (take h (way_from k table)) (wake_sends k table) (wake_leaves k table)) ≡ row_at record_size (behind toA k j) table
  beat_struck_last : (toA : Bool) (k : ℕ) (table : List ℕ) → Guarded toA k table → (came : List ℕ) → Struck (beat_sends k table) came → verdict came false ≡ Ok Damaged
  -- in any chain, a monitor not in LPCM anywhere on the way: nothing leaves the chain
  beat_stopped : (k : ℕ) (table : List ℕ) → sound table ≡ true → k < monitors table
      → let toA = towards_a (row_at record_size k table) in
      (i : ℕ) → i < hops toA (monitors table) k → in_lpcm (row_at record_size (behind toA k i) table) ≡ false → beat_sends k table ≡ []
  -- N of 2 or more, a manager at the far end that sends towards the host, a timeout monitor nearest it, and between them monitors in LPCM that are neither (`Watched`),
  -- CMC_NDEV N + 42 (hex): the timeout monitor's two flags are clear afterwards exactly where all N passed
  beat_watched : (k : ℕ) (table : List ℕ) → Watched k table → ndev (row_at record_size k table) ≡ monitors table + 0x42
      → let watch = byte_of cmf1 (row_at record_size 0 (beat_leaves k table)) in
      ((bit_at 0 watch ≡ false) × (bit_at 1 watch ≡ false)) ↔ (all passes (rows record_size (monitors table) table) ≡ true)
  -- such chains there are: two of two, written down
  chains : Examples
  -- ---- the host's verdict on a heartbeat: `messages::verdict_on`, of the bytes that came and whether the time ran out, yes or no

  -- the exact refusal: another length than eight, but for nothing at all with the time run out
  verdict-refusals : (bytes : List ℕ) (late : Bool) → verdict_refusals bytes late
      ≡ (not (eqb (length bytes) 8 || (late && eqb (length bytes) 0)) gives LengthWrong) ∷ []
  -- each verdict is given exactly where what it says is so. Count and flags are bytes four and five
  verdict-refused : (bytes : List ℕ) (late : Bool) (r : Refusal)
      → (verdict bytes late ≡ Err r) ↔ ((r ≡ LengthWrong) × (length bytes ≡ 8 → ⊥) × ((late ≡ true) × (length bytes ≡ 0) → ⊥))
  verdict-timed_out : (bytes : List ℕ) (late : Bool) → (verdict bytes late ≡ Ok TimedOut) ↔ ((late ≡ true) × ((length bytes ≡ 8) ⊎ (length bytes ≡ 0)))
  verdict_damaged : (bytes : List ℕ) (late : Bool) → (verdict bytes late ≡ Ok Damaged) ↔ ((late ≡ false) × (length bytes ≡ 8) × (message_right bytes ≡ false))
  verdict-passed : (bytes : List ℕ) (late : Bool)
      → (verdict bytes late ≡ Ok Good) ↔ ((late ≡ false) × (message_right bytes ≡ true) × (get_or bytes 4 0 ≡ 0x42) × (get_or bytes 5 0 ≡ 0))
  verdict_failed : (bytes : List ℕ) (late : Bool) (c f : ℕ)
      → (verdict bytes late ≡ Ok (Failed c f))
      ↔ ((late ≡ false) × (message_right bytes ≡ true) × (get_or bytes 4 0 ≡ c) × (get_or bytes 5 0 ≡ f) × ((c ≡ 0x42) × (f ≡ 0) → ⊥))
  -- `messages::message`: the command that monitors send, its check, count and flags, and their check. It is right
  message_sent : (c f : ℕ) → message c f ≡ 0x00 ∷ 0x43 ∷ 0x47 ∷ 0xB2 ∷ (c ∷ f ∷ []) ++ seal (c ∷ f ∷ []) 0
  message-right : (c f : ℕ) → message_right (message c f) ≡ true
  message-passed : (c f : ℕ) → (verdict (message c f) false ≡ Ok Good) ↔ ((c ≡ 0x42) × (f ≡ 0))
  message_failed : (c f : ℕ) → ((c ≡ 0x42) × (f ≡ 0) → ⊥) → verdict (message c f) false ≡ Ok (Failed c f)
  -- a right message, at least one bit turned over, all of these within ten places in a row, or in its last four bytes, whatever came of the first: it is damaged; and
  -- so are eight bytes of which bits of the first four were turned over within fifteen places, whatever came behind
  message_hit : (sent came : List ℕ) → message_right sent ≡ true → Spike 10 sent came → verdict came false ≡ Ok Damaged
  message_hit_data : (sent came : List ℕ) → message_right sent ≡ true → Spike 10 (drop 4 sent) (drop 4 came) → verdict came false ≡ Ok Damaged
  message_hit_command : (sent came : List ℕ) → message_right sent ≡ true → Spike 15 (take 4 sent) (take 4 came) → length came ≡ 8 → verdict came false ≡ Ok Damaged
  -- ---- document 01's fourteen worked examples

  examples : EitherSide

pub demand_2 : Demand2
unfolding command_of commands own_in frame_refusals store_refusals compare_refusals load_refusals discharge_refusals muted snapped in_lpcm byte_of locked done shown_cells outputs tabulate phases table27 output_of keeps reply wake_refusals relay_refusals time_out_refusals hops behind way passing verdict_refusals count_in flagsByte violates cuv cov manages is_manager is_timeout ndev towards_a check_refusals counter_row port_refusals is_damaged counter_differs is_right chosen bytes_of next_count
demand_2 =
    record {
      refusals = λ table frame room. refl;
      refused = frame_refused;
      write_answer = write_answer;
      write_answer_awake = write_answer_awake;
      wrrr_answer = wrrr_answer;
      awake_all = awake_all;
      read_answer = read_answer;
      bare_answer = bare_answer;
      own_record = record_after;
      six_data = six_but_clrcmflag;
      two_data = refl;
      widths = λ c. refl;
      read_keeps = λ part eight r. refl;
      bare_keeps = λ c eight r. refl;
      right-keeps = keeps-right;
      wrong_keeps = λ c other own r wrong. keeps_wrong c own r (needs_but_wrrr c other) wrong;
      lpcm_keeps = keeps-none;
      wrrr_unlocked = wrrr_unlocked;
      wrrr_locked = wrrr_locked;
      ulrr_unlocks = ulrr_unlocks;
      retained = retained;
      not_retained = not_retained;
      spares = keeps_spares;
      as_before = as_before;
      front_awake = front_awake;
      sizes = (refl, refl, refl, refl);
      replies_as_before = reply_as_before;
      pwm_stays = pwm_stays;
      pwm_a_stays = a_stays;
      pwm_b_stays = b_stays;
      copy_long = refl;
      copy_last = refl;
      snap_st_at = λ r. refl;
      snap_takes = snap_takes;
      snap_again = snap_again;
      unsnap = λ eight r. refl;
      snap_st = snap_st;
      snap_copies = snap_copies;
      copy_stays = copy_stays;
      snap_again_shows = snap_again_shows;
      store_snap = λ codes r. (store_snap_st codes r, store_copy codes r);
      compare_snap = λ r. (compare_snap_st r, compare_copy r);
      cell-reads = refl;
      shown-cells = λ r. refl;
      cells-shown = shows_the_cells;
      other_shown = shows_as_it_lies;
      the_others = refl;
      lpcm_places = (refl, refl, refl, refl, refl);
      lpcm_at = λ r. refl;
      clrcmflag_long = λ n. (refl, refl);
      cmhb_unlisted = refl;
      last-long = refl;
      last-last = refl;
      cmen_enables = cmen_enables;
      cmen_again = cmen_again;
      cmdis = λ own r. refl;
      cmc_en = enabled-after;
      clrcmflag_clears = clrcmflag_clears;
      cmf0_stays = cmf0_stays;
      last_stays = last_stays;
      last_taken = last-cells;
      measured-as_long = length-measured;
      measured-sound = sound-measured;
      measured_spares = measured_spares;
      measured-last = last-measured;
      cuv-kind = λ r c. refl;
      cov-kind = λ r c. refl;
      cdvn_kind = λ r c. refl;
      cdvp_kind = λ r c. refl;
      flags_stay = flags_stay;
      violation_shows = violation_shows;
      pending_shows = pending_shows;
      nothing_else = nothing_else;
      passes_where = passes_where;
      passed_clear = passed_clear;
      passed_nothing_pending = passed_nothing_pending;
      passed_nothing_violated = passed_nothing_violated;
      measurements = measurements;
      roles = λ r. (refl, refl, refl, refl);
      manager-wakes = manager-wakes;
      no_manager_sleeps = no_manager_sleeps;
      monitor-sends_on = monitor-sends_on;
      timeout_judges = timeout_judges;
      time_runs_out = time_runs_out;
      manager-left = manager-left;
      awake_left = awake_left;
      wrong_left = wrong_left;
      turn_spares = λ r message p h k l. (woken_spares r p h l, reached_spares r message p h k l, late_spares r p k);
      turn_lpcm = λ r message whole. (woken_lpcm r, reached_lpcm r message whole, late_lpcm r whole);
      turns = turns;
      stays_sound = frame-keeps;
      own-reply = reply-own;
      past_reply = reply_past;
      write_no_reply = write_no_reply;
      bare_no_reply = bare_no_reply;
      reply-holds = λ part r. refl;
      reply-is_right = reply-right;
      store-refusals = λ table position codes. refl;
      compare-refusals = λ table position. refl;
      load-refusals = λ table position codes. refl;
      store-done = store-done;
      own-store = store-own;
      store-others = store-others;
      compare-done = compare-done;
      own-compare = compare-own;
      compare-others = compare-others;
      load-done = load-done;
      own-load = load-own;
      others_stay = load-others;
      store_stays_sound = λ table position codes s. store_keeps table position s codes;
      compare_stays_sound = compare-keeps;
      load_stays_sound = λ table position codes s. load-keeps table position s codes;
      store-as_long = store-as_long;
      store_only_cells = store_only_cells;
      own_code = own_code;
      compare-as_long = compare-as_long;
      compare_only_flags = compare_only_flags;
      compare_only_sets = compare_only_sets;
      own-flags = own-flags;
      cleared_skipped = cleared_skipped;
      clrcell_clears = clrcell_clears;
      compare_again = compare_again;
      second-compared = second-compared;
      second-judged = second-judged;
      second_counts = second_counts;
      load_as_store = as_stored;
      compare-after-store = compare-after-store;
      store_and_compare = store_and_compare;
      load-flags = load-flags;
      discharge-refusals = λ table position phase room. refl;
      discharge_answer = discharge_answer;
      sixteen = λ events phase r. refl;
      own-output = own-output;
      shown-row = row-shown;
      shown-on = on-shown;
      counted-on = count-shown;
      rows_27 = λ events phase r c. refl;
      mute_at = λ r. refl;
      dcc-at = dcc-at;
      duty-at = duty-at;
      sheet_bits = sheet_bits;
      by_27 = λ events phase r c. refl;
      one_row = its-row;
      no_other_row = one_decides;
      row_range = row_range;
      on-by_4_or_1 = on-by_4_or_1;
      shutdown_none = shutdown_none;
      mute_none = mute_none;
      wrcfgb_none = wrcfgb_none;
      dcc-on = dcc-on;
      no_other_bit = λ r c first last at bit small other events phase. no_other_bit r c first last at bit small other events phase;
      fifteen = refl;
      on_for_its-duty = on_for_its-duty;
      mute_answers = mute_answers;
      unmute_answers = unmute_answers;
      host_writes = host_writes;
      own_data = own_data;
      awake_take = write_taken;
      all_take = write_taken_by-all;
      each_keeps = each-keeps-its-own;
      all-take_bare = bare_taken_by-all;
      all-reply = read_taken_by-all;
      each-replies = each-reply-its-own;
      each_right = each-reply-right;
      read_back = b_read_back;
      read_back_pwm_a = pwm_a_read_back;
      read_back_pwm_b = pwm_b_read_back;
      read_back_lpcm = lpcm_read_back;
      read_back_cell-thresholds = cell-thresholds_read_back;
      read_back_gpio_thresholds = gpio_thresholds_read_back;
      check-refusals = λ payload expected. refl;
      verdicts = λ eight expected. (refl, refl, refl);
      three_verdicts = three_verdicts;
      check_right = checked-right;
      check_damaged = checked_damaged;
      check_differs = checked_differs;
      port-refusals = λ a b n k expected. refl;
      which_port = port_chosen;
      last_differs = last_differs;
      port_hands = λ a b n k expected. refl;
      port_a = the_replies;
      handed-from_a = handed-from_a;
      handed-from_b = handed-from_b;
      any_from_a = any_from_a;
      any_from_b = any_from_b;
      spike-answer = λ table sent came buffer s c other struck.
          (struck_answer table s c (struck_spoilt struck) other (length buffer), struck_no_reply table s c (struck_spoilt struck) buffer);
      spike-answer_awake = λ table sent came buffer s c other struck awake. struck_answer_awake table s c (struck_spoilt struck) other awake (length buffer);
      unhit-awake = λ table sent came s c struck. awake_unhit table s c (struck_spoilt struck);
      spike-not-all = λ table sent came s c struck.
          (struck_some table s c (struck_spoilt struck) (spike-some struck.spike), struck_fewer table s c (struck_spoilt struck) (spike-some struck.spike));
      hit_by_bit = λ c n sent came k h. hit_by_bit c n sent came k;
      unhit-by_bits = λ c n sent came k h. unhit-by_bits c n sent came k;
      spike_hit = λ table sent came room s c other struck k h. struck_hit table s c (struck_spoilt struck) room k h other;
      spike_lpcm = λ table sent came room s c struck k h. struck_lpcm table s c (struck_spoilt struck) room k h;
      spike-unhit = λ table sent came room s c struck k h. struck_unhit table s c (struck_spoilt struck) room k h;
      spike_wrrr = λ table sent came buffer s struck. (struck_wrrr_answer table s struck (length buffer), struck_no_reply table s Wrrr (struck_spoilt struck) buffer);
      spike_wrrr_unlocked = λ table sent came room s struck k h. struck_wrrr_stores table s struck room k h;
      spike_wrrr_locked = λ table sent came room s struck k h. struck_wrrr_locked table s struck room k h;
      spike-refused = λ table sent came buffer s c n struck. struck_refused struck table buffer s;
      sharp = sharp;
      own-counter = reply-same;
      other_counter = reply_differs;
      each-own-counter = own-counter-right;
      each_other_counter = other_counter_differs;
      next-count = λ n. refl;
      next-apart = next-apart;
      struck_each = λ c n sent came. struck_each;
      each_spoilt = λ c n sent came. each_spoilt;
      right-unhit = λ table sent came s c spoilt. right-unhit table s c spoilt;
      counter-after = λ table sent came room s c other spoilt. counter-after table s c spoilt room other;
      missed_read = λ table sent came room s c other spoilt code part buffer. missed_in_reply table s c spoilt room other part code buffer;
      missed_at_ports = λ table sent came room s c other spoilt. missed_at_ports table s c spoilt room other;
      missed_seen = λ table sent came room s c other spoilt. missed_seen table s c spoilt room other;
      some-seen = λ table sent came room s c other spoilt turned old one awake part. some-seen table s c spoilt room other old one awake part turned;
      one_missed = one_missed;
      read_from_a = read_from_a;
      refused_read = λ table frame room s r refused code part buffer. refused_in_reply table frame room s r refused part code buffer;
      refused-seen = refused-seen;
      command-seen = λ table sent came room s c n struck. refused-seen table came room s CommandWrong (struck_refused_any struck table room s);
      wrrr_unseen = λ table sent came room s spoilt k h awake code part buffer. wrrr_unseen table s spoilt room k h awake part code buffer;
      any_accepted = any_accepted;
      any_kept = any_kept;
      right-accepted = right-accepted;
      differs_accepted = differs_accepted;
      wake-refusals = λ table position room. refl;
      relay-refusals = λ table position bytes room. refl;
      time-out-refusals = λ table position. refl;
      wake_done = wake_done;
      relay_done = relay_done;
      time_out_done = time_done;
      nothing_handed = nothing_handed;
      message-handed = message-handed;
      nothing_told = nothing_told;
      message-told = message-told;
      beat_done = beat_done;
      ways = λ n k. (refl, refl);
      in_turn = λ table position out none. in_turn table position out (wake_placed table position (length out) none) (wake_room table position (length out) none);
      beat_none = no_beat;
      beat_arrives = arrives;
      beat_number = number;
      beat_all = exactly_all;
      beat_passed = beat_passed;
      beat_exactly = verdict_exactly;
      beat_measures = all-measured;
      beat_struck = struck_hop;
      beat_untouched = untouched;
      beat_struck_last = struck_last;
      beat_stopped = stopped;
      beat_watched = watched;
      chains = chain-examples;
      verdict-refusals = λ bytes late. refl;
      verdict-refused = λ bytes late r. exactly bytes late (Err r);
      verdict-timed_out = λ bytes late. exactly bytes late (Ok TimedOut);
      verdict_damaged = λ bytes late. exactly bytes late (Ok Damaged);
      verdict-passed = λ bytes late. exactly bytes late (Ok Good);
      verdict_failed = λ bytes late c f. exactly bytes late (Ok (Failed c f));
      message_sent = message-bytes;
      message-right = message-right;
      message-passed = sent_passed;
      message_failed = sent_failed;
      message_hit = damaged_by-spike;
      message_hit_data = damaged_by_data;
      message_hit_command = damaged_by-command;
      examples = either_side;
    }
