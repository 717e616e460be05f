-- Demand 3. For 1 to 32 monitors, a sound table and any list of frames with operations on the table between them, readings stored and compared and heartbeats
-- in their parts and as a whole, the whole-frame engine and the clocked engine end in the same table and give the same answers, reply bytes and lent buffers,
-- both judged by the rules of demand 2.
-- So by either engine what is said of whole runs: MUTE and UNMUTE, that a long read in a snapshot is of one moment, what a spike can do, and that a missed
-- write is seen.
-- What the three runs are stands in specs/Runs.antt. By going along the events: one event by either engine is one by the rules
-- (Runs.antt), and the number of monitors stays, so that the reply buffer keeps its room.
-- Assumes nothing.
use mathlib.Core.Path.{◌≡◌, refl, sym, ap, ap₂, ◌∙◌, subst, subst⁻¹}
use mathlib.Core.Bool.{Bool, true, false, cond}
use mathlib.Core.List.{List, [], ◌∷◌, ◌++◌, map}
use mathlib.Core.Logic.{inl, inr}
use Prim.Native.Nat.{ℕ, ◌-◌, ◌*◌, ◌≤◌, ◌<◌}
use native.Mathlib.Omega.{arith}
use lib.Dec.{lit≤}
use lib.IntN.{ℤ}
use lib.ListN.{length, take, drop, replicate, length-replicate}
use lib.Seq.{take_all}
use Rattle.laws.specs.Rows.{rows, row_at}
use Rattle.pec.proofs.Spikes.{spike-some}
use Rattle.wire.specs.Order.{reply_data}
use Rattle.refusals.specs.declared.Refusal.{Refusal}
use Rattle.refusals.specs.declared.Refusal.TheVariants.{TableNotSound, CommandWrong}
use Rattle.refusals.specs.Order.{Passed}
use Rattle.records.specs.declared.commands.Bare.{Bare}
use Rattle.records.specs.declared.commands.Bare.TheVariants.{Mute, Unmute, Snap, Unsnap, Cmen}
use Rattle.records.specs.declared.commands.Command.{Command}
use Rattle.records.specs.declared.commands.Command.TheVariants.{Reads, Writes, Bares}
use Rattle.records.specs.declared.commands.Write.{Write}
use Rattle.records.specs.declared.commands.Write.TheVariants.{Wrrr}
use Rattle.records.specs.declared.record.Part.{Part}
use Rattle.records.specs.Record.{cell_count, cells, snapshot, last_cells, record_size, unlocked, snapped, in_lpcm, bytes_of as part_of, on_bytes}
use Rattle.monitor.specs.Effects.{locked, keeps}
use Rattle.monitor.specs.Spares.{Spares}
use Rattle.monitor.proofs.Keeping.{keeps-none}
use Rattle.records.specs.Commands.{commands, command_of, most_monitors, payload_size}
use Rattle.reads.specs.Shown.{of_cells, shown_cells}
use Rattle.reads.specs.Reply.{six_bytes, six_in, reply}
use Rattle.chain.specs.declared.frames.Answer.{Answer}
use Rattle.judging.specs.Table.{monitors, sound}
use Rattle.judging.specs.Refusals.{command_in}
use Rattle.serving.specs.Served.{awake_of}
use Rattle.chain.specs.Frame.{answer, table_after, reply_after}
use Rattle.chain.proofs.Refused.{refused-table}
use Rattle.chain.proofs.Room.{stop_unsound}
use Rattle.judging.proofs.Keeps.{Keeps}
use Rattle.chain.proofs.FrameKeeps.{sound-after-frame, monitors-after-frame}
use Rattle.chain.proofs.Outcome.{the_table}
use Rattle.judging.proofs.Soundness.{is_sound}
use Rattle.loads.specs.Load.{stored, table_after_store, table_after_compare, loaded, table_after_load}
use Rattle.loads.proofs.Judging.{as_stored}
use Rattle.loads.proofs.Refused.{refused-store, refused-load}
use Rattle.loads.proofs.Halves.{compare-after-store, store_and_compare}
use Rattle.priorities.specs.declared.outputs.Events.{Events}
use Rattle.priorities.specs.Switches.{muted}
use Rattle.discharge.specs.Question.{discharge_refusals, discharged, outputs_after}
use Rattle.clocking.specs.Clock.{Clock, chained_by, clocked}
use Rattle.releasing.specs.Release.{released, table_released}
use Rattle.clock_state.specs.State.{state_size, idle}
use Rattle.clocking.specs.Bytes.{clock_of, state_after}
use Rattle.clocking.proofs.View.{view}
use Rattle.clocked.proofs.Whole.{released_read}
use Rattle.host.specs.Frames.{frame_for}
use Rattle.story.specs.Runs.{Store, Compare, Event, Frame, Beside, Seen, Answered, StoreAnswered, CompareAnswered, Left, saw, reply_bytes, Step, rule_refusals, by_rules, promised, by_frames, state_after_all, came_back, by_bytes, Engine, WholeFrames, ClockedBytes, Ready, by}
use Rattle.story.specs.Spikes.{StruckData, StruckCommand, own_in, unhit, unhit_awake, Spoilt}
use Rattle.story.specs.Missed.{from_a, EachSeen}
use Rattle.story.specs.Snapshots.{Without, reply_at, shown_at, shown_behind, ReadIn, LongRead, long_shown}
use Rattle.story.proofs.Along.{rules_keep, bare_passes, write_passes, ruled-frame}
use Rattle.story.proofs.Accepted.{record_at, kept_at}
use Rattle.story.proofs.Lpcm.{enabled-after, last-cells}
use Rattle.story.proofs.OneMoment.{lent_read, frozen_read, one_moment, behind_front, no_unsnap, live_read, cells_left}
use Rattle.story.proofs.ByteFour.{only_byte_four, at_byte_four, noted_stays, another-n}
use Rattle.story.proofs.Muting.{mute_answers, unmute_answers}
use Rattle.story.proofs.Spoilt.{struck_answer, struck_fewer, struck_hit, struck_unhit, struck_kept}
use Rattle.story.proofs.OurHost.{read_taken_by-all}
use Rattle.story.proofs.BothEnds.{the_replies}
use Rattle.story.proofs.Missed.{missed_at_ports}
use Rattle.story.proofs.Spikes.{struck_spoilt, struck_wrrr_answer, struck_refused}
use Rattle.story.proofs.Operations.{operation_step, operation_monitors}
use Rattle.story.proofs.Runs.{frame_step, length-replies, length-after, full, has_room, clock-whole, back_whole, clocked-step}
use Rattle.std.specs.Prelude.{Result, Ok, Err}
use Rattle.chain.specs.Frame.{took}

-- ---- the demand. It asks for a sound table; the engines agree on any: one that is not sound is refused by both

pub record Demand3 : Type 0 where
  -- a sound table has 1 to 32 monitors
  one_to_32 : (table : List ℕ) → sound table ≡ true → (1 ≤ monitors table) × (monitors table ≤ most_monitors)
  -- `chain::handle`, lent any reply buffer with room for eight bytes a monitor, and the functions of the operations (`loads::store`, `loads::compare`,
  -- `passing::wake`, `passing::relay`, `passing::heartbeat` and `passing::time_out`) do what the rules say
  by-frames : (table buffer : List ℕ) (events : List Event) → payload_size * monitors table ≤ length buffer
      → by_frames table buffer events ≡ by_rules table events
  -- `clocked::start`, `clocked::clock` and `clocked::release`, lent any state, and the functions of the operations do what the rules say
  by-bytes : (table state : List ℕ) (events : List Event) → by_bytes table state events ≡ by_rules table events
  -- so the two engines end in the same table and give the same answers and reply bytes
  alike : (table buffer state : List ℕ) (events : List Event) → payload_size * monitors table ≤ length buffer
      → by_frames table buffer events ≡ by_bytes table state events
  -- a load, `loads::load`, is a store and a compare: where it is done the events after it find what both leave, and where it is refused
  -- what its store leaves, which is refused by the same number
  load-done : (table : List ℕ) (position : ℕ) (codes : List ℤ) (events : List Event) → loaded table position codes ≡ (Ok tt)
      → by_rules table (Beside (Store position codes) ∷ Beside (Compare position) ∷ events)
      ≡ saw (StoreAnswered (Ok tt)) (saw (CompareAnswered (Ok tt)) (by_rules (table_after_load table position codes) events))
  load-refused : (table : List ℕ) (position : ℕ) (codes : List ℤ) (events : List Event) (r : Refusal) → loaded table position codes ≡ Err r
      → by_rules table (Beside (Store position codes) ∷ events) ≡ saw (StoreAnswered (Err r)) (by_rules (table_after_load table position codes) events)
  -- so through either engine, after a MUTE and without a shutdown every output of every monitor is off by row 6
  mute : (engine : Engine) (table frame : List ℕ) → Ready engine table → Passed (rule_refusals table frame) → command_in frame ≡ Bares Mute
      → (position : ℕ) (events : Events) (phase : ℕ) (out : List ℕ) → events.shutdown ≡ false
      → let after = (by engine table (Frame frame ∷ [])).table in
      Passed (discharge_refusals after position phase (length out))
      → (discharged after position events phase (length out) ≡ Ok 0) × (outputs_after after position events phase out ≡ replicate cell_count 6 ++ drop cell_count out)
  -- and after a MUTE and an UNMUTE every answer is as it was, of a monitor whose MUTE_ST was clear
  unmute : (engine : Engine) (table first second : List ℕ) → Ready engine table → Passed (rule_refusals table first) → command_in first ≡ Bares Mute
      → Passed (rule_refusals (by engine table (Frame first ∷ [])).table second) → command_in second ≡ Bares Unmute
      → (position : ℕ) (events : Events) (phase : ℕ) (out : List ℕ) → muted (row_at record_size (position - 1) table) ≡ false
      → let after = (by engine table (Frame first ∷ Frame second ∷ [])).table in
      (discharged after position events phase (length out) ≡ discharged table position events phase (length out))
      × (outputs_after after position events phase out ≡ outputs_after table position events phase out)
  -- through either engine, after a SNAP: the six cell reads, wherever they stand among the events that follow it, with no UNSNAP before them and whatever
  -- else, together show of every monitor the cells as they stood at the SNAP, and where its SNAP_ST was set the copy that was there; FF in register F's
  -- last four
  one_moment : (engine : Engine) (table snap : List ℕ) → Ready engine table → Passed (rule_refusals table snap) → command_in snap ≡ Bares Snap
      → (events : List Event) (reads : LongRead events table) (k : ℕ) → k < monitors table
      → long_shown reads k (by engine table (Frame snap ∷ events)).seen ≡ shown_cells (row_at record_size k table) ++ replicate 4 0xFF
  -- and each of them, however often it stands there, its own part
  frozen_read : (engine : Engine) (table snap : List ℕ) → Ready engine table → Passed (rule_refusals table snap) → command_in snap ≡ Bares Snap
      → (events : List Event) (p : Part) → of_cells p ≡ true → (read : ReadIn Unsnap events table p) → (k : ℕ) → k < monitors table
      → shown_behind read.before k (by engine table (Frame snap ∷ events)).seen ≡ six_in p (shown_cells (row_at record_size k table))
  -- so of a snapshot that was lent, without a SNAP
  lent_read : (engine : Engine) (table : List ℕ) → Ready engine table → (k : ℕ) → k < monitors table → snapped (row_at record_size k table) ≡ true
      → (events : List Event) (p : Part) → of_cells p ≡ true → (read : ReadIn Unsnap events table p)
      → shown_at k (reply_at (length read.before) (by engine table events).seen) ≡ six_in p (part_of snapshot (row_at record_size k table))
  -- a second SNAP in between changes no cell read: the same one, with it and without. (Of another read it may: it locks the retention, so that a WRRR
  -- behind it stores nothing, and it counts)
  second_snap : (engine : Engine) (table snap : List ℕ) → Ready engine table → Passed (rule_refusals table snap) → command_in snap ≡ Bares Snap
      → (front rest : List Event) (second : List ℕ) → Without Unsnap front → command_in second ≡ Bares Snap → (p : Part) → of_cells p ≡ true
      → (read : ReadIn Unsnap rest table p) → (k : ℕ) → k < monitors table
      → shown_behind (front ++ Frame second ∷ read.before) k (by engine table (Frame snap ∷ front ++ Frame second ∷ rest)).seen
      ≡ shown_behind (front ++ read.before) k (by engine table (Frame snap ∷ front ++ rest)).seen
  -- after an UNSNAP, and with no SNAP between it and the read, a read shows its part of the record as it then is: of the cells the live ones. (A run that
  -- goes on with an UNSNAP is one that begins with it, from the table that the events before it leave)
  live_read : (engine : Engine) (table unsnap : List ℕ) → Ready engine table → Passed (rule_refusals table unsnap) → command_in unsnap ≡ Bares Unsnap
      → (events : List Event) (p : Part) (read : ReadIn Snap events table p) → (k : ℕ) → k < monitors table
      → shown_behind read.before k (by engine table (Frame unsnap ∷ events)).seen
      ≡ six_bytes p (row_at record_size k (by engine table (Frame unsnap ∷ read.before)).table)
  -- neither command changes the live cells
  snap_leaves : (engine : Engine) (table snap : List ℕ) → Ready engine table → Passed (rule_refusals table snap) → command_in snap ≡ Bares Snap → (k : ℕ) → k < monitors table
      → part_of cells (row_at record_size k (by engine table (Frame snap ∷ [])).table) ≡ part_of cells (row_at record_size k table)
  unsnap_leaves : (engine : Engine) (table unsnap : List ℕ) → Ready engine table → Passed (rule_refusals table unsnap) → command_in unsnap ≡ Bares Unsnap → (k : ℕ) → k < monitors table
      → part_of cells (row_at record_size k (by engine table (Frame unsnap ∷ [])).table) ≡ part_of cells (row_at record_size k table)
  -- LPCM, through either engine: no write changes a monitor that is in LPCM, but for its unlock byte, which becomes 0. CMEN brings each
  -- monitor into LPCM, and one that was not has its live cells as the last measurement
  lpcm_no_write : (engine : Engine) (table write : List ℕ) → Ready engine table → Passed (rule_refusals table write) → (c : Write) → command_in write ≡ Writes c
      → (k : ℕ) → k < monitors table → in_lpcm (row_at record_size k table) ≡ true
      → row_at record_size k (by engine table (Frame write ∷ [])).table ≡ on_bytes unlocked (λ i old. 0) (row_at record_size k table)
  lpcm_enabled : (engine : Engine) (table cmen : List ℕ) → Ready engine table → Passed (rule_refusals table cmen) → command_in cmen ≡ Bares Cmen
      → (k : ℕ) → k < monitors table
      → (in_lpcm (row_at record_size k (by engine table (Frame cmen ∷ [])).table) ≡ true)
      × (part_of last_cells (row_at record_size k (by engine table (Frame cmen ∷ [])).table) ≡ cond (in_lpcm (row_at record_size k table)) (part_of last_cells (row_at record_size k table)) (part_of cells (row_at record_size k table)))
  -- a spike on the wire, through either engine (a run goes on from the table that the frame leaves). A write of our host other than WRRR, struck within ten places
  -- in a row behind its first four bytes: as many take it as were not hit and are not in LPCM, which is not all; one that was not hit is left as by the frame that
  -- was sent, and one that was hit as it was, but for its unlock byte, which becomes 0
  spike_data : (engine : Engine) (table sent came : List ℕ) → Ready engine table → sound table ≡ true → (c : Write) → (c ≡ Wrrr → ⊥)
      → StruckData (Writes c) (monitors table) sent came
      → ((by engine table (Frame came ∷ [])).seen ≡ Answered (took (unhit_awake (Writes c) (monitors table) table sent came) 0) [] ∷ [])
      × (unhit_awake (Writes c) (monitors table) table sent came < monitors table)
      × ((k : ℕ) → k < monitors table
      → row_at record_size k (by engine table (Frame came ∷ [])).table
      ≡ cond (unhit (Writes c) (monitors table) sent came k) (row_at record_size k (by engine table (Frame sent ∷ [])).table) (on_bytes unlocked (λ i old. 0) (row_at record_size k table)))
  -- WRRR, so struck: all take it that are not in LPCM, and each keeps what the command makes of its own eight bytes as they came
  spike_wrrr : (engine : Engine) (table sent came : List ℕ) → Ready engine table → sound table ≡ true → StruckData (Writes Wrrr) (monitors table) sent came
      → ((by engine table (Frame came ∷ [])).seen ≡ Answered (took (awake_of (monitors table) table) 0) [] ∷ [])
      × ((k : ℕ) → k < monitors table
      → row_at record_size k (by engine table (Frame came ∷ [])).table ≡ keeps (Writes Wrrr) (own_in (Writes Wrrr) (monitors table) came k) (row_at record_size k table))
  -- any frame of our host, its first four bytes struck within fifteen places in a row: refused with 3, and the events after it find the table as it was
  spike-command : (engine : Engine) (table sent came : List ℕ) (events : List Event) → Ready engine table → sound table ≡ true → (c : Command) (n : ℕ)
      → StruckCommand c n sent came → by engine table (Frame came ∷ events) ≡ saw (Answered (Err CommandWrong) []) (by engine table events)
  -- a missed write, through either engine: one that came with some monitors' checks wrong, and then a read that our host builds. As many take it as were not hit and are
  -- not in LPCM, and the read has what all monitors reply; against its next counter each monitor that took the write is seen right from both ports, and any other
  -- with its old counter
  missed_write : (engine : Engine) (table sent came : List ℕ) → Ready engine table → sound table ≡ true → (c : Write) → (c ≡ Wrrr → ⊥)
      → Spoilt c (monitors table) sent came → (code : ℕ) (part : Part) → command_of code commands ≡ Reads part
      → let n = monitors table in
      let after = (by engine table (Frame came ∷ [])).table in
      ((by engine table (Frame came ∷ Frame (frame_for code n []) ∷ [])).seen
      ≡ Answered (took (unhit_awake (Writes c) n table sent came) 0) [] ∷ Answered (took n (payload_size * n)) (from_a part n after) ∷ [])
      × EachSeen c part table sent came after
  -- at every byte, not only at a release, the bytes of the state stand for the windows as the rules move them
  every_byte : (table : List ℕ) (byte : ℕ) (state : List ℕ) → length state ≡ state_size
      → clock_of (state_after table byte state) ≡ clocked table byte (clock_of state)
  -- N, and whether the command is known, are taken from the table lent with byte four: no other byte looks at a table
  only_byte_four : (table other : List ℕ) (byte : ℕ) (c : Clock) → (c.seen ≡ 3 → ⊥) → clocked table byte c ≡ clocked other byte c
  at_byte_four : (table : List ℕ) (byte : ℕ) (c : Clock) → c.seen ≡ 3 → (clocked table byte c).chained ≡ cond (sound table) (monitors table) 0
  noted_stays : (table : List ℕ) (byte : ℕ) (c : Clock) → (c.seen ≡ 3 → ⊥) → (clocked table byte c).chained ≡ c.chained
  -- a release with a table of another N, or after one that was not sound at byte four (0 was noted), is refusal 1
  another-n : (c : Clock) (table : List ℕ) → 4 ≤ c.seen → (c.chained ≡ monitors table → ⊥) → released c table ≡ Err TableNotSound
  -- of an accepted read all that came back after byte four is the reply, and no byte is left over
  all_is_reply : (table frame : List ℕ) (taken bytes : ℕ) (part : Part) → command_in frame ≡ Reads part
      → released (clock_of (state_after_all table frame idle)) table ≡ took taken bytes
      → drop 4 (came_back table frame idle) ≡ reply_data (map (reply part) (rows record_size (monitors table) table))
  -- the table that they end in is sound where the first was, and has as many monitors
  stays_sound : (table : List ℕ) (events : List Event) → sound table ≡ true → Keeps table (by_rules table events).table

-- ---- the number of monitors stays

module _ (table : List ℕ) where
  -- where the table is sound, and where it is not: then it stays
  either-table : {after : List ℕ} → (sound table ≡ true → monitors after ≡ monitors table) → (sound table ≡ false → after ≡ table)
      → monitors after ≡ monitors table
  either-table {after} kept stays = by (sound table) refl
    where
      by : (b : Bool) → sound table ≡ b → monitors after ≡ monitors table
      by true e = kept e
      by false e = ap monitors (stays e)

  as_many_frame : (frame buffer : List ℕ) → monitors (table_after table frame (length buffer)) ≡ monitors table
  as_many_frame frame buffer =
      either-table (monitors-after-frame table frame (length buffer)) (λ e. the_table table frame buffer (stop_unsound table frame (length buffer) e))

-- ---- along the events

-- one event, and what the later ones leave
along-rules : (events : List Event) {later : Left} {step one : Step} → step ≡ one → later ≡ by_rules step.table events
    → saw step.seen later ≡ saw one.seen (by_rules one.table events)
along-rules events {later} {step} p q = ap (saw step.seen) q ∙ ap (λ (s : Step). saw s.seen (by_rules s.table events)) p

frames_by_rules : (table buffer : List ℕ) (events : List Event) → payload_size * monitors table ≤ length buffer
    → by_frames table buffer events ≡ by_rules table events
unfolding by_frames by_rules
frames_by_rules table buffer [] room = refl
frames_by_rules table buffer (Frame frame ∷ events) room =
    along-rules events (frame_step table frame buffer room)
    (frames_by_rules (table_after table frame (length buffer)) (reply_after table frame buffer) events
    (omega (arith, as_many_frame table frame buffer, length-after table frame buffer room)))
frames_by_rules table buffer (Beside operation ∷ events) room =
    along-rules events (operation_step table operation)
    (frames_by_rules (promised table operation).table buffer events (omega (arith, operation_monitors table operation)))

bytes-by_rules : (table state : List ℕ) (events : List Event) → by_bytes table state events ≡ by_rules table events
unfolding by_bytes by_rules
bytes-by_rules table state [] = refl
bytes-by_rules table state (Frame frame ∷ events) = along-rules events (clocked-step table frame) (bytes-by_rules (table_released (clock_of (state_after_all table frame idle)) table) idle events)
bytes-by_rules table state (Beside operation ∷ events) = along-rules events (operation_step table operation) (bytes-by_rules (promised table operation).table state events)

-- ---- a load, by its halves

module _ (table : List ℕ) (position : ℕ) (codes : List ℤ) (events : List Event) where
  halves_by_rules : loaded table position codes ≡ (Ok tt)
      → by_rules table (Beside (Store position codes) ∷ Beside (Compare position) ∷ events)
      ≡ saw (StoreAnswered (Ok tt)) (saw (CompareAnswered (Ok tt)) (by_rules (table_after_load table position codes) events))
  unfolding by_rules promised
  halves_by_rules e =
      let done = sym (as_stored table position codes) ∙ e in
      let after = table_after_store table position codes in
      sym (along-rules (Beside (Compare position) ∷ events) (operation_step table (Store position codes)) refl)
      ∙ ap (saw (StoreAnswered (stored table position codes))) (sym (along-rules events (operation_step after (Compare position)) refl))
      ∙ ap₂ (λ (a b : Result (Unit {0}) Refusal). saw (StoreAnswered a) (saw (CompareAnswered b) (by_rules (table_after_compare after position) events))) done (compare-after-store table position codes done)
      ∙ ap (λ (t : List ℕ). saw (StoreAnswered (Ok tt)) (saw (CompareAnswered (Ok tt)) (by_rules t events))) (store_and_compare table position codes done)

  refused-by_rules : (r : Refusal) → loaded table position codes ≡ Err r
      → by_rules table (Beside (Store position codes) ∷ events) ≡ saw (StoreAnswered (Err r)) (by_rules (table_after_load table position codes) events)
  unfolding by_rules promised
  refused-by_rules r e =
      let refused = sym (as_stored table position codes) ∙ e in
      sym (along-rules events (operation_step table (Store position codes)) refl)
      ∙ ap₂ (λ (a : Result (Unit {0}) Refusal) (t : List ℕ). saw (StoreAnswered a) (by_rules t events)) refused
      (refused-store table position codes r refused ∙ sym (refused-load table position codes r e))

-- ---- MUTE and UNMUTE, by either engine

either-by_rules : (engine : Engine) (table : List ℕ) (events : List Event) → Ready engine table → by engine table events ≡ by_rules table events
either-by_rules (WholeFrames buffer) table events room = frames_by_rules table buffer events room
either-by_rules (ClockedBytes state) table events room = bytes-by_rules table state events

module _ (engine : Engine) (table frame : List ℕ) (ready : Ready engine table) where
  one_frame : (by engine table (Frame frame ∷ [])).table ≡ table_after table frame (length (full table))
  one_frame = ap (λ (left : Left). left.table) (either-by_rules engine table (Frame frame ∷ []) ready) ∙ ruled-frame table frame

  two_frames : (second : List ℕ) → (by engine table (Frame frame ∷ Frame second ∷ [])).table
      ≡ table_after (table_after table frame (length (full table))) second (length (full (table_after table frame (length (full table)))))
  unfolding by_rules
  two_frames second =
      ap (λ (left : Left). left.table) (either-by_rules engine table (Frame frame ∷ Frame second ∷ []) ready)
      ∙ ap (λ (t : List ℕ). (by_rules t (Frame second ∷ [])).table) (ruled-frame table frame)
      ∙ ruled-frame (table_after table frame (length (full table))) second

  mute_by : Passed (rule_refusals table frame) → command_in frame ≡ Bares Mute → (position : ℕ) (events : Events) (phase : ℕ) (out : List ℕ) → events.shutdown ≡ false
      → let after = (by engine table (Frame frame ∷ [])).table in
      Passed (discharge_refusals after position phase (length out))
      → (discharged after position events phase (length out) ≡ Ok 0) × (outputs_after after position events phase out ≡ replicate cell_count 6 ++ drop cell_count out)
  mute_by passed its position events phase out up =
      subst⁻¹
      (λ (t : List ℕ).
      Passed (discharge_refusals t position phase (length out))
      → (discharged t position events phase (length out) ≡ Ok 0) × (outputs_after t position events phase out ≡ replicate cell_count 6 ++ drop cell_count out))
      one_frame (mute_answers table frame (length (full table)) (bare_passes table frame Mute its passed (length (full table))) its position events phase out up)

  unmute_by : (second : List ℕ) → Passed (rule_refusals table frame) → command_in frame ≡ Bares Mute
      → Passed (rule_refusals (by engine table (Frame frame ∷ [])).table second) → command_in second ≡ Bares Unmute
      → (position : ℕ) (events : Events) (phase : ℕ) (out : List ℕ) → muted (row_at record_size (position - 1) table) ≡ false
      → let after = (by engine table (Frame frame ∷ Frame second ∷ [])).table in
      (discharged after position events phase (length out) ≡ discharged table position events phase (length out))
      × (outputs_after after position events phase out ≡ outputs_after table position events phase out)
  unmute_by second passed its passed-too its-too position events phase out was =
      let between = table_after table frame (length (full table)) in
      let then : Passed (rule_refusals between second) = subst (λ (t : List ℕ). Passed (rule_refusals t second)) one_frame passed-too in
      subst⁻¹
      (λ (t : List ℕ).
      (discharged t position events phase (length out) ≡ discharged table position events phase (length out))
      × (outputs_after t position events phase out ≡ outputs_after table position events phase out))
      (two_frames second)
      (unmute_answers table frame second (length (full table)) (length (full between)) (bare_passes table frame Mute its passed (length (full table))) its
      (bare_passes between second Unmute its-too then (length (full between))) its-too position events phase out was)

-- ---- snapshots, by either engine

module _ (engine : Engine) (table first : List ℕ) (ready : Ready engine table) where
  -- what is seen of a run, and of a read in it
  seen_by : (events : List Event) → (by engine table events).seen ≡ (by_rules table events).seen
  seen_by events = ap (λ (left : Left). left.seen) (either-by_rules engine table events ready)

  behind-by : (k : ℕ) (events before : List Event) → shown_behind before k (by engine table (Frame first ∷ events)).seen ≡ shown_behind before k (by_rules table (Frame first ∷ events)).seen
  behind-by k events before = ap (shown_behind before k) (seen_by (Frame first ∷ events))

  frozen-by : Passed (rule_refusals table first) → command_in first ≡ Bares Snap → (events : List Event) (p : Part) → of_cells p ≡ true
      → (read : ReadIn Unsnap events table p) → (k : ℕ) → k < monitors table
      → shown_behind read.before k (by engine table (Frame first ∷ events)).seen ≡ six_in p (shown_cells (row_at record_size k table))
  frozen-by passed its events p of-them read k h = behind-by k events read.before ∙ frozen_read table first passed its k h events p of-them read

  left_by : (c : Bare) → Spares (Bares c) cells → Passed (rule_refusals table first) → command_in first ≡ Bares c → (k : ℕ) → k < monitors table
      → part_of cells (row_at record_size k (by engine table (Frame first ∷ [])).table) ≡ part_of cells (row_at record_size k table)
  left_by c spares passed its k h =
      ap (λ (left : Left). part_of cells (row_at record_size k left.table)) (either-by_rules engine table (Frame first ∷ []) ready)
      ∙ cells_left c spares table first passed its k h

-- ---- LPCM, by either engine

module _ (engine : Engine) (table frame : List ℕ) (ready : Ready engine table) (passed : Passed (rule_refusals table frame)) (k : ℕ) (h : k < monitors table) where
  abbrev before : List ℕ
  before = row_at record_size k table

  no_write_by : (c : Write) → command_in frame ≡ Writes c → in_lpcm before ≡ true → row_at record_size k (by engine table (Frame frame ∷ [])).table ≡ locked before
  no_write_by c its e =
      ap (row_at record_size k) (one_frame engine table frame ready)
      ∙ kept_at table frame (length (full table)) (write_passes table frame c its passed (length (full table))) its k h
      ∙ keeps-none c _ before e

  enabled-by : command_in frame ≡ Bares Cmen
      → (in_lpcm (row_at record_size k (by engine table (Frame frame ∷ [])).table) ≡ true)
      × (part_of last_cells (row_at record_size k (by engine table (Frame frame ∷ [])).table) ≡ cond (in_lpcm before) (part_of last_cells before) (part_of cells before))
  enabled-by its =
      let none = bare_passes table frame Cmen its passed (length (full table)) in
      let whole = record_at table frame (length (full table)) none k h in
      let after = ap (row_at record_size k) (one_frame engine table frame ready) ∙ kept_at table frame (length (full table)) none its k h in
      (ap in_lpcm after ∙ enabled-after _ before whole (Bares Cmen), ap (part_of last_cells) after ∙ last-cells _ before whole)

-- ---- a spike on the wire, by either engine

-- what a frame shows that has no reply
seen_none : (table frame : List ℕ) {taken : ℕ} → answer table frame (length (full table)) ≡ took taken 0
    → (by_rules table (Frame frame ∷ [])).seen ≡ Answered (took taken 0) [] ∷ []
unfolding by_rules
seen_none table frame e =
    ap (λ (step : Step). step.seen ∷ []) (sym (frame_step table frame (full table) (has_room table)))
    ∙ ap (λ (a : Result Answer Refusal). Answered a (take (reply_bytes a) (reply_after table frame (full table))) ∷ []) e

-- a read that our host builds shows what all monitors reply
seen_read : (table : List ℕ) (code : ℕ) (part : Part) → command_of code commands ≡ Reads part → sound table ≡ true
    → (by_rules table (Frame (frame_for code (monitors table) []) ∷ [])).seen ≡ Answered (took (monitors table) (payload_size * monitors table)) (from_a part (monitors table) table) ∷ []
unfolding by_rules
seen_read table code part its s =
    let n = monitors table in
    let read = frame_for code n [] in
    ap (λ (step : Step). step.seen ∷ []) (sym (frame_step table read (full table) (has_room table)))
    ∙ ap₂ (λ (a : Result Answer Refusal) (reply : List ℕ). Answered a (take (reply_bytes a) reply) ∷ []) (read_taken_by-all table (full table) code part its s (has_room table))
    (the_replies table (full table) code part its s (length-replicate {A = ℕ} (payload_size * n) 0))
    ∙ ap (λ (reply : List ℕ). Answered (took n (payload_size * n)) reply ∷ []) (take_all (payload_size * n) (from_a part n table) (omega (arith, length-replies part n table)))

-- one that is refused shows that, and the events after it find the table as it was
seen-refused : (table frame : List ℕ) (events : List Event) {r : Refusal} → answer table frame (length (full table)) ≡ Err r
    → by_rules table (Frame frame ∷ events) ≡ saw (Answered (Err r) []) (by_rules table events)
unfolding by_rules
seen-refused table frame events {r} e =
    ap (λ (step : Step). saw step.seen (by_rules step.table events)) (sym (frame_step table frame (full table) (has_room table)))
    ∙ ap₂ (λ (a : Result Answer Refusal) (t : List ℕ). saw (Answered a (take (reply_bytes a) (reply_after table frame (full table)))) (by_rules t events)) e
    (refused-table table frame (length (full table)) r e)

module _ (engine : Engine) (table : List ℕ) (ready : Ready engine table) (s : sound table ≡ true) {sent came : List ℕ} where
  spike-by : (c : Write) → (c ≡ Wrrr → ⊥) → StruckData (Writes c) (monitors table) sent came
      → ((by engine table (Frame came ∷ [])).seen ≡ Answered (took (unhit_awake (Writes c) (monitors table) table sent came) 0) [] ∷ [])
      × (unhit_awake (Writes c) (monitors table) table sent came < monitors table)
      × ((k : ℕ) → k < monitors table
      → row_at record_size k (by engine table (Frame came ∷ [])).table
      ≡ cond (unhit (Writes c) (monitors table) sent came k) (row_at record_size k (by engine table (Frame sent ∷ [])).table) (locked (row_at record_size k table)))
  spike-by c other struck = (
    ap (λ (left : Left). left.seen) (either-by_rules engine table (Frame came ∷ []) ready) ∙ seen_none table came (struck_answer table s c (struck_spoilt struck) other (length (full table))),
    struck_fewer table s c (struck_spoilt struck) (spike-some struck.spike),
    λ k h. ap (row_at record_size k) (one_frame engine table came ready) ∙ each k h (unhit (Writes c) (monitors table) sent came k) refl,
  )
    where
      each : (k : ℕ) → k < monitors table → (b : Bool) → unhit (Writes c) (monitors table) sent came k ≡ b
          → row_at record_size k (table_after table came (length (full table)))
          ≡ cond (unhit (Writes c) (monitors table) sent came k) (row_at record_size k (by engine table (Frame sent ∷ [])).table) (locked (row_at record_size k table))
      each k h true e =
          struck_unhit table s c (struck_spoilt struck) (length (full table)) k h e
          ∙ ap (row_at record_size k) (sym (one_frame engine table sent ready))
          ∙ ap (λ (b : Bool). cond b (row_at record_size k (by engine table (Frame sent ∷ [])).table) (locked (row_at record_size k table))) (sym e)
      each k h false e =
          struck_hit table s c (struck_spoilt struck) (length (full table)) k h other e
          ∙ ap (λ (b : Bool). cond b (row_at record_size k (by engine table (Frame sent ∷ [])).table) (locked (row_at record_size k table))) (sym e)

  missed_by : (c : Write) → (c ≡ Wrrr → ⊥) → Spoilt c (monitors table) sent came → (code : ℕ) (part : Part) → command_of code commands ≡ Reads part
      → let n = monitors table in
      let after = (by engine table (Frame came ∷ [])).table in
      ((by engine table (Frame came ∷ Frame (frame_for code n []) ∷ [])).seen
      ≡ Answered (took (unhit_awake (Writes c) n table sent came) 0) [] ∷ Answered (took n (payload_size * n)) (from_a part n after) ∷ [])
      × EachSeen c part table sent came after
  unfolding by_rules
  missed_by c other spoilt code part its = (
    ap (λ (left : Left). left.seen) (either-by_rules engine table (Frame came ∷ Frame read ∷ []) ready)
        ∙ ap (λ (step : Step). step.seen ∷ (by_rules step.table (Frame read ∷ [])).seen) (sym (frame_step table came (full table) (has_room table)))
        ∙ ap (λ (a : Result Answer Refusal). Answered a (take (reply_bytes a) (reply_after table came (full table))) ∷ (by_rules left (Frame read ∷ [])).seen) (struck_answer table s c spoilt other room)
        ∙ ap (λ (rest : List Seen). Answered (took (unhit_awake (Writes c) n table sent came) 0) [] ∷ rest) read_left,
    subst⁻¹ (EachSeen c part table sent came) there (missed_at_ports table s c spoilt room other part),
  )
    where
      n : ℕ
      n = monitors table

      read : List ℕ
      read = frame_for code n []

      room : ℕ
      room = length (full table)

      left : List ℕ
      left = table_after table came room

      there : (by engine table (Frame came ∷ [])).table ≡ left
      there = one_frame engine table came ready

      as_many : monitors left ≡ n
      as_many = monitors-after-frame table came room s

      read_left : (by_rules left (Frame read ∷ [])).seen ≡ Answered (took n (payload_size * n)) (from_a part n (by engine table (Frame came ∷ [])).table) ∷ []
      read_left =
          ap (λ (m : ℕ). (by_rules left (Frame (frame_for code m []) ∷ [])).seen) (sym as_many)
          ∙ seen_read left code part its (sound-after-frame table came room s)
          ∙ ap₂ (λ (m : ℕ) (t : List ℕ). Answered (took m (payload_size * m)) (from_a part m t) ∷ []) as_many (sym there)

  refused-by : (c : Command) (n : ℕ) → StruckCommand c n sent came → (events : List Event)
      → by engine table (Frame came ∷ events) ≡ saw (Answered (Err CommandWrong) []) (by engine table events)
  refused-by c n struck events =
      either-by_rules engine table (Frame came ∷ events) ready
      ∙ seen-refused table came events (struck_refused struck table (full table) s).0
      ∙ ap (saw (Answered (Err CommandWrong) [])) (sym (either-by_rules engine table events ready))

pub demand_3 : Demand3
unfolding chained_by locked
demand_3 =
    record {
      one_to_32 = λ table s. ((is_sound table s).some, (is_sound table s).few);
      by-frames = frames_by_rules;
      by-bytes = bytes-by_rules;
      alike = λ table buffer state events room. frames_by_rules table buffer events room ∙ sym (bytes-by_rules table state events);
      load-done = halves_by_rules;
      load-refused = refused-by_rules;
      mute = mute_by;
      unmute = λ engine table first second ready. unmute_by engine table first ready second;
      one_moment = λ engine table snap ready passed its events reads k h.
          ap (long_shown reads k) (seen_by engine table snap ready (Frame snap ∷ events)) ∙ one_moment table snap passed its k h events reads;
      frozen_read = frozen-by;
      lent_read = λ engine table ready k h on events p of-them read.
          ap (λ (left : Left). shown_at k (reply_at (length read.before) left.seen)) (either-by_rules engine table events ready)
          ∙ lent_read table k h on events p of-them read;
      second_snap = λ engine table snap ready passed its front rest second quiet its-too p of-them read k h.
          frozen-by engine table snap ready passed its (front ++ Frame second ∷ rest) p of-them
          (behind_front front quiet (behind_front (Frame second ∷ []) (no_unsnap second its-too) read)) k h
          ∙ sym (frozen-by engine table snap ready passed its (front ++ rest) p of-them (behind_front front quiet read) k h);
      live_read = λ engine table unsnap ready passed its events p read k h.
          behind-by engine table unsnap ready k events read.before
          ∙ live_read table unsnap passed its events k h p read
          ∙ ap (λ (left : Left). six_bytes p (row_at record_size k left.table)) (sym (either-by_rules engine table (Frame unsnap ∷ read.before) ready));
      snap_leaves = λ engine table snap ready. left_by engine table snap ready Snap (inr (lit≤ tt), (inr (lit≤ tt), (inl (lit≤ tt), (inr (lit≤ tt), tt))));
      unsnap_leaves = λ engine table unsnap ready. left_by engine table unsnap ready Unsnap (inr (lit≤ tt), (inr (lit≤ tt), (inl (lit≤ tt), tt)));
      spike_data = λ engine table sent came ready s. spike-by engine table ready s;
      missed_write = λ engine table sent came ready s. missed_by engine table ready s;
      lpcm_no_write = λ engine table write ready passed c its k h. no_write_by engine table write ready passed k h c its;
      lpcm_enabled = λ engine table cmen ready passed its k h. enabled-by engine table cmen ready passed k h its;
      spike_wrrr = λ engine table sent came ready s struck. (
        ap (λ (left : Left). left.seen) (either-by_rules engine table (Frame came ∷ []) ready) ∙ seen_none table came (struck_wrrr_answer table s struck (length (full table))),
        λ k h. ap (row_at record_size k) (one_frame engine table came ready) ∙ struck_kept table s Wrrr (struck_spoilt struck) (length (full table)) k h,
      );
      spike-command = λ engine table sent came events ready s c n struck. refused-by engine table ready s c n struck events;
      every_byte = view;
      only_byte_four = only_byte_four;
      at_byte_four = at_byte_four;
      noted_stays = noted_stays;
      another-n = another-n;
      all_is_reply = λ table frame taken bytes part c e.
          ap (drop 4) (back_whole table frame)
          ∙ released_read table frame taken bytes (ap (λ (clock : Clock). released clock table) (sym (clock-whole table frame)) ∙ e) part c;
      stays_sound = rules_keep;
    }
