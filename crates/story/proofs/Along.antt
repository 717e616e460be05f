-- Along a run by the rules. The table stays as sound as it was, with its monitors, so that what is accepted of a frame stays accepted. What every
-- command but one and every operation do to a record, a run without that command does to each monitor's. And what is seen at a place of a run is
-- what the event there shows of the table that the events before it leave.
-- Assumes nothing.
use mathlib.Core.Path.{◌≡◌, refl, sym, ap, ap₂, ◌∙◌, subst, subst⁻¹}
use mathlib.Core.Bool.{Bool, true, false, not}
use mathlib.Core.List.{List, [], ◌∷◌, ◌++◌}
use Prim.Native.Nat.{ℕ, ◌-◌, ◌*◌, ◌<◌}
use native.Mathlib.Omega.{arith}
use lib.Dec.{eqb, ltb}
use lib.IntN.{ℤ}
use lib.ListN.{length, take}
use lib.Seq.{take_at}
use borrow.Author.Tests.{le-ltb, eqb-true, eqb-false}
use Rattle.laws.specs.Rows.{row_at}
use Rattle.laws.proofs.Rows.{row_fits}
use Rattle.refusals.specs.declared.Refusal.{Refusal}
use Rattle.refusals.specs.declared.Refusal.TheVariants.{TableNotSound}
use Rattle.refusals.specs.Order.{Row, ◌gives◌, decide, Passed}
use Rattle.refusals.proofs.Deciding.{passes}
use Rattle.records.specs.declared.commands.Bare.{Bare}
use Rattle.records.specs.declared.commands.Command.{Command}
use Rattle.records.specs.declared.commands.Command.TheVariants.{Reads, Bares, Writes}
use Rattle.records.specs.declared.commands.Write.{Write}
use Rattle.records.specs.declared.record.Part.{Part}
use Rattle.records.specs.Record.{record_size}
use Rattle.records.specs.Commands.{register_size, reply_length}
use Rattle.monitor.specs.Effects.{keeps}
use Rattle.reads.specs.Reply.{register, reply}
use Rattle.judging.specs.Table.{monitors, sound, changed_at}
use Rattle.judging.specs.Refusals.{command_in, short_row, command_row, listed_row, length_row}
use Rattle.judging.proofs.Changed.{changed_record, other_record}
use Rattle.refusals.proofs.Decided.{by-passing}
use Rattle.judging.proofs.Keeps.{Keeps}
use Rattle.judging.proofs.Place.{Place, there}
use Rattle.judging.proofs.Soundness.{is_sound}
use Rattle.serving.specs.Served.{kept}
use Rattle.serving.proofs.OwnRecord.{own_record}
use Rattle.replying.proofs.OwnReply.{own-part}
use Rattle.chain.specs.Frame.{frame_refusals, table_after}
use Rattle.chain.proofs.FrameKeeps.{frame-keeps}
use Rattle.cells.specs.Cells.{store, compare}
use Rattle.cells.proofs.Loaded.{length-store, length-compare}
use Rattle.loads.specs.Load.{store_refusals, compare_refusals}
use Rattle.loads.proofs.Place.{compare_place, store_place}
use Rattle.heartbeats.specs.Steps.{towards_a, woken, reached, late}
use Rattle.heartbeats.proofs.Kept.{length-woken, length-reached, length-late}
use Rattle.passing.specs.Hops.{wake_leaves, hop_sends, hop_leaves, left_along, way_from, beat_leaves}
use Rattle.passing.specs.Operations.{wake_refusals, relay_refusals, time_out_refusals}
use Rattle.passing.proofs.Silent.{wake_keeps, hop_keeps, Within, way_within}
use Rattle.story.specs.Runs.{Operation, Store, Compare, Wake, Relay, Heartbeat, TimeOut, Event, Frame, Beside, Seen, Step, rule_refusals, replies, obeyed, operated, ruled, by_rules}
use Rattle.story.specs.Snapshots.{Is, Without, reply_of, reply_at, shown_at}
use Rattle.story.proofs.Accepted.{frame-whole, frame_right, record_at}
use Rattle.story.proofs.OurHost.{length-register}
use Rattle.story.proofs.Operations.{step_to, operation_keeps, wake_placed, relay_placed, time_placed}
use Rattle.story.proofs.Runs.{frame_step, full, has_room}

-- ---- the table stays sound, with its monitors

pub step_keeps : (table : List ℕ) (event : Event) → sound table ≡ true → Keeps table (ruled table event).table
step_keeps table (Frame frame) s =
    subst (Keeps table) (ap (λ (step : Step). step.table) (frame_step table frame (full table) (has_room table))) (frame-keeps table frame (length (full table)) s)
step_keeps table (Beside operation) s = operation_keeps table operation s

pub rules_keep : (table : List ℕ) (events : List Event) → sound table ≡ true → Keeps table (by_rules table events).table
unfolding by_rules
rules_keep table [] s = record { sound-after = s; monitors-after = refl }
rules_keep table (event ∷ events) s =
    let one = step_keeps table event s in
    let rest = rules_keep (ruled table event).table events one.sound-after in
    record { sound-after = rest.sound-after; monitors-after = rest.monitors-after ∙ one.monitors-after }

-- so a frame is judged as it was
pub judged_alike : (table after frame : List ℕ) → sound after ≡ sound table → monitors after ≡ monitors table → rule_refusals after frame ≡ rule_refusals table frame
unfolding rule_refusals
judged_alike table after frame s n =
    ap₂
    (λ (b : Bool) (m : ℕ).
    (not b gives TableNotSound) ∷ short_row (length frame) ∷ command_row (take 4 frame) ∷ listed_row frame ∷ length_row (length frame) (command_in frame) m ∷ [])
    s n

-- ---- one frame

-- a command without a reply: what the rules accept is accepted whatever the room
no_reply-passes : (table frame : List ℕ) (c : Command) → reply_length c (monitors table) ≡ 0 → command_in frame ≡ c → Passed (rule_refusals table frame) → (room : ℕ)
    → Passed (frame_refusals table frame room)
unfolding rule_refusals frame_refusals
no_reply-passes table frame c none its p room = (
  p.0,
  (p.1.0, (p.1.1.0, (p.1.1.1.0, (p.1.1.1.1.0, (ap (λ (k : Command). ltb room (reply_length k (monitors table))) its ∙ le-ltb room _ (omega (arith, none)), tt))))),
)

pub bare_passes : (table frame : List ℕ) (c : Bare) → command_in frame ≡ Bares c → Passed (rule_refusals table frame) → (room : ℕ) → Passed (frame_refusals table frame room)
bare_passes table frame c = no_reply-passes table frame (Bares c) refl

pub write_passes : (table frame : List ℕ) (c : Write) → command_in frame ≡ Writes c → Passed (rule_refusals table frame) → (room : ℕ) → Passed (frame_refusals table frame room)
write_passes table frame c = no_reply-passes table frame (Writes c) refl

-- the table that a frame leaves by the rules is the one that it leaves as a whole
pub ruled-frame : (table frame : List ℕ) → (by_rules table (Frame frame ∷ [])).table ≡ table_after table frame (length (full table))
unfolding by_rules
ruled-frame table frame = sym (ap (λ (step : Step). step.table) (frame_step table frame (full table) (has_room table)))

-- what the monitor at k shows of an accepted read
pub read_shows : (table frame : List ℕ) (p : Part) → Passed (rule_refusals table frame) → command_in frame ≡ Reads p → (k : ℕ) → k < monitors table
    → shown_at k (reply_of (ruled table (Frame frame)).seen) ≡ register p (row_at record_size k table)
unfolding ruled obeyed replies reply
read_shows table frame p passed its k h =
    ap (λ (step : Step). shown_at k (reply_of step.seen)) (passes (rule_refusals table frame) _ _ passed)
    ∙ ap (λ (c : Command). shown_at k (replies c (monitors table) table)) its
    ∙ ap (take register_size) (own-part p (monitors table) table k h)
    ∙ take_at (register p (row_at record_size k table)) _ register_size (length-register p (row_at record_size k table))

-- ---- one monitor, along a run without one bare command

module _ (c : Bare) (R : List ℕ → List ℕ → Type 0) (still : (r : List ℕ) → R r r) (then : (r s t : List ℕ) → R r s → R s t → R r t)
    (by-command : (x : Command) → (x ≡ Bares c → ⊥) → (eight r : List ℕ) → length r ≡ record_size → R r (keeps x eight r))
    (by-store : (codes : List ℤ) (r : List ℕ) → R r (store codes r)) (by-compare : (r : List ℕ) → R r (compare r)) (by-waking : (r : List ℕ) → R r (woken r))
    (by-reaching : (message r : List ℕ) → R r (reached message r)) (by-time : (r : List ℕ) → R r (late r)) where
  -- the monitor at k of a table, and of what becomes of it
  abbrev At : ℕ → List ℕ → List ℕ → Type 0
  At k table after = R (row_at record_size k table) (row_at record_size k after)

  -- one record made anew
  changed : (f : List ℕ → List ℕ) → ((r : List ℕ) → length (f r) ≡ length r) → ((r : List ℕ) → R r (f r)) → (table : List ℕ) → sound table ≡ true
      → (j : ℕ) → j < monitors table → (k : ℕ) → k < monitors table → At k table (changed_at j f table)
  changed f as_long own table s j its_place k h = by (eqb k j) refl
    where
      whole : length table ≡ monitors table * record_size
      whole = (is_sound table s).whole

      by : (same : Bool) → eqb k j ≡ same → At k table (changed_at j f table)
      by true e =
          subst⁻¹ (λ (i : ℕ). At i table (changed_at j f table)) (eqb-true k j e)
          (subst⁻¹ (R (row_at record_size j table)) (changed_record j f as_long table (row_fits record_size its_place (omega (arith, whole)))) (own (row_at record_size j table)))
      by false e =
          subst⁻¹ (R (row_at record_size k table)) (other_record j f as_long (monitors table) table its_place whole k h (eqb-false k j e)) (still (row_at record_size k table))

  -- bytes that go from monitor to monitor
  along-way : (n : ℕ) (js bytes table : List ℕ) → sound table ≡ true → monitors table ≡ n → Within n js → (k : ℕ) → k < n → At k table (left_along js bytes table)
  unfolding left_along hop_leaves
  along-way n [] bytes table s e in-it k h = still (row_at record_size k table)
  along-way n (j ∷ js) bytes table s e in-it k h =
      let here = subst⁻¹ (λ (m : ℕ). j < m) e in-it.0 in
      let kept = hop_keeps j table s here bytes in
      then _ _ _ (changed (reached bytes) (λ r. length-reached r bytes) (by-reaching bytes) table s j here k (subst⁻¹ (λ (m : ℕ). k < m) e h))
      (along-way n js (hop_sends j bytes table) (hop_leaves j bytes table) kept.sound-after (kept.monitors-after ∙ e) in-it.1 k h)

  one_operation : (table : List ℕ) (operation : Operation) → sound table ≡ true → (k : ℕ) → k < monitors table → At k table (ruled table (Beside operation)).table
  unfolding ruled operated wake_leaves hop_leaves beat_leaves
  one_operation table operation s k h = by operation
    where
      -- a refusal changes nothing, and what is done is done at its place
      done : (rows : List Row) (refused : Refusal → Seen) (after : Step) → (Passed rows → At k table after.table)
          → At k table (decide rows (λ r. step_to table (refused r)) after).table
      done rows refused after each = by-passing (λ step. At k table step.table) rows (λ r. step_to table (refused r)) after (λ r. still (row_at record_size k table)) each

      its : (f : List ℕ → List ℕ) → ((r : List ℕ) → length (f r) ≡ length r) → ((r : List ℕ) → R r (f r)) → (position : ℕ) → Place table position
          → At k table (changed_at (position - 1) f table)
      its f as_long own position place = changed f as_long own table s (position - 1) (there table position place) k h

      by : (operation : Operation) → At k table (operated table operation).table
      by (Store position codes) =
          done (store_refusals table position codes) _ _ (λ none. its (store codes) (length-store codes) (by-store codes) position (store_place table position codes none))
      by (Compare position) = done (compare_refusals table position) _ _ (λ none. its compare length-compare by-compare position (compare_place table position none))
      by (Wake position out) =
          done (wake_refusals table position (length out)) _ _ (λ none. its woken length-woken by-waking position (wake_placed table position (length out) none))
      by (Relay position message out) =
          done (relay_refusals table position (length message) (length out)) _ _
          (λ none. its (reached message) (λ r. length-reached r message) (by-reaching message) position (relay_placed table position (length message) (length out) none))
      by (Heartbeat position out) =
          done (wake_refusals table position (length out)) _ _
          (λ none.
          let place = wake_placed table position (length out) none in
          let first = wake_keeps (position - 1) table s (there table position place) in
          then _ _ _ (its woken length-woken by-waking position place)
          (along-way (monitors table) (way_from (position - 1) table) _ (wake_leaves (position - 1) table) first.sound-after first.monitors-after
          (way_within (towards_a (row_at record_size (position - 1) table)) (monitors table) (position - 1) (there table position place)) k h))
      by (TimeOut position) = done (time_out_refusals table position) _ _ (λ none. its late length-late by-time position (time_placed table position none))

  one_event : (table : List ℕ) (event : Event) → (Is c event → ⊥) → sound table ≡ true → (k : ℕ) → k < monitors table → At k table (ruled table event).table
  unfolding table_after
  one_event table (Frame frame) other s k h =
      subst (At k table) (ap (λ (step : Step). step.table) (frame_step table frame (full table) (has_room table)))
      (by-passing (At k table) (frame_refusals table frame (length (full table))) (λ r. table) (kept (command_in frame) (monitors table) table frame)
      (λ r. still (row_at record_size k table))
      (λ none.
      subst⁻¹ (R (row_at record_size k table)) (own_record (command_in frame) (monitors table) table frame k h (sym (is_sound table s).whole))
      (by-command (command_in frame) (λ its. other (frame-whole table frame (length (full table)) none its, (frame_right table frame (length (full table)) none, its)))
      _ (row_at record_size k table) (record_at table frame (length (full table)) none k h))))
  one_event table (Beside operation) other s k h = one_operation table operation s k h

  pub along_run : (table : List ℕ) (events : List Event) → Without c events → sound table ≡ true → (k : ℕ) → k < monitors table → At k table (by_rules table events).table
  unfolding by_rules
  along_run table [] none s k h = still (row_at record_size k table)
  along_run table (event ∷ events) none s k h =
      let one = step_keeps table event s in
      then _ _ _ (one_event table event none.0 s k h) (along_run (ruled table event).table events none.1 one.sound-after k (subst⁻¹ (λ (n : ℕ). k < n) one.monitors-after h))

-- ---- what is seen at a place

pub seen-there : (table : List ℕ) (before : List Event) (event : Event) (after : List Event)
    → reply_at (length before) (by_rules table (before ++ event ∷ after)).seen ≡ reply_of (ruled (by_rules table before).table event).seen
unfolding by_rules
seen-there table [] event after = refl
seen-there table (one ∷ before) event after = seen-there (ruled table one).table before event after

pub without_both : (c : Bare) (front rest : List Event) → Without c front → Without c rest → Without c (front ++ rest)
without_both c [] rest h k = k
without_both c (event ∷ front) rest h k = (h.0, without_both c front rest h.1 k)
