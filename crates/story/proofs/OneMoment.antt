-- A long read is of one moment, by the rules. While no UNSNAP comes, a SNAP_ST that is set stays set and the copy stays what it was, whatever frames
-- come and whatever is done beside them: so a cell read, wherever it stands, shows its part of the copy, after a SNAP its part of the cells as they
-- were shown at the SNAP, and the six together all of them. After an UNSNAP, and while no SNAP comes, SNAP_ST stays clear, and a read shows its part
-- as it then is.
-- Assumes nothing.
use mathlib.Core.Path.{◌≡◌, refl, sym, ap, ◌∙◌, subst⁻¹}
use mathlib.Core.Bool.{Bool, true, false, cond, false≢true}
use mathlib.Core.List.{List, [], ◌∷◌, ◌++◌, append_assoc}
use Prim.Native.Nat.{ℕ, ◌<◌}
use lib.ListN.{length, replicate}
use borrow.Author.Tests.{not-false}
use Rattle.laws.specs.Rows.{row_at, joined}
use Rattle.refusals.specs.Order.{Passed}
use Rattle.records.specs.declared.commands.Bare.{Bare}
use Rattle.records.specs.declared.commands.Bare.TheVariants.{Mute, Unmute, Rstcc, Ulrr, Clrcell, Snap, Unsnap, Cmen, Cmdis}
use Rattle.records.specs.declared.commands.Command.{Command}
use Rattle.records.specs.declared.commands.Command.TheVariants.{Reads, Writes, Bares, Unlisted}
use Rattle.records.specs.declared.record.Part.{Part}
use Rattle.records.specs.Record.{cells, snapshot, record_size, snapped, bytes_of}
use Rattle.records.specs.Commands.{rdcva, rdcvb, rdcvc, rdcvd, rdcve, rdcvf}
use Rattle.monitor.specs.Effects.{keeps}
use Rattle.monitor.specs.Spares.{Spares}
use Rattle.monitor.proofs.Spares.{keeps_spares}
use Rattle.reads.specs.Shown.{of_cells, shown_cells}
use Rattle.reads.specs.Reply.{six_bytes, six_in, register}
use Rattle.reads.proofs.Parts.{shows_live}
use Rattle.judging.specs.Table.{monitors, sound}
use Rattle.judging.specs.Refusals.{command_in}
use Rattle.judging.proofs.Keeps.{Keeps, stays}
use Rattle.story.specs.Runs.{Event, Frame, rule_refusals, by_rules}
use Rattle.story.specs.Snapshots.{snapped_by, snapped_after, Without, reply_at, shown_at, shown_behind, ReadIn, LongRead, long_shown}
use Rattle.chain.specs.Frame.{frame_refusals}
use Rattle.story.proofs.Accepted.{frame-sound, kept_table, own_at, record_at, kept_at}
use Rattle.story.proofs.Along.{judged_alike, rules_keep, bare_passes, ruled-frame, read_shows, along_run, seen-there, without_both}
use Rattle.story.proofs.Runs.{full}
use Rattle.story.proofs.Snapshot.{snap_st, snap_copies, copy_kept, store_snap_st, store_copy, compare_snap_st, compare_copy, woken_snap_st, woken_copy, reached_snap_st, reached_copy, late_snap_st, late_copy, shows_its-part, together, length-shown}

-- ---- one monitor: a snapshot stays on, with its copy; and off

record Held (r s : List ℕ) : Type 0 where
  held : snapped r ≡ true → (snapped s ≡ true) × (bytes_of snapshot s ≡ bytes_of snapshot r)

record Off (r s : List ℕ) : Type 0 where
  off : snapped r ≡ false → snapped s ≡ false

by_bare_on : (c : Bare) → (c ≡ Unsnap → ⊥) → snapped_by c true ≡ true
by_bare_on Mute other = refl
by_bare_on Unmute other = refl
by_bare_on Rstcc other = refl
by_bare_on Ulrr other = refl
by_bare_on Clrcell other = refl
by_bare_on Snap other = refl
by_bare_on Unsnap other = absurd (other refl)
by_bare_on Cmen other = refl
by_bare_on Cmdis other = refl

by_bare_off : (c : Bare) → (c ≡ Snap → ⊥) → snapped_by c false ≡ false
by_bare_off Mute other = refl
by_bare_off Unmute other = refl
by_bare_off Rstcc other = refl
by_bare_off Ulrr other = refl
by_bare_off Clrcell other = refl
by_bare_off Snap other = absurd (other refl)
by_bare_off Unsnap other = refl
by_bare_off Cmen other = refl
by_bare_off Cmdis other = refl

module _ (own r : List ℕ) (whole : length r ≡ record_size) where
  stays_on : (c : Command) → (c ≡ Bares Unsnap → ⊥) → snapped r ≡ true → snapped (keeps c own r) ≡ true
  stays_on (Reads p) other on = snap_st own r whole (Reads p) ∙ on
  stays_on (Writes c) other on = snap_st own r whole (Writes c) ∙ on
  stays_on (Bares c) other on = snap_st own r whole (Bares c) ∙ ap (snapped_by c) on ∙ by_bare_on c (λ e. other (ap Bares e))
  stays_on Unlisted other on = snap_st own r whole Unlisted ∙ on

  stays_off : (c : Command) → (c ≡ Bares Snap → ⊥) → snapped r ≡ false → snapped (keeps c own r) ≡ false
  stays_off (Reads p) other off = snap_st own r whole (Reads p) ∙ off
  stays_off (Writes c) other off = snap_st own r whole (Writes c) ∙ off
  stays_off (Bares c) other off = snap_st own r whole (Bares c) ∙ ap (snapped_by c) off ∙ by_bare_off c (λ e. other (ap Bares e))
  stays_off Unlisted other off = snap_st own r whole Unlisted ∙ off

held-along : (table : List ℕ) (events : List Event) → Without Unsnap events → sound table ≡ true → (k : ℕ) → k < monitors table
    → Held (row_at record_size k table) (row_at record_size k (by_rules table events).table)
held-along =
    along_run Unsnap Held (λ r. record { held = λ on. (on, refl) })
    (λ r s t one two. record { held = λ on. let first = one.held on in let second = two.held first.0 in (second.0, second.1 ∙ first.1) })
    (λ c other own r whole. record { held = λ on. (stays_on own r whole c other on, copy_kept own r whole on c) })
    (λ codes r. record { held = λ on. (store_snap_st codes r ∙ on, store_copy codes r) })
    (λ r. record { held = λ on. (compare_snap_st r ∙ on, compare_copy r) })
    (λ r. record { held = λ on. (woken_snap_st r ∙ on, woken_copy r) })
    (λ message r. record { held = λ on. (reached_snap_st message r ∙ on, reached_copy message r) })
    (λ r. record { held = λ on. (late_snap_st r ∙ on, late_copy r) })

off-along : (table : List ℕ) (events : List Event) → Without Snap events → sound table ≡ true → (k : ℕ) → k < monitors table
    → Off (row_at record_size k table) (row_at record_size k (by_rules table events).table)
off-along =
    along_run Snap Off (λ r. record { off = λ e. e }) (λ r s t one two. record { off = λ e. two.off (one.off e) })
    (λ c other own r whole. record { off = stays_off own r whole c other }) (λ codes r. record { off = λ e. store_snap_st codes r ∙ e })
    (λ r. record { off = λ e. compare_snap_st r ∙ e }) (λ r. record { off = λ e. woken_snap_st r ∙ e })
    (λ message r. record { off = λ e. reached_snap_st message r ∙ e }) (λ r. record { off = λ e. late_snap_st r ∙ e })

-- ---- the events up to a read, and the read

module _ (table : List ℕ) (s : sound table ≡ true) (k : ℕ) (h : k < monitors table) where
  reads_there : (c : Bare) (events : List Event) (first : List ℕ) (kept : Keeps first table) (p : Part) (read : ReadIn c events first p) → sound first ≡ true
      → shown_at k (reply_at (length read.before) (by_rules table events).seen) ≡ register p (row_at record_size k (by_rules table read.before).table)
  reads_there c events first kept-first p read s-first =
      let found = (by_rules table read.before).table in
      let kept = rules_keep table read.before s in
      let alike = judged_alike first found read.frame (kept.sound-after ∙ sym s-first) (kept.monitors-after ∙ kept-first.monitors-after) in
      ap (λ (list : List Event). shown_at k (reply_at (length read.before) (by_rules table list).seen)) (sym read.there)
      ∙ ap (shown_at k) (seen-there table read.before (Frame read.frame) read.after)
      ∙ read_shows found read.frame p (subst⁻¹ Passed alike read.accepted) read.its k (subst⁻¹ (λ (n : ℕ). k < n) kept.monitors-after h)

  -- a snapshot that is on: its copy, whatever comes but an UNSNAP
  lent_by : snapped (row_at record_size k table) ≡ true → (events : List Event) (p : Part) → of_cells p ≡ true → (read : ReadIn Unsnap events table p)
      → shown_at k (reply_at (length read.before) (by_rules table events).seen) ≡ six_in p (bytes_of snapshot (row_at record_size k table))
  unfolding shown_cells
  lent_by on events p of-them read =
      let now = row_at record_size k (by_rules table read.before).table in
      let still = (held-along table read.before read.quiet s k h).held on in
      reads_there Unsnap events table (stays table s) p read s
      ∙ shows_its-part p now of-them
      ∙ ap (λ (b : Bool). six_in p (cond b (bytes_of snapshot now) (bytes_of cells now))) still.0
      ∙ ap (six_in p) still.1

-- that the table is sound the read's own refusals tell
pub lent_read : (table : List ℕ) (k : ℕ) → k < monitors table → snapped (row_at record_size k table) ≡ true → (events : List Event) (p : Part) → of_cells p ≡ true
    → (read : ReadIn Unsnap events table p)
    → shown_at k (reply_at (length read.before) (by_rules table events).seen) ≡ six_in p (bytes_of snapshot (row_at record_size k table))
unfolding rule_refusals
lent_read table k h on events p of-them read = lent_by table (not-false (sound table) read.accepted.0) k h on events p of-them read

-- ---- after an accepted bare command

module _ (c : Bare) (table first : List ℕ) (passed : Passed (rule_refusals table first)) (its : command_in first ≡ Bares c) (k : ℕ) (h : k < monitors table) where
  none : Passed (frame_refusals table first (length (full table)))
  none = bare_passes table first c its passed (length (full table))

  -- the table that the command leaves
  abbrev then : List ℕ
  then = (by_rules table (Frame first ∷ [])).table

  kept_then : Keeps table then
  kept_then = subst⁻¹ (Keeps table) (ruled-frame table first) (kept_table table first (length (full table)) none)

  there-then : k < monitors then
  there-then = subst⁻¹ (λ (n : ℕ). k < n) kept_then.monitors-after h

  abbrev row : List ℕ
  row = row_at record_size k table

  row-whole : length row ≡ record_size
  row-whole = record_at table first (length (full table)) none k h

  abbrev own : List ℕ
  own = own_at table first (length (full table)) none (Bares c) k

  row-then : row_at record_size k then ≡ keeps (Bares c) own row
  row-then = ap (row_at record_size k) (ruled-frame table first) ∙ kept_at table first (length (full table)) none its k h

  -- the table that a read finds which stands behind other events
  abbrev found : List Event → List ℕ
  found before = (by_rules then before).table

  shown-there : (q : Bare) (events : List Event) (p : Part) (read : ReadIn q events table p)
      → shown_behind read.before k (by_rules table (Frame first ∷ events)).seen ≡ register p (row_at record_size k (found read.before))
  unfolding by_rules
  shown-there q events p read =
      reads_there then kept_then.sound-after k there-then q events table kept_then p read (frame-sound table first (length (full table)) none)

-- ---- SNAP

module _ (table snap : List ℕ) (passed : Passed (rule_refusals table snap)) (its : command_in snap ≡ Bares Snap) (k : ℕ) (h : k < monitors table) where
  -- the cells as they stood at the SNAP; the copy that was there, where SNAP_ST was set
  abbrev frozen : List ℕ
  frozen = shown_cells (row_at record_size k table)

  module _ (before : List Event) (quiet : Without Unsnap before) where
    abbrev now : List ℕ
    now = row_at record_size k (found Snap table snap passed its k h before)

    still_held : (snapped now ≡ true) × (bytes_of snapshot now ≡ frozen)
    still_held =
        let at_first = row-then Snap table snap passed its k h in
        let whole = row-whole Snap table snap passed its k h in
        let e = own Snap table snap passed its k h in
        let on = ap snapped at_first ∙ snap_st e (row_at record_size k table) whole (Bares Snap) in
        let after =
        (held-along (then Snap table snap passed its k h) before quiet (kept_then Snap table snap passed its k h).sound-after k (there-then Snap table snap passed its k h)).held on in
        (after.0, after.1 ∙ ap (bytes_of snapshot) at_first ∙ snap_copies e (row_at record_size k table) whole)

    still_shown : shown_cells now ≡ frozen
    unfolding shown_cells
    still_shown = ap (λ (on : Bool). cond on (bytes_of snapshot now) (bytes_of cells now)) still_held.0 ∙ still_held.1

  module _ (events : List Event) where
    pub frozen_read : (p : Part) → of_cells p ≡ true → (read : ReadIn Unsnap events table p)
        → shown_behind read.before k (by_rules table (Frame snap ∷ events)).seen ≡ six_in p frozen
    frozen_read p of-them read =
        shown-there Snap table snap passed its k h Unsnap events p read
        ∙ shows_its-part p (now read.before read.quiet) of-them
        ∙ ap (six_in p) (still_shown read.before read.quiet)

    pub one_moment : (reads : LongRead events table) → long_shown reads k (by_rules table (Frame snap ∷ events)).seen ≡ frozen ++ replicate 4 0xFF
    unfolding joined
    one_moment reads =
        (λ j.
        joined
        (frozen_read rdcva refl reads.a j
        ∷ frozen_read rdcvb refl reads.b j
        ∷ frozen_read rdcvc refl reads.c j
        ∷ frozen_read rdcvd refl reads.d j
        ∷ frozen_read rdcve refl reads.e j
        ∷ frozen_read rdcvf refl reads.f j
        ∷ []))
        ∙ together frozen (length-shown (row_at record_size k table) (row-whole Snap table snap passed its k h))

-- a read behind other events, which are without that command too
abbrev pub behind_front : {c : Bare} {events : List Event} {table : List ℕ} {p : Part} (front : List Event) → Without c front → ReadIn c events table p → ReadIn c (front ++ events) table p
behind_front {c} front none read =
    record {
      before = front ++ read.before;
      frame = read.frame;
      after = read.after;
      there = append_assoc front read.before (Frame read.frame ∷ read.after) ∙ ap (λ (list : List Event). front ++ list) read.there;
      quiet = without_both c front read.before none read.quiet;
      accepted = read.accepted;
      its = read.its;
    }

-- a SNAP is no UNSNAP
pub no_unsnap : (second : List ℕ) → command_in second ≡ Bares Snap → Without Unsnap (Frame second ∷ [])
no_unsnap second its = (λ unsnap. false≢true (sym (ap (λ (c : Command). snapped_after c true) (sym its ∙ unsnap.1.1))), tt)

-- ---- UNSNAP

module _ (table unsnap : List ℕ) (passed : Passed (rule_refusals table unsnap)) (its : command_in unsnap ≡ Bares Unsnap) (events : List Event) (k : ℕ) (h : k < monitors table) where
  pub live_read : (p : Part) (read : ReadIn Snap events table p)
      → shown_behind read.before k (by_rules table (Frame unsnap ∷ events)).seen
      ≡ six_bytes p (row_at record_size k (by_rules table (Frame unsnap ∷ read.before)).table)
  unfolding register by_rules
  live_read p read =
      let at_first = row-then Unsnap table unsnap passed its k h in
      let off = ap snapped at_first ∙ snap_st (own Unsnap table unsnap passed its k h) (row_at record_size k table) (row-whole Unsnap table unsnap passed its k h) (Bares Unsnap) in
      let still = (off-along (then Unsnap table unsnap passed its k h) read.before read.quiet (kept_then Unsnap table unsnap passed its k h).sound-after k (there-then Unsnap table unsnap passed its k h)).off off in
      let now = row_at record_size k (found Unsnap table unsnap passed its k h read.before) in
      shown-there Unsnap table unsnap passed its k h Snap events p read ∙ ap (λ (q : Part). six_bytes q now) (shows_live p now still)

-- ---- neither changes the live cells

module _ (c : Bare) (spares : Spares (Bares c) cells) (table frame : List ℕ) (passed : Passed (rule_refusals table frame)) (its : command_in frame ≡ Bares c) (k : ℕ) (h : k < monitors table) where
  pub cells_left : bytes_of cells (row_at record_size k (by_rules table (Frame frame ∷ [])).table) ≡ bytes_of cells (row_at record_size k table)
  cells_left =
      ap (bytes_of cells) (row-then c table frame passed its k h)
      ∙ keeps_spares cells (Bares c) (own c table frame passed its k h) (row_at record_size k table) spares
