-- A snapshot at one monitor. What becomes of SNAP_ST and of the copy, whatever command comes, at a store, a compare and a turn in a heartbeat; and what the six cell
-- reads show together: the copy while SNAP_ST is set, the live cells where it is not.
-- Assumes nothing.
use mathlib.Core.Path.{◌≡◌, refl, sym, ap, ap₂, ◌∙◌, subst, subst⁻¹}
use mathlib.Core.Bool.{Bool, true, false, cond, ◌&&◌, ◌||◌}
use mathlib.Core.List.{List, [], ◌∷◌, ◌++◌, map}
use mathlib.Core.Logic.{inl, inr}
use Prim.Native.Nat.{ℕ, ◌-◌}
use native.Mathlib.Omega.{arith}
use lib.Bits.{bit_and, bit_or, and_zero_r}
use lib.Dec.{lit<, lit≤}
use lib.IntN.{ℤ}
use lib.ListN.{length, take, drop, get_or, replicate}
use Rattle.laws.specs.Bits.{odd, bit_at}
use Rattle.laws.specs.Rows.{joined}
use Rattle.laws.specs.Tables.{tabulate}
use Rattle.laws.proofs.BitAt.{or_bits, and_bits, bit-or, bit-and}
use Rattle.laws.proofs.Tables.{rebuilt}
use Rattle.records.specs.declared.commands.Bare.{Bare}
use Rattle.records.specs.declared.commands.Bare.TheVariants.{Mute, Unmute, Rstcc, Ulrr, Clrcell, Snap, Unsnap, Cmen, Cmdis}
use Rattle.records.specs.declared.commands.Command.{Command}
use Rattle.records.specs.declared.commands.Command.TheVariants.{Reads, Writes, Bares, Unlisted}
use Rattle.records.specs.declared.commands.Write.{Write}
use Rattle.records.specs.declared.commands.Write.TheVariants.{Wrcfga, Wrcfgb, Wrrr, Clrflag, Clovuv, Wrpwma, Wrpwmb, Wrcmcfg, Wrcmcellt, Wrcmgpiot, Clrcmflag}
use Rattle.records.specs.declared.record.Part.{Part}
use Rattle.records.specs.Record.{cells, flags, snapshot, status_bits, configuration_a, counter, unlocked, record_size, snapped, in_lpcm, bytes_of, byte_of, on_bytes}
use Rattle.records.specs.Commands.{rdcva, rdcvb, rdcvc, rdcvd, rdcve, rdcvf}
use Rattle.records.proofs.Anew.{length-anew, anew_inside}
use Rattle.records.proofs.Parts.{byte_of-part, part_of-part, made_of, length_part, outside_anew}
use Rattle.records.proofs.Modes.{snapped_elsewhere}
use Rattle.writes.specs.Writes.{rules_of, changed, by_rules}
use Rattle.monitor.specs.Effects.{locked, counted, cells_to, copied, enabled, done, keeps}
use Rattle.monitor.specs.Spares.{Apart}
use Rattle.monitor.proofs.Spares.{counted_spares}
use Rattle.cells.specs.Cells.{store, compare}
use Rattle.heartbeats.specs.Steps.{woken, reached, late}
use Rattle.heartbeats.proofs.Kept.{woken_spares, late_spares, reached_spares}
use Rattle.reads.specs.Shown.{cell_reads, of_cells, copy_of, shown_part, shown_cells}
use Rattle.reads.specs.Reply.{six_bytes, six_in, register}
use Rattle.reads.proofs.Parts.{of-cells, shows_copy, shows_live, shows_other}
use Rattle.story.specs.Snapshots.{snapped_by, snapped_after}
use Rattle.story.proofs.AsBefore.{copy_by}
use Rattle.story.proofs.Modes.{counted-whole, either_mode, mode_after_write}

-- a part made anew leaves another that has no byte of it
outside : (p q : Part) (f : ℕ → ℕ → ℕ) (r : List ℕ) → Apart p q → bytes_of p (on_bytes q f r) ≡ bytes_of p r
unfolding on_bytes
outside p q f r h = outside_anew p f q.at q.size r h

-- ---- SNAP_ST

-- its byte, made anew
status-anew : (f : ℕ → ℕ → ℕ) (r : List ℕ) → length r ≡ record_size → snapped (on_bytes status_bits f r) ≡ bit_at 5 (f 0 (byte_of status_bits r))
unfolding snapped on_bytes byte_of
status-anew f r whole = ap (bit_at 5) (anew_inside f status_bits.at 1 r 0 (lit< tt) (omega arith))

or-false : (b : Bool) → b || false ≡ b
or-false true = refl
or-false false = refl

and_true : (b : Bool) → b && true ≡ b
and_true true = refl
and_true false = refl

-- a bit that a mask leaves, by an inclusive or and by an and
left-by_or : (k a b : ℕ) → bit_at k b ≡ false → bit_at k (bit_or a b) ≡ bit_at k a
left-by_or k a b e = or_bits k a b ∙ ap (λ (t : Bool). bit_at k a || t) e ∙ or-false (bit_at k a)

pub left-by_and : (k a b : ℕ) → bit_at k b ≡ true → bit_at k (bit_and a b) ≡ bit_at k a
left-by_and k a b e = and_bits k a b ∙ ap (λ (t : Bool). bit_at k a && t) e ∙ and_true (bit_at k a)

-- WRCFGA keeps it: its byte stores none of bit 5, and keeps it as it was
by_wrcfga : (sent : List ℕ) (old : ℕ) → bit_at 5 (changed (rules_of Wrcfga) sent 5 old) ≡ bit_at 5 old
unfolding changed bit_at odd
by_wrcfga sent old =
    let s = get_or sent 5 0 in
    ap (λ (m : ℕ). bit_at 5 (bit_or (bit_or (bit_and s 0x0F) (bit_and old (bit_and 0x30 (255 - m)))) 0)) (and_zero_r s)
    ∙ left-by_or 5 (bit_or (bit_and s 0x0F) (bit_and old 0x30)) 0 refl
    ∙ or_bits 5 (bit_and s 0x0F) (bit_and old 0x30)
    ∙ ap₂ ◌||◌ (bit-and 5 s 0x0F refl) (left-by_and 5 old 0x30 refl)

by-rules : (c : Write) (sent r : List ℕ) → length r ≡ record_size → snapped (by_rules c sent r) ≡ snapped r
unfolding by_rules snapped byte_of
by-rules Wrcfga sent r whole = ap (bit_at 5) (anew_inside (changed (rules_of Wrcfga) sent) configuration_a.at 6 r 5 (lit< tt) (omega arith)) ∙ by_wrcfga sent _
by-rules Wrcfgb sent r whole = snapped_elsewhere _ _ 6 r (inr (lit≤ tt))
by-rules Wrrr sent r whole = snapped_elsewhere _ _ 6 r (inr (lit≤ tt))
by-rules Clrflag sent r whole = snapped_elsewhere _ _ 6 r (inr (lit≤ tt))
by-rules Clovuv sent r whole = snapped_elsewhere _ _ 6 r (inr (lit≤ tt))
by-rules Wrpwma sent r whole = snapped_elsewhere _ _ 6 r (inr (lit≤ tt))
by-rules Wrpwmb sent r whole = snapped_elsewhere _ _ 6 r (inr (lit≤ tt))
by-rules Wrcmcfg sent r whole = snapped_elsewhere _ _ 6 r (inr (lit≤ tt))
by-rules Wrcmcellt sent r whole = snapped_elsewhere _ _ 6 r (inr (lit≤ tt))
by-rules Wrcmgpiot sent r whole = snapped_elsewhere _ _ 6 r (inr (lit≤ tt))
by-rules Clrcmflag sent r whole = snapped_elsewhere _ _ 2 r (inr (lit≤ tt))

copied_on : (r : List ℕ) → length r ≡ record_size → snapped (copied r) ≡ true
unfolding copied cells_to on_bytes bit_at odd
copied_on r whole =
    let made = on_bytes snapshot (λ i old. get_or (bytes_of cells r) i 0) r in
    status-anew (λ i old. bit_or old 0x20) made (length-anew _ _ _ r ∙ whole) ∙ bit-or 5 (byte_of status_bits made) 0x20 refl

copied_copy : (r : List ℕ) → length r ≡ record_size → bytes_of snapshot (copied r) ≡ bytes_of cells r
unfolding copied cells_to
copied_copy r whole =
    outside_status (on_bytes snapshot (λ i old. get_or (bytes_of cells r) i 0) r)
    ∙ made_of snapshot (bytes_of cells r) r (length_part cells r (omega arith)) (omega arith)
  where
    outside_status : (t : List ℕ) → bytes_of snapshot (on_bytes status_bits (λ i old. bit_or old 0x20) t) ≡ bytes_of snapshot t
    outside_status t = outside snapshot status_bits (λ i old. bit_or old 0x20) t (inl (lit≤ tt))

by-done : (c : Bare) (r : List ℕ) → length r ≡ record_size → snapped (done c r) ≡ snapped_by c (snapped r)
unfolding done enabled cells_to on_bytes bit_at odd snapped
by-done Mute r whole = status-anew (λ i old. bit_or old 0x10) r whole ∙ left-by_or 5 (byte_of status_bits r) 0x10 refl
by-done Unmute r whole = status-anew (λ i old. bit_and old 0xEF) r whole ∙ left-by_and 5 (byte_of status_bits r) 0xEF refl
by-done Rstcc r whole = snapped_elsewhere _ _ _ r (inr (lit≤ tt))
by-done Ulrr r whole = snapped_elsewhere _ _ _ r (inr (lit≤ tt))
by-done Clrcell r whole = snapped_elsewhere _ _ _ r (inr (lit≤ tt))
by-done Snap r whole = where_on (snapped r) refl
  where
    where_on : (on : Bool) → snapped r ≡ on → snapped (cond on r (copied r)) ≡ true
    where_on true e = e
    where_on false e = copied_on r whole
by-done Cmen r whole = either_mode snapped (in_lpcm r) r (enabled r) refl (snapped_elsewhere _ _ _ _ (inr (lit≤ tt)) ∙ snapped_elsewhere _ _ _ r (inr (lit≤ tt)))
by-done Cmdis r whole = snapped_elsewhere _ _ _ r (inr (lit≤ tt))
by-done Unsnap r whole = status-anew (λ i old. bit_and old 0xDF) r whole ∙ bit-and 5 (byte_of status_bits r) 0xDF refl

module _ (r : List ℕ) where
  by-locked : snapped (locked r) ≡ snapped r
  unfolding locked on_bytes
  by-locked = snapped_elsewhere _ _ _ r (inr (lit≤ tt))

  by-counted : snapped (counted (locked r)) ≡ snapped r
  unfolding counted on_bytes
  by-counted = snapped_elsewhere _ _ _ (locked r) (inr (lit≤ tt)) ∙ by-locked

-- ---- SNAP, by whether SNAP_ST was set

module _ (own r : List ℕ) where
  by_snap : {on : Bool} → snapped r ≡ on → keeps (Bares Snap) own r ≡ cond on (counted (locked r)) (copied (counted (locked r)))
  unfolding keeps done
  by_snap e = ap (λ (on : Bool). cond on (counted (locked r)) (copied (counted (locked r)))) (by-counted r ∙ e)

  pub snap_again : snapped r ≡ true → keeps (Bares Snap) own r ≡ counted (locked r)
  snap_again e = by_snap e

  pub snap_takes : snapped r ≡ false
      → keeps (Bares Snap) own r ≡ on_bytes status_bits (λ i old. bit_or old 0x20) (on_bytes snapshot (λ i old. get_or (bytes_of cells r) i 0) (counted (locked r)))
  unfolding copied cells_to
  snap_takes e =
      by_snap e
      ∙ ap (λ (bytes : List ℕ). on_bytes status_bits (λ i old. bit_or old 0x20) (on_bytes snapshot (λ i old. get_or bytes i 0) (counted (locked r))))
      (counted_spares cells r (inr (lit≤ tt)) (inr (lit≤ tt)))

module _ (own r : List ℕ) (whole : length r ≡ record_size) where
  base-whole : length (counted (locked r)) ≡ record_size
  base-whole = counted-whole r whole

  pub snap_st : (c : Command) → snapped (keeps c own r) ≡ snapped_after c (snapped r)
  unfolding keeps
  snap_st (Reads p) = by-locked r
  snap_st (Writes c) = mode_after_write snapped by-locked by-counted by-rules c own r whole
  snap_st (Bares c) = by-done c (counted (locked r)) base-whole ∙ ap (snapped_by c) (by-counted r)
  snap_st Unlisted = refl

  -- ---- the copy

  -- SNAP leaves in it what the cell reads showed
  pub snap_copies : bytes_of snapshot (keeps (Bares Snap) own r) ≡ shown_cells r
  unfolding shown_cells
  snap_copies = ap (bytes_of snapshot) (by_snap own r refl) ∙ where_on (snapped r)
    where
      where_on : (on : Bool) → bytes_of snapshot (cond on (counted (locked r)) (copied (counted (locked r)))) ≡ cond on (bytes_of snapshot r) (bytes_of cells r)
      where_on true = counted_spares snapshot r (inl (lit≤ tt)) (inl (lit≤ tt))
      where_on false = copied_copy (counted (locked r)) base-whole ∙ counted_spares cells r (inr (lit≤ tt)) (inr (lit≤ tt))

  -- while a snapshot is on no command changes it
  pub copy_kept : snapped r ≡ true → (c : Command) → bytes_of snapshot (keeps c own r) ≡ bytes_of snapshot r
  unfolding shown_cells
  copy_kept on c =
      copy_by c own r
      (λ e.
      subst⁻¹ (λ (x : Command). bytes_of snapshot (keeps x own r) ≡ bytes_of snapshot r) e
      (snap_copies ∙ ap (λ (b : Bool). cond b (bytes_of snapshot r) (bytes_of cells r)) on))

-- ---- a store and a compare

module _ (codes : List ℤ) (r : List ℕ) where
  pub store_snap_st : snapped (store codes r) ≡ snapped r
  unfolding store on_bytes
  store_snap_st = snapped_elsewhere _ _ _ r (inr (lit≤ tt))

  pub store_copy : bytes_of snapshot (store codes r) ≡ bytes_of snapshot r
  unfolding store
  store_copy = outside snapshot cells _ r (inl (lit≤ tt))

module _ (r : List ℕ) where
  pub compare_snap_st : snapped (compare r) ≡ snapped r
  unfolding compare on_bytes
  compare_snap_st = snapped_elsewhere _ _ _ r (inr (lit≤ tt))

  pub compare_copy : bytes_of snapshot (compare r) ≡ bytes_of snapshot r
  unfolding compare
  compare_copy = outside snapshot flags _ r (inl (lit≤ tt))

-- ---- a turn in a heartbeat changes neither

module _ (r : List ℕ) where
  as_snapped : (after : List ℕ) → bytes_of status_bits after ≡ bytes_of status_bits r → snapped after ≡ snapped r
  unfolding snapped byte_of
  as_snapped after e =
      ap (bit_at 5) (sym (byte_of-part status_bits after {i = 0} (lit< tt)) ∙ ap (λ (l : List ℕ). get_or l 0 0) e ∙ byte_of-part status_bits r {i = 0} (lit< tt))

  pub woken_snap_st : snapped (woken r) ≡ snapped r
  woken_snap_st = as_snapped (woken r) (woken_spares r status_bits (inr (lit≤ tt)) (inr (lit≤ tt)))

  pub woken_copy : bytes_of snapshot (woken r) ≡ bytes_of snapshot r
  woken_copy = woken_spares r snapshot (inr (lit≤ tt)) (inr (lit≤ tt))

  pub late_snap_st : snapped (late r) ≡ snapped r
  late_snap_st = as_snapped (late r) (late_spares r status_bits (inr (lit≤ tt)))

  pub late_copy : bytes_of snapshot (late r) ≡ bytes_of snapshot r
  late_copy = late_spares r snapshot (inr (lit≤ tt))

module _ (message r : List ℕ) where
  pub reached_snap_st : snapped (reached message r) ≡ snapped r
  reached_snap_st = as_snapped r (reached message r) (reached_spares r message status_bits (inr (lit≤ tt)) (inr (lit≤ tt)) (inr (lit≤ tt)))

  pub reached_copy : bytes_of snapshot (reached message r) ≡ bytes_of snapshot r
  reached_copy = reached_spares r message snapshot (inr (lit≤ tt)) (inr (lit≤ tt)) (inr (lit≤ tt))

-- ---- what the cell reads show

-- one of them: its part of the cells that are shown
pub shows_its-part : (p : Part) (r : List ℕ) → of_cells p ≡ true → register p r ≡ six_in p (shown_cells r)
unfolding register shown_cells six_bytes six_in
shows_its-part p r its = where_on (snapped r) refl
  where
    place : (copy_of p).at - snapshot.at ≡ p.at - cells.at
    place = omega arith

    where_on : (on : Bool) → snapped r ≡ on → six_bytes (shown_part p r) r ≡ six_in p (cond on (bytes_of snapshot r) (bytes_of cells r))
    where_on true e =
        ap (λ (q : Part). six_bytes q r) (shows_copy p r its e)
        ∙ ap (λ (bytes : List ℕ). tabulate (λ i. get_or bytes i 0xFF) 0 6)
        (part_of-part (copy_of p) snapshot r (omega arith) (omega (arith, (of-cells p its).begins, (of-cells p its).ends))
        ∙ ap (λ (d : ℕ). take p.size (drop d (bytes_of snapshot r))) place)
    where_on false e =
        ap (λ (q : Part). six_bytes q r) (shows_live p r e)
        ∙ ap (λ (bytes : List ℕ). tabulate (λ i. get_or bytes i 0xFF) 0 6) (part_of-part p cells r (of-cells p its).begins (of-cells p its).ends)

-- all six: the 32 bytes, and FF for the four that register F has not
pub together : (bytes : List ℕ) → length bytes ≡ cells.size → joined (map (λ p. six_in p bytes) cell_reads) ≡ bytes ++ replicate 4 0xFF
unfolding joined tabulate six_in
together bytes l =
    subst (λ (xs : List ℕ). joined (map (λ p. six_in p xs) cell_reads) ≡ xs ++ replicate 4 0xFF) (rebuilt bytes cells.size l) refl

pub length-shown : (r : List ℕ) → length r ≡ record_size → length (shown_cells r) ≡ cells.size
unfolding shown_cells
length-shown r whole = where_on (snapped r)
  where
    where_on : (on : Bool) → length (cond on (bytes_of snapshot r) (bytes_of cells r)) ≡ cells.size
    where_on true = length_part snapshot r (omega arith)
    where_on false = length_part cells r (omega arith)

pub shows_the_cells : (r : List ℕ) → length r ≡ record_size → joined (map (λ p. register p r) cell_reads) ≡ shown_cells r ++ replicate 4 0xFF
unfolding joined
shows_the_cells r whole =
    (λ j.
    joined
    (shows_its-part rdcva r refl j
    ∷ shows_its-part rdcvb r refl j
    ∷ shows_its-part rdcvc r refl j
    ∷ shows_its-part rdcvd r refl j
    ∷ shows_its-part rdcve r refl j
    ∷ shows_its-part rdcvf r refl j
    ∷ []))
    ∙ together (shown_cells r) (length-shown r whole)

-- and a read of no part of the cells its own, as it lies
pub shows_as_it_lies : (p : Part) (r : List ℕ) → of_cells p ≡ false → register p r ≡ six_bytes p r
unfolding register
shows_as_it_lies p r other = ap (λ (q : Part). six_bytes q r) (shows_other p r other)

-- ---- a SNAP where SNAP_ST was set: every register is shown as it was

module _ (own r : List ℕ) where
  same-cells : shown_cells (counted (locked r)) ≡ shown_cells r
  unfolding shown_cells
  same-cells j =
      cond (by-counted r j) (counted_spares snapshot r (inl (lit≤ tt)) (inl (lit≤ tt)) j) (counted_spares cells r (inr (lit≤ tt)) (inr (lit≤ tt)) j)

  pub snap_again_shows : snapped r ≡ true → (p : Part) → Apart p unlocked → Apart p counter → register p (keeps (Bares Snap) own r) ≡ register p r
  unfolding six_bytes
  snap_again_shows on p h k = ap (register p) (snap_again own r on) ∙ where_cells (of_cells p) refl
    where
      where_cells : (its : Bool) → of_cells p ≡ its → register p (counted (locked r)) ≡ register p r
      where_cells true e = shows_its-part p (counted (locked r)) e ∙ ap (six_in p) same-cells ∙ sym (shows_its-part p r e)
      where_cells false e =
          shows_as_it_lies p (counted (locked r)) e
          ∙ ap (λ (bytes : List ℕ). tabulate (λ i. get_or bytes i 0xFF) 0 6) (counted_spares p r h k)
          ∙ sym (shows_as_it_lies p r e)
