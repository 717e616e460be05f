-- LPCM's settings and enabling at one monitor (L8). CMEN, by whether CMC_EN was set; CMC_EN after each command; what CLRCMFLAG
-- makes of the record.
-- Assumes nothing.
use mathlib.Core.Path.{◌≡◌, refl, sym, ap, ap₂, ◌∙◌, subst⁻¹}
use mathlib.Core.Bool.{Bool, true, false, cond}
use mathlib.Core.List.{List}
use mathlib.Core.Logic.{inl, inr}
use Prim.Native.Nat.{ℕ, ◌+◌, ◌-◌, ◌<◌, ◌≤◌}
use native.Mathlib.Nat.{mod-eq_of_lt}
use native.Mathlib.Omega.{arith}
use lib.Bits.{bit_and, bit_or, and_comm, and_mask, and_zero_r, or_zero_l, or_zero_r}
use lib.Dec.{lit<, lit≤}
use lib.ListN.{length, get_or, set}
use lib.Seq.{get_or-set_other, set-get_or}
use Rattle.laws.specs.Bits.{bit_at, odd}
use Rattle.laws.proofs.BitAt.{bit-and}
use Rattle.pec.specs.Words.{sealed_right}
use Rattle.records.specs.declared.commands.Bare.{Bare}
use Rattle.records.specs.declared.commands.Bare.TheVariants.{Mute, Unmute, Rstcc, Ulrr, Clrcell, Snap, Unsnap, Cmen, Cmdis}
use Rattle.records.specs.declared.commands.Command.{Command}
use Rattle.records.specs.declared.commands.Command.TheVariants.{Reads, Writes, Bares, Unlisted}
use Rattle.records.specs.declared.commands.Write.{Write}
use Rattle.records.specs.declared.commands.Write.TheVariants.{Wrcfga, Wrcfgb, Wrrr, Clrflag, Clovuv, Wrpwma, Wrpwmb, Wrcmcfg, Wrcmcellt, Wrcmgpiot, Clrcmflag}
use Rattle.records.specs.declared.record.Part.{Part}
use Rattle.records.specs.Record.{cells, counter, unlocked, cmf0, cmf1, lpcm_flags, last_cells, snapped, record_size, in_lpcm, bytes_of, byte_of, anew, on_bytes}
use Rattle.records.proofs.Anew.{length-anew, anew_inside}
use Rattle.records.proofs.Modes.{lpcm_elsewhere}
use Rattle.records.proofs.Parts.{length_part, made_of, outside_anew, outside_byte}
use Rattle.writes.specs.Writes.{rules_of, changed, by_rules}
use Rattle.writes.proofs.Written.{opens_always}
use Rattle.monitor.specs.Effects.{locked, counted, cells_to, copied, enabled, done, keeps}
use Rattle.monitor.proofs.Keeping.{accepts_awake, right-good, keeps_opened}
use Rattle.monitor.proofs.Spares.{counted_spares}
use Rattle.story.specs.Lpcm.{enabled_by, enabled_after}
use Rattle.story.proofs.Modes.{counted-whole, either_mode, mode_after_write}
use Rattle.story.proofs.Snapshot.{left-by_and}

-- ---- CMC_EN

module _ (r : List ℕ) where
  by-locked : in_lpcm (locked r) ≡ in_lpcm r
  unfolding locked on_bytes
  by-locked = lpcm_elsewhere _ _ _ r (inl (lit≤ tt))

  by-counted : in_lpcm (counted (locked r)) ≡ in_lpcm r
  unfolding counted on_bytes
  by-counted = lpcm_elsewhere _ _ _ (locked r) (inl (lit≤ tt)) ∙ by-locked

  -- a byte behind both
  byte_behind : (p : Part) → 1 ≤ p.size → unlocked.at + 1 ≤ p.at → byte_of p (counted (locked r)) ≡ byte_of p r
  unfolding locked counted on_bytes
  byte_behind p some h = outside_byte p _ counter.at 1 _ some (inl (omega arith)) ∙ outside_byte p _ unlocked.at 1 r some (inl h)

-- its byte made anew
cmf1-anew : (f : ℕ → ℕ → ℕ) (r : List ℕ) → length r ≡ record_size → in_lpcm (on_bytes cmf1 f r) ≡ bit_at 7 (f 0 (byte_of cmf1 r))
unfolding in_lpcm on_bytes byte_of
cmf1-anew f r whole = ap (bit_at 7) (anew_inside f cmf1.at 1 r 0 (lit< tt) (omega arith))

-- CLRCMFLAG sends a byte for CMF1 too, and leaves it
second_byte : (sent : List ℕ) (old : ℕ) → changed (rules_of Clrcmflag) sent 1 old ≡ bit_and old 255
unfolding changed
second_byte sent old =
    let s = get_or sent 1 0 in
    or_zero_r _
    ∙ ap₂ (λ (x y : ℕ). bit_or x (bit_and old (bit_and 255 (255 - y)))) (and_zero_r s) (and_zero_r s)
    ∙ or_zero_l (bit_and old 255)

by-rules : (c : Write) (sent r : List ℕ) → length r ≡ record_size → in_lpcm (by_rules c sent r) ≡ in_lpcm r
unfolding by_rules in_lpcm byte_of bit_at odd
by-rules Wrcfga sent r whole = lpcm_elsewhere _ _ 6 r (inl (lit≤ tt))
by-rules Wrcfgb sent r whole = lpcm_elsewhere _ _ 6 r (inl (lit≤ tt))
by-rules Wrrr sent r whole = lpcm_elsewhere _ _ 6 r (inl (lit≤ tt))
by-rules Clrflag sent r whole = lpcm_elsewhere _ _ 6 r (inl (lit≤ tt))
by-rules Clovuv sent r whole = lpcm_elsewhere _ _ 6 r (inl (lit≤ tt))
by-rules Wrpwma sent r whole = lpcm_elsewhere _ _ 6 r (inl (lit≤ tt))
by-rules Wrpwmb sent r whole = lpcm_elsewhere _ _ 6 r (inl (lit≤ tt))
by-rules Wrcmcfg sent r whole = lpcm_elsewhere _ _ 6 r (inl (lit≤ tt))
by-rules Wrcmcellt sent r whole = lpcm_elsewhere _ _ 6 r (inl (lit≤ tt))
by-rules Wrcmgpiot sent r whole = lpcm_elsewhere _ _ 6 r (inl (lit≤ tt))
by-rules Clrcmflag sent r whole =
    ap (bit_at 7) (anew_inside (changed (rules_of Clrcmflag) sent) lpcm_flags.at 2 r 1 (lit< tt) (omega arith) ∙ second_byte sent _) ∙ left-by_and 7 (byte_of cmf1 r) 255 refl

enabled-on : (r : List ℕ) → length r ≡ record_size → in_lpcm (enabled r) ≡ true
unfolding enabled cells_to on_bytes bit_at odd
enabled-on r whole = cmf1-anew (λ i old. 0x83) _ (length-anew _ _ _ r ∙ whole)

enabled_copy : (r : List ℕ) → length r ≡ record_size → bytes_of last_cells (enabled r) ≡ bytes_of cells r
unfolding enabled cells_to on_bytes
enabled_copy r whole =
    outside_anew last_cells (λ i old. 0x83) cmf1.at 1 _ (inl (lit≤ tt))
    ∙ made_of last_cells (bytes_of cells r) r (length_part cells r (omega arith)) (omega arith)

by-done : (c : Bare) (r : List ℕ) → length r ≡ record_size → in_lpcm (done c r) ≡ enabled_by c (in_lpcm r)
unfolding done copied cells_to on_bytes bit_at odd in_lpcm
by-done Mute r whole = lpcm_elsewhere _ _ _ r (inl (lit≤ tt))
by-done Unmute r whole = lpcm_elsewhere _ _ _ r (inl (lit≤ tt))
by-done Rstcc r whole = lpcm_elsewhere _ _ _ r (inl (lit≤ tt))
by-done Ulrr r whole = lpcm_elsewhere _ _ _ r (inl (lit≤ tt))
by-done Clrcell r whole = lpcm_elsewhere _ _ _ r (inl (lit≤ tt))
by-done Snap r whole = either_mode in_lpcm (snapped r) r (copied r) refl (lpcm_elsewhere _ _ _ _ (inl (lit≤ tt)) ∙ lpcm_elsewhere _ _ _ r (inl (lit≤ tt)))
by-done Unsnap r whole = lpcm_elsewhere _ _ _ r (inl (lit≤ tt))
by-done Cmen r whole = where_on (in_lpcm r) refl
  where
    where_on : (on : Bool) → in_lpcm r ≡ on → in_lpcm (cond on r (enabled r)) ≡ true
    where_on true e = e
    where_on false e = enabled-on r whole
by-done Cmdis r whole = cmf1-anew (λ i old. bit_and old 0x7F) r whole ∙ bit-and 7 (byte_of cmf1 r) 0x7F refl

module _ (own r : List ℕ) where
  by_cmen : {on : Bool} → in_lpcm r ≡ on → keeps (Bares Cmen) own r ≡ cond on (counted (locked r)) (enabled (counted (locked r)))
  unfolding keeps done
  by_cmen e = ap (λ (on : Bool). cond on (counted (locked r)) (enabled (counted (locked r)))) (by-counted r ∙ e)

  pub cmen_again : in_lpcm r ≡ true → keeps (Bares Cmen) own r ≡ counted (locked r)
  cmen_again e = by_cmen e

  pub cmen_enables : in_lpcm r ≡ false
      → keeps (Bares Cmen) own r ≡ on_bytes cmf1 (λ i old. 0x83) (on_bytes last_cells (λ i old. get_or (bytes_of cells r) i 0) (counted (locked r)))
  unfolding enabled cells_to
  cmen_enables e =
      by_cmen e
      ∙ ap (λ (bytes : List ℕ). on_bytes cmf1 (λ i old. 0x83) (on_bytes last_cells (λ i old. get_or bytes i 0) (counted (locked r)))) (counted_spares cells r (inr (lit≤ tt)) (inr (lit≤ tt)))

  module _ (whole : length r ≡ record_size) where
    base-whole : length (counted (locked r)) ≡ record_size
    base-whole = counted-whole r whole

    pub enabled-after : (c : Command) → in_lpcm (keeps c own r) ≡ enabled_after c (in_lpcm r)
    unfolding keeps
    enabled-after (Reads p) = by-locked r
    enabled-after (Writes c) = mode_after_write in_lpcm by-locked by-counted by-rules c own r whole
    enabled-after (Bares c) = by-done c (counted (locked r)) base-whole ∙ ap (enabled_by c) (by-counted r)
    enabled-after Unlisted = refl

    -- the last measurement after CMEN
    pub last-cells : bytes_of last_cells (keeps (Bares Cmen) own r) ≡ cond (in_lpcm r) (bytes_of last_cells r) (bytes_of cells r)
    last-cells = ap (bytes_of last_cells) (by_cmen refl) ∙ where_on (in_lpcm r)
      where
        where_on : (on : Bool) → bytes_of last_cells (cond on (counted (locked r)) (enabled (counted (locked r)))) ≡ cond on (bytes_of last_cells r) (bytes_of cells r)
        where_on true = counted_spares last_cells r (inl (lit≤ tt)) (inl (lit≤ tt))
        where_on false = enabled_copy (counted (locked r)) base-whole ∙ counted_spares cells r (inr (lit≤ tt)) (inr (lit≤ tt))

    -- ---- CLRCMFLAG

    module _ (awake : in_lpcm r ≡ false) (right : sealed_right 2 own ≡ true) where
      cleared_is : keeps (Writes Clrcmflag) own r ≡ by_rules Clrcmflag own (counted (locked r))
      cleared_is =
          keeps_opened Clrcmflag own r (accepts_awake Clrcmflag own r awake ∙ right-good Clrcmflag own right)
          (opens_always (rules_of Clrcmflag) (byte_of unlocked r) refl)

      first_byte : (old : ℕ) → get_or own 0 0 < 256 → changed (rules_of Clrcmflag) own 0 old ≡ bit_and old (255 - get_or own 0 0)
      unfolding changed
      first_byte old byte =
          let s = get_or own 0 0 in
          let small : 255 - s < 256 = omega arith in
          or_zero_r _
          ∙ ap₂ (λ (x y : ℕ). bit_or x (bit_and old (bit_and 255 (255 - y)))) (and_zero_r s) (and_mask s 8 ∙ mod-eq_of_lt byte)
          ∙ or_zero_l (bit_and old (bit_and 255 (255 - s)))
          ∙ ap (bit_and old) (and_comm 255 (255 - s) ∙ and_mask (255 - s) 8 ∙ mod-eq_of_lt small)

      -- both of its bytes, CMF1's as it was
      both_made : (t : List ℕ) → get_or own 0 0 < 256 → get_or t cmf1.at 0 < 256
          → anew (changed (rules_of Clrcmflag) own) lpcm_flags.at 2 t ≡ on_bytes cmf0 (λ i old. bit_and old (255 - get_or own 0 0)) t
      unfolding on_bytes anew
      both_made t byte byte-1 =
          let v = bit_and (get_or t cmf0.at 0) (255 - get_or own 0 0) in
          let as_it_was = second_byte own (get_or t cmf1.at 0) ∙ and_mask (get_or t cmf1.at 0) 8 ∙ mod-eq_of_lt byte-1 in
          ap₂ (λ (x y : ℕ). set (set t cmf0.at x) cmf1.at y) (first_byte (get_or t cmf0.at 0) byte)
          (as_it_was ∙ sym (get_or-set_other t cmf0.at cmf1.at v 0 (λ e. omega (arith, e))))
          ∙ set-get_or (set t cmf0.at v) cmf1.at 0

      -- each bit of the first byte that is 1 clears that bit of CMF0, and no other byte changes: CMF1, which has a byte sent for it, stays
      pub clrcmflag_clears : get_or own 0 0 < 256 → byte_of cmf1 r < 256
          → keeps (Writes Clrcmflag) own r ≡ on_bytes cmf0 (λ i old. bit_and old (255 - get_or own 0 0)) (counted (locked r))
      unfolding by_rules byte_of
      clrcmflag_clears byte byte-1 = cleared_is ∙ both_made (counted (locked r)) byte (subst⁻¹ (λ (x : ℕ). x < 256) (byte_behind r cmf1 (lit≤ tt) (lit≤ tt)) byte-1)
