-- A record grows behind what it was, and the commands that were there before know nothing of it: each does to the front what it does without
-- the rest, and leaves the rest; a write where the rest does not say that the monitor is in LPCM. A read of the front replies from it, but for one of
-- the cells while a snapshot is on. And what stays: the PWM groups at every command but WRPWMA and WRPWMB, the copy at every command but SNAP,
-- CMF0 at every command but CLRCMFLAG, the last measurement at every command but CMEN.
-- Assumes nothing.
use mathlib.Core.Path.{◌≡◌, refl, sym, ap, ap₂, ◌∙◌, subst⁻¹}
use mathlib.Core.Bool.{Bool, false, cond, ◌&&◌}
use mathlib.Core.List.{List, ◌++◌}
use mathlib.Core.Logic.{inl, inr}
use Prim.Native.Nat.{ℕ, ◌+◌, ◌≤◌}
use native.Mathlib.Omega.{arith}
use lib.Dec.{lit≤}
use lib.ListN.{length, get_or, get_or-eq_default}
use Rattle.laws.specs.Bits.{bit_at, odd}
use Rattle.laws.specs.Tables.{tabulate}
use Rattle.pec.specs.Words.{seal}
use Rattle.records.specs.declared.commands.Bare.TheVariants.{Mute, Unmute, Rstcc, Ulrr, Clrcell, Snap, Unsnap, Cmen, Cmdis}
use Rattle.records.specs.declared.commands.Command.{Command}
use Rattle.records.specs.declared.commands.Command.TheVariants.{Reads, Writes, Bares, Unlisted}
use Rattle.records.specs.declared.commands.Write.{Write}
use Rattle.records.specs.declared.commands.Write.TheVariants.{Wrcfga, Wrcfgb, Wrrr, Clrflag, Clovuv, Wrpwma, Wrpwmb, Wrcmcfg, Wrcmcellt, Wrcmgpiot, Clrcmflag}
use Rattle.records.specs.declared.record.Part.{Part}
use Rattle.records.specs.Record.{counter, pwm_a, pwm_b, snapshot, lpcm_flags, cmf0, cmf1, last_cells, snapped, in_lpcm, bytes_of, byte_of}
use Rattle.records.proofs.Parts.{bytes_front, byte_front}
use Rattle.records.proofs.Modes.{snapped_front}
use Rattle.monitor.specs.Effects.{keeps}
use Rattle.monitor.specs.Spares.{sent_to, Before, Spares}
use Rattle.monitor.proofs.Spares.{keeps_spares, keeps_front}
use Rattle.reads.specs.Shown.{of_cells, copy_of, shown_part}
use Rattle.reads.specs.Reply.{six_bytes, register, reply}
use Rattle.story.specs.Growth.{size01, size_l2, size_l6}

-- ---- a record that goes on

pub as_before : (c : Command) (own front rest : List ℕ) → size01 ≤ length front → Before c (length front)
    → ((w : Write) → c ≡ Writes w → in_lpcm (front ++ rest) ≡ in_lpcm front) → keeps c own (front ++ rest) ≡ keeps c own front ++ rest
as_before c own front rest base within mode = keeps_front front rest (omega arith) c own mode within

-- a front that ends before CMF1 does not tell of LPCM: a monitor that is not in LPCM does as one of that front
pub front_awake : (front : List ℕ) → length front ≤ cmf1.at → in_lpcm front ≡ false
unfolding in_lpcm byte_of bit_at odd
front_awake front h = ap (bit_at 7) (get_or-eq_default front 0 h)

-- what is read of the front: of the cells only where no snapshot is on
pub reply_as_before : (p : Part) (front rest : List ℕ) → p.at + p.size ≤ length front → pwm_a.at ≤ length front → of_cells p && snapped front ≡ false
    → reply p (front ++ rest) ≡ reply p front
unfolding reply register six_bytes shown_part
reply_as_before p front rest h l live =
    ap (λ (on : Bool). sealing (six_bytes (cond (of_cells p && on) (copy_of p) p) (front ++ rest)) (byte_of counter (front ++ rest))) (snapped_front front rest (omega arith))
    ∙ ap (λ (on : Bool). sealing (six_bytes (cond on (copy_of p) p) (front ++ rest)) (byte_of counter (front ++ rest))) live
    ∙ ap₂ (λ (bytes : List ℕ) (count : ℕ). sealing (tabulate (λ i. get_or bytes i 0xFF) 0 6) count) (bytes_front p front rest h) (byte_front counter front rest (omega arith))
    ∙ ap (λ (on : Bool). sealing (six_bytes (cond on (copy_of p) p) front) (byte_of counter front)) (sym live)
  where
    sealing : List ℕ → ℕ → List ℕ
    sealing six count = six ++ seal six count

-- ---- parts that stay

-- a part between document 01's record and LPCM's, by what lies between: the PWM groups and the copy
spares_by : {A : Type 0} (p : Part) → size01 ≤ p.at → p.at + p.size ≤ size_l6 → (c : Command)
    → (Spares c p → A) → (c ≡ Writes Wrpwma → A) → (c ≡ Writes Wrpwmb → A) → (c ≡ Bares Snap → A) → A
spares_by p h k (Reads q) spared a b snap = spared (inl (omega arith))
spares_by p h k (Writes Wrcfga) spared a b snap = spared (inl (omega arith), (inl (omega arith), inl (omega arith)))
spares_by p h k (Writes Wrcfgb) spared a b snap = spared (inl (omega arith), (inl (omega arith), inl (omega arith)))
spares_by p h k (Writes Wrrr) spared a b snap = spared (inl (omega arith), (inl (omega arith), inl (omega arith)))
spares_by p h k (Writes Clrflag) spared a b snap = spared (inl (omega arith), (inl (omega arith), inl (omega arith)))
spares_by p h k (Writes Clovuv) spared a b snap = spared (inl (omega arith), (inl (omega arith), inl (omega arith)))
spares_by p h k (Writes Wrpwma) spared a b snap = a refl
spares_by p h k (Writes Wrpwmb) spared a b snap = b refl
spares_by p h k (Writes Wrcmcfg) spared a b snap = spared (inl (omega arith), (inl (omega arith), inr (omega arith)))
spares_by p h k (Writes Wrcmcellt) spared a b snap = spared (inl (omega arith), (inl (omega arith), inr (omega arith)))
spares_by p h k (Writes Wrcmgpiot) spared a b snap = spared (inl (omega arith), (inl (omega arith), inr (omega arith)))
spares_by p h k (Writes Clrcmflag) spared a b snap = spared (inl (omega arith), (inl (omega arith), inr (omega arith)))
spares_by p h k (Bares Mute) spared a b snap = spared (inl (omega arith), (inl (omega arith), (inl (omega arith), tt)))
spares_by p h k (Bares Unmute) spared a b snap = spared (inl (omega arith), (inl (omega arith), (inl (omega arith), tt)))
spares_by p h k (Bares Rstcc) spared a b snap = spared (inl (omega arith), (inl (omega arith), (inl (omega arith), tt)))
spares_by p h k (Bares Ulrr) spared a b snap = spared (inl (omega arith), (inl (omega arith), (inl (omega arith), tt)))
spares_by p h k (Bares Clrcell) spared a b snap = spared (inl (omega arith), (inl (omega arith), (inl (omega arith), tt)))
spares_by p h k (Bares Snap) spared a b snap = snap refl
spares_by p h k (Bares Unsnap) spared a b snap = spared (inl (omega arith), (inl (omega arith), (inl (omega arith), tt)))
spares_by p h k (Bares Cmen) spared a b snap = spared (inl (omega arith), (inl (omega arith), (inr (omega arith), (inr (omega arith), tt))))
spares_by p h k (Bares Cmdis) spared a b snap = spared (inl (omega arith), (inl (omega arith), (inr (omega arith), tt)))
spares_by p h k Unlisted spared a b snap = spared tt

-- the PWM groups lie between what SNAP changes
beside_snap : (p : Part) → size01 ≤ p.at → p.at + p.size ≤ size_l2 → Spares (Bares Snap) p
beside_snap p h k = (inl (omega arith), (inl (omega arith), (inl (omega arith), (inr k, tt))))

pub pwm_stays : (c : Command) → (c ≡ Writes Wrpwma → ⊥) → (c ≡ Writes Wrpwmb → ⊥) → (own r : List ℕ)
    → (bytes_of pwm_a (keeps c own r) ≡ bytes_of pwm_a r) × (bytes_of pwm_b (keeps c own r) ≡ bytes_of pwm_b r)
pwm_stays c a b own r = (stays pwm_a (lit≤ tt) (lit≤ tt), stays pwm_b (lit≤ tt) (lit≤ tt))
  where
    stays : (p : Part) → size01 ≤ p.at → p.at + p.size ≤ size_l2 → bytes_of p (keeps c own r) ≡ bytes_of p r
    stays p h k =
        keeps_spares p c own r
        (spares_by p h (omega arith) c (λ spared. spared) (λ e. absurd (a e)) (λ e. absurd (b e)) (λ e. subst⁻¹ (λ (x : Command). Spares x p) e (beside_snap p h k)))

-- and each whatever the other's write does
pub b_stays : (own r : List ℕ) → bytes_of pwm_b (keeps (Writes Wrpwma) own r) ≡ bytes_of pwm_b r
b_stays own r = keeps_spares pwm_b (Writes Wrpwma) own r (inl (lit≤ tt), (inl (lit≤ tt), inl (lit≤ tt)))

pub a_stays : (own r : List ℕ) → bytes_of pwm_a (keeps (Writes Wrpwmb) own r) ≡ bytes_of pwm_a r
a_stays own r = keeps_spares pwm_a (Writes Wrpwmb) own r (inl (lit≤ tt), (inl (lit≤ tt), inr (lit≤ tt)))

-- the copy, as far as SNAP leaves it
module _ (c : Command) (own r : List ℕ) where
  pub copy_by : (c ≡ Bares Snap → bytes_of snapshot (keeps c own r) ≡ bytes_of snapshot r) → bytes_of snapshot (keeps c own r) ≡ bytes_of snapshot r
  copy_by snap = spares_by snapshot (lit≤ tt) (lit≤ tt) c (keeps_spares snapshot c own r) (ends Wrpwma (lit≤ tt)) (ends Wrpwmb (lit≤ tt)) snap
    where
      -- a write that ends before the copy
      ends : (w : Write) → (sent_to w).at + (sent_to w).size ≤ snapshot.at → c ≡ Writes w → bytes_of snapshot (keeps c own r) ≡ bytes_of snapshot r
      ends w h e = keeps_spares snapshot c own r (subst⁻¹ (λ (x : Command). Spares x snapshot) e (inl (lit≤ tt), (inl (lit≤ tt), inl h)))

  pub copy_stays : (c ≡ Bares Snap → ⊥) → bytes_of snapshot (keeps c own r) ≡ bytes_of snapshot r
  copy_stays snap = copy_by (λ e. absurd (snap e))

-- ---- LPCM's flags and last measurement

-- a part of them, but for the commands that change one or the other
lpcm_by : {A : Type 0} (p : Part) → lpcm_flags.at ≤ p.at → (c : Command)
    → (Spares c p → A) → (c ≡ Writes Clrcmflag → A) → (c ≡ Bares Cmen → A) → (c ≡ Bares Cmdis → A) → A
lpcm_by p h (Reads q) spared clr on off = spared (inl (omega arith))
lpcm_by p h (Writes Wrcfga) spared clr on off = spared (inl (omega arith), (inl (omega arith), inl (omega arith)))
lpcm_by p h (Writes Wrcfgb) spared clr on off = spared (inl (omega arith), (inl (omega arith), inl (omega arith)))
lpcm_by p h (Writes Wrrr) spared clr on off = spared (inl (omega arith), (inl (omega arith), inl (omega arith)))
lpcm_by p h (Writes Clrflag) spared clr on off = spared (inl (omega arith), (inl (omega arith), inl (omega arith)))
lpcm_by p h (Writes Clovuv) spared clr on off = spared (inl (omega arith), (inl (omega arith), inl (omega arith)))
lpcm_by p h (Writes Wrpwma) spared clr on off = spared (inl (omega arith), (inl (omega arith), inl (omega arith)))
lpcm_by p h (Writes Wrpwmb) spared clr on off = spared (inl (omega arith), (inl (omega arith), inl (omega arith)))
lpcm_by p h (Writes Wrcmcfg) spared clr on off = spared (inl (omega arith), (inl (omega arith), inl (omega arith)))
lpcm_by p h (Writes Wrcmcellt) spared clr on off = spared (inl (omega arith), (inl (omega arith), inl (omega arith)))
lpcm_by p h (Writes Wrcmgpiot) spared clr on off = spared (inl (omega arith), (inl (omega arith), inl (omega arith)))
lpcm_by p h (Writes Clrcmflag) spared clr on off = clr refl
lpcm_by p h (Bares Mute) spared clr on off = spared (inl (omega arith), (inl (omega arith), (inl (omega arith), tt)))
lpcm_by p h (Bares Unmute) spared clr on off = spared (inl (omega arith), (inl (omega arith), (inl (omega arith), tt)))
lpcm_by p h (Bares Rstcc) spared clr on off = spared (inl (omega arith), (inl (omega arith), (inl (omega arith), tt)))
lpcm_by p h (Bares Ulrr) spared clr on off = spared (inl (omega arith), (inl (omega arith), (inl (omega arith), tt)))
lpcm_by p h (Bares Clrcell) spared clr on off = spared (inl (omega arith), (inl (omega arith), (inl (omega arith), tt)))
lpcm_by p h (Bares Snap) spared clr on off = spared (inl (omega arith), (inl (omega arith), (inl (omega arith), (inl (omega arith), tt))))
lpcm_by p h (Bares Unsnap) spared clr on off = spared (inl (omega arith), (inl (omega arith), (inl (omega arith), tt)))
lpcm_by p h (Bares Cmen) spared clr on off = on refl
lpcm_by p h (Bares Cmdis) spared clr on off = off refl
lpcm_by p h Unlisted spared clr on off = spared tt

module _ (c : Command) (own r : List ℕ) where
  -- CMF0 changes by CLRCMFLAG alone
  pub cmf0_stays : (c ≡ Writes Clrcmflag → ⊥) → bytes_of cmf0 (keeps c own r) ≡ bytes_of cmf0 r
  cmf0_stays other =
      keeps_spares cmf0 c own r
      (lpcm_by cmf0 (lit≤ tt) c (λ spared. spared) (λ e. absurd (other e))
      (λ e. subst⁻¹ (λ (x : Command). Spares x cmf0) e (inl (lit≤ tt), (inl (lit≤ tt), (inr (lit≤ tt), (inr (lit≤ tt), tt)))))
      (λ e. subst⁻¹ (λ (x : Command). Spares x cmf0) e (inl (lit≤ tt), (inl (lit≤ tt), (inr (lit≤ tt), tt)))))

  -- the last measurement by CMEN alone
  pub last_stays : (c ≡ Bares Cmen → ⊥) → bytes_of last_cells (keeps c own r) ≡ bytes_of last_cells r
  last_stays other =
      keeps_spares last_cells c own r
      (lpcm_by last_cells (lit≤ tt) c (λ spared. spared)
      (λ e. subst⁻¹ (λ (x : Command). Spares x last_cells) e (inl (lit≤ tt), (inl (lit≤ tt), inl (lit≤ tt)))) (λ e. absurd (other e))
      (λ e. subst⁻¹ (λ (x : Command). Spares x last_cells) e (inl (lit≤ tt), (inl (lit≤ tt), (inl (lit≤ tt), tt)))))
