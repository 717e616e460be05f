-- What a command leaves: every part of a record that lies outside what the command may change. And a record that goes on behind all that a
-- command may change: the command does to the front what it does without the rest, and leaves the rest.
-- Assumes nothing.
use mathlib.Core.Path.{◌≡◌, refl, ap, ap₂, ◌∙◌, subst⁻¹}
use mathlib.Core.Bool.{Bool, true, false, cond, not, ◌&&◌}
use mathlib.Core.List.{List, ◌++◌}
use Prim.Native.Nat.{ℕ, ◌+◌, ◌≤◌}
use native.Mathlib.Omega.{arith}
use lib.Bits.{bit_or}
use lib.Dec.{lit≤}
use lib.ListN.{length, get_or}
use Rattle.records.specs.declared.commands.Bare.{Bare}
use Rattle.records.specs.declared.commands.Bare.TheVariants.{Mute, Unmute, Rstcc, Ulrr, Clrcell, Snap, Unsnap, Cmen, Cmdis}
use Rattle.records.specs.declared.commands.Command.{Command}
use Rattle.records.specs.declared.commands.Command.TheVariants.{Reads, Writes, Bares, Unlisted}
use Rattle.records.specs.declared.commands.Write.{Write}
use Rattle.records.specs.declared.record.Part.{Part}
use Rattle.records.specs.Record.{cells, counter, unlocked, snapshot, status_bits, cmf1, last_cells, snapped, in_lpcm, bytes_of, byte_of, on_bytes}
use Rattle.records.specs.Commands.{data_size}
use Rattle.writes.specs.Writes.{rules_of, by_rules, opens, written}
use Rattle.monitor.specs.Effects.{locked, counted, cells_to, copied, enabled, done, good_for, accepts, keeps}
use Rattle.monitor.specs.Spares.{sent_to, parts_of, Apart, ApartFrom, Spares, EndBefore, Before}
use Rattle.records.proofs.Anew.{length-anew, anew_front}
use Rattle.records.proofs.Parts.{bytes_front, byte_front, outside_anew}
use Rattle.records.proofs.Modes.{snapped_front, lpcm_front}
use Rattle.monitor.proofs.Sound.{length-locked, length-counted}

-- ---- such a part stays

module _ (p : Part) where
  either : (b : Bool) (xs ys r : List ℕ) → bytes_of p xs ≡ bytes_of p r → bytes_of p ys ≡ bytes_of p r → bytes_of p (cond b xs ys) ≡ bytes_of p r
  either true xs ys r h k = h
  either false xs ys r h k = k

  locked_spares : (r : List ℕ) → Apart p unlocked → bytes_of p (locked r) ≡ bytes_of p r
  unfolding locked on_bytes
  locked_spares r h = outside_anew p _ unlocked.at unlocked.size r h

  pub counted_spares : (r : List ℕ) → Apart p unlocked → Apart p counter → bytes_of p (counted (locked r)) ≡ bytes_of p r
  unfolding counted on_bytes
  counted_spares r h k = outside_anew p _ counter.at counter.size (locked r) k ∙ locked_spares r h

  written_spares : (c : Write) (was : ℕ) (sent r : List ℕ) → Apart p (sent_to c) → bytes_of p (written c was sent r) ≡ bytes_of p r
  unfolding written by_rules
  written_spares c was sent r h = either (opens (rules_of c) was) _ r r (outside_anew p _ (rules_of c).at (data_size c) r h) refl

  copied_spares : (r : List ℕ) → Apart p status_bits → Apart p snapshot → bytes_of p (copied r) ≡ bytes_of p r
  unfolding copied cells_to on_bytes
  copied_spares r h k = outside_anew p _ _ _ _ h ∙ outside_anew p _ _ _ r k

  enabled_spares : (r : List ℕ) → Apart p cmf1 → Apart p last_cells → bytes_of p (enabled r) ≡ bytes_of p r
  unfolding enabled cells_to on_bytes
  enabled_spares r h k = outside_anew p _ _ _ _ h ∙ outside_anew p _ _ _ r k

  done_spares : (c : Bare) (r : List ℕ) → ApartFrom p (parts_of c) → bytes_of p (done c r) ≡ bytes_of p r
  unfolding done on_bytes
  done_spares Mute r h = outside_anew p _ _ _ r h.0
  done_spares Unmute r h = outside_anew p _ _ _ r h.0
  done_spares Rstcc r h = outside_anew p _ _ _ r h.0
  done_spares Ulrr r h = outside_anew p _ _ _ r h.0
  done_spares Clrcell r h = outside_anew p _ _ _ r h.0
  done_spares Snap r h = either (snapped r) r (copied r) r refl (copied_spares r h.0 h.1.0)
  done_spares Unsnap r h = outside_anew p _ _ _ r h.0
  done_spares Cmen r h = either (in_lpcm r) r (enabled r) r refl (enabled_spares r h.0 h.1.0)
  done_spares Cmdis r h = outside_anew p _ _ _ r h.0

  pub keeps_spares : (c : Command) (own r : List ℕ) → Spares c p → bytes_of p (keeps c own r) ≡ bytes_of p r
  unfolding keeps
  keeps_spares (Reads q) own r h = locked_spares r h
  keeps_spares (Writes c) own r h =
      either (accepts c own r) _ _ r
      (written_spares c (byte_of unlocked r) own (counted (locked r)) h.1.1 ∙ counted_spares r h.0 h.1.0)
      (locked_spares r h.0)
  keeps_spares (Bares c) own r h = done_spares c (counted (locked r)) h.1.1 ∙ counted_spares r h.0 h.1.0
  keeps_spares Unlisted own r h = refl

-- ---- a record that goes on

module _ (front rest : List ℕ) (long : unlocked.at + 1 ≤ length front) where
  either_front : (b : Bool) (xs' ys' : List ℕ) {xs ys : List ℕ} → xs ≡ xs' ++ rest → ys ≡ ys' ++ rest → cond b xs ys ≡ cond b xs' ys' ++ rest
  either_front true xs' ys' h k = h
  either_front false xs' ys' h k = k

  locked_front : locked (front ++ rest) ≡ locked front ++ rest
  unfolding locked on_bytes
  locked_front = anew_front _ unlocked.at 1 front rest long

  counted_front : counted (locked (front ++ rest)) ≡ counted (locked front) ++ rest
  unfolding counted on_bytes
  counted_front = ap counted locked_front ∙ anew_front _ counter.at 1 (locked front) rest (omega (arith, length-locked front))

  -- how long what is counted is
  same : length (counted (locked front)) ≡ length front
  same = length-counted (locked front) ∙ length-locked front

  written_front : (c : Write) (was : ℕ) (sent r : List ℕ) → (sent_to c).at + (sent_to c).size ≤ length r
      → written c was sent (r ++ rest) ≡ written c was sent r ++ rest
  unfolding written by_rules
  written_front c was sent r h = either_front (opens (rules_of c) was) _ r (anew_front _ (rules_of c).at (data_size c) r rest h) refl

  cells_to_front : (p : Part) (r : List ℕ) → cells.at + cells.size ≤ p.at → p.at + p.size ≤ length r → cells_to p (r ++ rest) ≡ cells_to p r ++ rest
  unfolding cells_to on_bytes
  cells_to_front p r k h =
      ap (λ (bytes : List ℕ). on_bytes p (λ i old. get_or bytes i 0) (r ++ rest)) (bytes_front cells r rest (omega arith))
      ∙ anew_front _ p.at p.size r rest h

  length-cells_to : (p : Part) (r : List ℕ) → length (cells_to p r) ≡ length r
  unfolding cells_to on_bytes
  length-cells_to p r = length-anew _ _ _ r

  copied_front : (r : List ℕ) → snapshot.at + snapshot.size ≤ length r → copied (r ++ rest) ≡ copied r ++ rest
  unfolding copied on_bytes
  copied_front r h =
      ap (on_bytes status_bits (λ i old. bit_or old 0x20)) (cells_to_front snapshot r (lit≤ tt) h)
      ∙ anew_front _ status_bits.at 1 _ rest (omega (arith, length-cells_to snapshot r))

  enabled_front : (r : List ℕ) → last_cells.at + last_cells.size ≤ length r → enabled (r ++ rest) ≡ enabled r ++ rest
  unfolding enabled on_bytes
  enabled_front r h =
      ap (on_bytes cmf1 (λ i old. 0x83)) (cells_to_front last_cells r (lit≤ tt) h)
      ∙ anew_front _ cmf1.at 1 _ rest (omega (arith, length-cells_to last_cells r))

  done_front : (c : Bare) (r : List ℕ) → EndBefore (parts_of c) (length r) → done c (r ++ rest) ≡ done c r ++ rest
  unfolding done on_bytes
  done_front Mute r h = anew_front _ _ _ r rest h.0
  done_front Unmute r h = anew_front _ _ _ r rest h.0
  done_front Rstcc r h = anew_front _ _ _ r rest h.0
  done_front Ulrr r h = anew_front _ _ _ r rest h.0
  done_front Clrcell r h = anew_front _ _ _ r rest h.0
  done_front Snap r h =
      ap (λ (on : Bool). cond on (r ++ rest) (copied (r ++ rest))) (snapped_front r rest h.0)
      ∙ either_front (snapped r) r (copied r) refl (copied_front r h.1.0)
  done_front Unsnap r h = anew_front _ _ _ r rest h.0
  done_front Cmen r h =
      ap (λ (on : Bool). cond on (r ++ rest) (enabled (r ++ rest))) (lpcm_front r rest h.0)
      ∙ either_front (in_lpcm r) r (enabled r) refl (enabled_front r h.1.0)
  done_front Cmdis r h = anew_front _ _ _ r rest h.0

  accepts_front : in_lpcm (front ++ rest) ≡ in_lpcm front → (c : Write) (own : List ℕ) → accepts c own (front ++ rest) ≡ accepts c own front
  unfolding accepts
  accepts_front mode c own = ap (λ (b : Bool). not b && good_for c own) mode

  -- of a write, where the rest does not tell otherwise whether the monitor is in LPCM
  pub keeps_front : (c : Command) (own : List ℕ) → ((w : Write) → c ≡ Writes w → in_lpcm (front ++ rest) ≡ in_lpcm front) → Before c (length front)
      → keeps c own (front ++ rest) ≡ keeps c own front ++ rest
  unfolding keeps
  keeps_front (Reads q) own mode h = locked_front
  keeps_front (Writes c) own mode h =
      ap (λ (b : Bool). cond b (written c (byte_of unlocked (front ++ rest)) own (counted (locked (front ++ rest)))) (locked (front ++ rest))) (accepts_front (mode c refl) c own)
      ∙ either_front (accepts c own front) _ (locked front)
      (ap₂ (λ (was : ℕ) (r : List ℕ). written c was own r) (byte_front unlocked front rest long) counted_front
      ∙ written_front c (byte_of unlocked front) own (counted (locked front)) (omega (arith, same)))
      locked_front
  keeps_front (Bares c) own mode h = ap (done c) counted_front ∙ done_front c (counted (locked front)) (subst⁻¹ (EndBefore (parts_of c)) same h)
  keeps_front Unlisted own mode h = refl
