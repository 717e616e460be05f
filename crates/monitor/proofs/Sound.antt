-- A sound record stays sound, whatever a monitor keeps: the counter's byte and the retention's change by their own rules alone,
-- and no other change reaches them. Lengths stay too.
-- Assumes nothing.
use mathlib.Core.Path.{◌≡◌, refl, ap₂, ◌∙◌, subst⁻¹}
use mathlib.Core.Bool.{Bool, true, false, cond, ◌&&◌, false≢true}
use mathlib.Core.List.{List}
use mathlib.Core.Logic.{inl, inr}
use Prim.Native.Nat.{ℕ, ◌+◌, ◌≤◌}
use native.Mathlib.Omega.{arith}
use lib.Dec.{leb, ltb, lit<, lit≤}
use lib.ListN.{length, get_or}
use borrow.Author.Tests.{leb-true, le-leb, ltb-true}
use Rattle.records.specs.declared.commands.Write.{Write}
use Rattle.records.specs.declared.commands.Write.TheVariants.{Wrcfga, Wrcfgb, Wrrr, Clrflag, Clovuv, Wrpwma, Wrpwmb, Wrcmcfg, Wrcmcellt, Wrcmgpiot, Clrcmflag}
use Rattle.records.specs.declared.commands.Bare.{Bare}
use Rattle.records.specs.declared.commands.Bare.TheVariants.{Mute, Unmute, Rstcc, Ulrr, Clrcell, Snap, Unsnap, Cmen, Cmdis}
use Rattle.records.specs.declared.commands.Command.{Command}
use Rattle.records.specs.declared.commands.Command.TheVariants.{Reads, Writes, Bares, Unlisted}
use Rattle.records.specs.Record.{cells, counter, unlocked, snapshot, status_bits, cmf1, last_cells, record_size, snapped, in_lpcm, byte_of, Outside, anew, on_bytes, record_sound}
use Rattle.records.specs.Commands.{data_size}
use Rattle.writes.specs.Writes.{rules_of, by_rules, opens, written}
use Rattle.monitor.specs.Effects.{locked, next_count, counted, cells_to, copied, enabled, done, accepts, keeps}
use Rattle.records.proofs.Anew.{length-anew, anew-below, anew_above, anew_inside}
use Rattle.records.proofs.Parts.{outside_byte}

-- ---- lengths

pub length-locked : (r : List ℕ) → length (locked r) ≡ length r
unfolding locked on_bytes
length-locked r = length-anew _ _ _ r

pub length-counted : (r : List ℕ) → length (counted r) ≡ length r
unfolding counted on_bytes
length-counted r = length-anew _ _ _ r

length-cond : (b : Bool) (xs ys : List ℕ) (n : ℕ) → length xs ≡ n → length ys ≡ n → length (cond b xs ys) ≡ n
length-cond true xs ys n h k = h
length-cond false xs ys n h k = k

length-written : (c : Write) (was : ℕ) (sent r : List ℕ) → length (written c was sent r) ≡ length r
unfolding written by_rules
length-written c was sent r = length-cond (opens (rules_of c) was) _ r (length r) (length-anew _ _ _ r) refl

length-copied : (r : List ℕ) → length (copied r) ≡ length r
unfolding copied cells_to on_bytes
length-copied r = length-anew _ _ _ _ ∙ length-anew _ _ _ r

length-enabled : (r : List ℕ) → length (enabled r) ≡ length r
unfolding enabled cells_to on_bytes
length-enabled r = length-anew _ _ _ _ ∙ length-anew _ _ _ r

length-done : (c : Bare) (r : List ℕ) → length (done c r) ≡ length r
unfolding done on_bytes
length-done Mute r = length-anew _ _ _ r
length-done Unmute r = length-anew _ _ _ r
length-done Rstcc r = length-anew _ _ _ r
length-done Ulrr r = length-anew _ _ _ r
length-done Clrcell r = length-anew _ _ _ r
length-done Snap r = length-cond (snapped r) r _ (length r) refl (length-copied r)
length-done Unsnap r = length-anew _ _ _ r
length-done Cmen r = length-cond (in_lpcm r) r _ (length r) refl (length-enabled r)
length-done Cmdis r = length-anew _ _ _ r

pub length-keeps : (c : Command) (own r : List ℕ) → length (keeps c own r) ≡ length r
unfolding keeps
length-keeps (Reads p) own r = length-locked r
length-keeps (Writes c) own r =
    length-cond (accepts c own r) _ _ (length r)
    (length-written c (byte_of unlocked r) own (counted (locked r)) ∙ length-counted (locked r) ∙ length-locked r)
    (length-locked r)
length-keeps (Bares c) own r = length-done c (counted (locked r)) ∙ length-counted (locked r) ∙ length-locked r
length-keeps Unlisted own r = refl

-- ---- the two bytes that make a record sound

record Fine (r : List ℕ) : Type 0 where
  whole : length r ≡ record_size
  count : byte_of counter r ≤ 63
  lock : byte_of unlocked r ≤ 1

-- a change elsewhere leaves both
elsewhere : (f : ℕ → ℕ → ℕ) (at n : ℕ) (r : List ℕ) → Outside counter at n × Outside unlocked at n → Fine r → Fine (anew f at n r)
elsewhere f at n r h s =
    record {
      whole = length-anew f at n r ∙ s.whole;
      count = subst⁻¹ (λ (x : ℕ). x ≤ 63) (outside_byte counter f at n r (lit≤ tt) h.0) s.count;
      lock = subst⁻¹ (λ (x : ℕ). x ≤ 1) (outside_byte unlocked f at n r (lit≤ tt) h.1) s.lock;
    }

fine_lock : (v : ℕ) (r : List ℕ) → v ≤ 1 → Fine r → Fine (on_bytes unlocked (λ i old. v) r)
unfolding byte_of on_bytes
fine_lock v r h s =
    record {
      whole = length-anew _ _ _ r ∙ s.whole;
      count = subst⁻¹ (λ (x : ℕ). x ≤ 63) (anew-below (λ i old. v) unlocked.at 1 r {j = counter.at} (lit< tt)) s.count;
      lock = subst⁻¹ (λ (x : ℕ). x ≤ 1) (anew_inside (λ i old. v) unlocked.at 1 r 0 (lit< tt) (omega (arith, s.whole))) h;
    }

fine_count : (f : ℕ → ℕ → ℕ) (r : List ℕ) → ((n : ℕ) → f 0 n ≤ 63) → Fine r → Fine (on_bytes counter f r)
unfolding byte_of on_bytes
fine_count f r h s =
    record {
      whole = length-anew _ _ _ r ∙ s.whole;
      count = subst⁻¹ (λ (x : ℕ). x ≤ 63) (anew_inside f counter.at 1 r 0 (lit< tt) (omega (arith, s.whole))) (h (get_or r counter.at 0));
      lock = subst⁻¹ (λ (x : ℕ). x ≤ 1) (anew_above f counter.at 1 r {j = unlocked.at} (lit≤ tt)) s.lock;
    }

pub next_fine : (n : ℕ) → next_count n ≤ 63
unfolding next_count
next_fine n = below (ltb n 63) refl
  where
    below : (b : Bool) → ltb n 63 ≡ b → cond b (n + 1) 1 ≤ 63
    below true e = omega (arith, ltb-true n 63 e)
    below false e = lit≤ tt

fine_locked : (r : List ℕ) → Fine r → Fine (locked r)
unfolding locked
fine_locked r s = fine_lock 0 r (lit≤ tt) s

fine_counted : (r : List ℕ) → Fine r → Fine (counted (locked r))
unfolding counted
fine_counted r s = fine_count (λ i old. next_count old) (locked r) next_fine (fine_locked r s)

-- before both, or behind both
before_both : (at n : ℕ) → at + n ≤ counter.at → Outside counter at n × Outside unlocked at n
before_both at n h = (inl h, inl (omega arith))

behind_both : (at n : ℕ) → unlocked.at + 1 ≤ at → Outside counter at n × Outside unlocked at n
behind_both at n h = (inr (omega arith), inr h)

pub rules_elsewhere : (w : Write) → Outside counter (rules_of w).at (data_size w) × Outside unlocked (rules_of w).at (data_size w)
rules_elsewhere Wrcfga = before_both _ 6 (lit≤ tt)
rules_elsewhere Wrcfgb = before_both _ 6 (lit≤ tt)
rules_elsewhere Wrrr = before_both _ 6 (lit≤ tt)
rules_elsewhere Clrflag = before_both _ 6 (lit≤ tt)
rules_elsewhere Clovuv = before_both _ 6 (lit≤ tt)
rules_elsewhere Wrpwma = behind_both _ 6 (lit≤ tt)
rules_elsewhere Wrpwmb = behind_both _ 6 (lit≤ tt)
rules_elsewhere Wrcmcfg = behind_both _ 6 (lit≤ tt)
rules_elsewhere Wrcmcellt = behind_both _ 6 (lit≤ tt)
rules_elsewhere Wrcmgpiot = behind_both _ 6 (lit≤ tt)
rules_elsewhere Clrcmflag = behind_both _ 2 (lit≤ tt)

fine_cond : (b : Bool) (xs ys : List ℕ) → Fine xs → Fine ys → Fine (cond b xs ys)
fine_cond true xs ys h k = h
fine_cond false xs ys h k = k

fine_written : (c : Write) (was : ℕ) (sent r : List ℕ) → Fine r → Fine (written c was sent r)
unfolding written by_rules
fine_written c was sent r s = fine_cond (opens (rules_of c) was) _ r (elsewhere _ (rules_of c).at (data_size c) r (rules_elsewhere c) s) s

fine_copied : (r : List ℕ) → Fine r → Fine (copied r)
unfolding copied cells_to on_bytes
fine_copied r s =
    elsewhere _ status_bits.at 1 _ (before_both _ 1 (lit≤ tt)) (elsewhere _ snapshot.at snapshot.size r (behind_both _ snapshot.size (lit≤ tt)) s)

fine_enabled : (r : List ℕ) → Fine r → Fine (enabled r)
unfolding enabled cells_to on_bytes
fine_enabled r s =
    elsewhere _ cmf1.at 1 _ (behind_both _ 1 (lit≤ tt)) (elsewhere _ last_cells.at last_cells.size r (behind_both _ last_cells.size (lit≤ tt)) s)

fine_done : (c : Bare) (r : List ℕ) → Fine r → Fine (done c r)
unfolding done on_bytes
fine_done Mute r s = elsewhere _ status_bits.at 1 r (before_both _ 1 (lit≤ tt)) s
fine_done Unmute r s = elsewhere _ status_bits.at 1 r (before_both _ 1 (lit≤ tt)) s
fine_done Rstcc r s = fine_count (λ i old. 0) r (λ n. lit≤ tt) s
fine_done Ulrr r s = fine_lock 1 r (lit≤ tt) s
fine_done Clrcell r s = elsewhere _ cells.at cells.size r (before_both _ cells.size (lit≤ tt)) s
fine_done Snap r s = fine_cond (snapped r) r (copied r) s (fine_copied r s)
fine_done Unsnap r s = elsewhere _ status_bits.at 1 r (before_both _ 1 (lit≤ tt)) s
fine_done Cmen r s = fine_cond (in_lpcm r) r (enabled r) s (fine_enabled r s)
fine_done Cmdis r s = elsewhere _ cmf1.at 1 r (behind_both _ 1 (lit≤ tt)) s

fine_keeps : (c : Command) (own r : List ℕ) → Fine r → Fine (keeps c own r)
unfolding keeps
fine_keeps (Reads p) own r s = fine_locked r s
fine_keeps (Writes c) own r s =
    fine_cond (accepts c own r) _ _ (fine_written c (byte_of unlocked r) own (counted (locked r)) (fine_counted r s)) (fine_locked r s)
fine_keeps (Bares c) own r s = fine_done c (counted (locked r)) (fine_counted r s)
fine_keeps Unlisted own r s = s

-- ---- the test

both : (a b : Bool) → a && b ≡ true → (a ≡ true) × (b ≡ true)
both true b h = (refl, h)
both false b h = absurd (false≢true h)

to_fine : (r : List ℕ) → length r ≡ record_size → record_sound r ≡ true → Fine r
unfolding record_sound
to_fine r w s =
    let two = both (leb (byte_of counter r) 63) (leb (byte_of unlocked r) 1) s in
    record { whole = w; count = leb-true _ _ two.0; lock = leb-true _ _ two.1 }

from_fine : (r : List ℕ) → Fine r → record_sound r ≡ true
unfolding record_sound
from_fine r s = ap₂ ◌&&◌ (le-leb _ _ s.count) (le-leb _ _ s.lock)

pub sound-keeps : (c : Command) (own r : List ℕ) → length r ≡ record_size → record_sound r ≡ true → record_sound (keeps c own r) ≡ true
sound-keeps c own r w s = from_fine (keeps c own r) (fine_keeps c own r (to_fine r w s))
