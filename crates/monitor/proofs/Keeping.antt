-- What a monitor keeps of a write, by whether it accepts it.
-- Assumes nothing.
use mathlib.Core.Path.{◌≡◌, sym, ap, ◌∙◌}
use mathlib.Core.Bool.{Bool, true, false, cond, not, ◌&&◌}
use mathlib.Core.List.{List}
use Prim.Native.Nat.{ℕ, ◌+◌}
use native.Mathlib.Omega.{arith}
use lib.Dec.{eqb, leb}
use lib.ListN.{length}
use borrow.Author.Tests.{eqb-true, eq-eqb}
use Rattle.laws.proofs.Counts.{and-false}
use Rattle.laws.proofs.Tests.{both_first, both_second}
use Rattle.pec.specs.Words.{sealed_right}
use Rattle.records.specs.declared.commands.Write.{Write}
use Rattle.records.specs.declared.commands.Command.TheVariants.{Writes}
use Rattle.records.specs.Record.{unlocked, record_size, in_lpcm, byte_of, is_record}
use Rattle.records.specs.Commands.{data_size, width_of}
use Rattle.writes.specs.Writes.{rules_of, by_rules, opens, written}
use Rattle.monitor.specs.Effects.{locked, counted, good_for, accepts, keeps}
use Rattle.writes.proofs.Written.{enough_for_record}

-- ---- one's own bytes

right-length : (d : ℕ) (own : List ℕ) → sealed_right d own ≡ true → length own ≡ d + 2
unfolding sealed_right
right-length d own h = eqb-true (length own) (d + 2) (both_first (eqb (length own) (d + 2)) _ h)

module _ (c : Write) (own : List ℕ) where
  -- by whether the write needs its check right
  abbrev good_where : Bool → Bool
  good_where needs = cond needs (sealed_right (data_size c) own) (eqb (length own) (width_of (Writes c)))

  pub good-checked : (rules_of c).needs_check ≡ true → good_for c own ≡ sealed_right (data_size c) own
  unfolding good_for
  good-checked e = ap good_where e

  pub good_unchecked : (rules_of c).needs_check ≡ false → good_for c own ≡ eqb (length own) (width_of (Writes c))
  unfolding good_for
  good_unchecked e = ap good_where e

  -- right bytes are good for every write, and nothing but as many bytes as it has is good for any
  pub right-good : sealed_right (data_size c) own ≡ true → good_for c own ≡ true
  unfolding good_for
  right-good h = by (rules_of c).needs_check
    where
      by : (needs : Bool) → good_where needs ≡ true
      by true = h
      by false = eq-eqb (length own) (width_of (Writes c)) (right-length (data_size c) own h)

  pub good_length : good_for c own ≡ true → length own ≡ width_of (Writes c)
  unfolding good_for
  good_length h = by (rules_of c).needs_check h
    where
      by : (needs : Bool) → good_where needs ≡ true → length own ≡ width_of (Writes c)
      by true h = right-length (data_size c) own h
      by false h = eqb-true (length own) (width_of (Writes c)) h

-- ---- what it accepts

module _ (c : Write) (own r : List ℕ) where
  -- a monitor that is not in LPCM goes by its own bytes
  pub accepts_awake : in_lpcm r ≡ false → accepts c own r ≡ good_for c own
  unfolding accepts
  accepts_awake e = ap (λ (b : Bool). not b && good_for c own) e

  pub accepts-none : in_lpcm r ≡ true → accepts c own r ≡ false
  unfolding accepts
  accepts-none e = ap (λ (b : Bool). not b && good_for c own) e

  pub accepts-not-bad : good_for c own ≡ false → accepts c own r ≡ false
  unfolding accepts
  accepts-not-bad e = ap (λ (b : Bool). not (in_lpcm r) && b) e ∙ and-false (not (in_lpcm r))

  pub accepts-good : accepts c own r ≡ true → good_for c own ≡ true
  unfolding accepts
  accepts-good h = both_second (not (in_lpcm r)) (good_for c own) h

  abbrev kept_by : Bool → List ℕ
  kept_by good = cond good (written c (byte_of unlocked r) own (counted (locked r))) (locked r)

  pub keeps-good : accepts c own r ≡ true → keeps (Writes c) own r ≡ written c (byte_of unlocked r) own (counted (locked r))
  unfolding keeps
  keeps-good h = ap kept_by h

  -- and so by whether the write changes something
  pub keeps_opened : accepts c own r ≡ true → {b : Bool} → opens (rules_of c) (byte_of unlocked r) ≡ b
      → keeps (Writes c) own r ≡ cond b (by_rules c own (counted (locked r))) (counted (locked r))
  unfolding written
  keeps_opened h e = keeps-good h ∙ ap (λ (b : Bool). cond b (by_rules c own (counted (locked r))) (counted (locked r))) e

  pub keeps-bad : accepts c own r ≡ false → keeps (Writes c) own r ≡ locked r
  unfolding keeps
  keeps-bad h = ap kept_by h

  pub keeps-right : in_lpcm r ≡ false → sealed_right (data_size c) own ≡ true → keeps (Writes c) own r ≡ written c (byte_of unlocked r) own (counted (locked r))
  keeps-right e h = keeps-good (accepts_awake e ∙ right-good c own h)

  -- a wrong check, in LPCM or not; and LPCM, whatever the check
  pub keeps_wrong : (rules_of c).needs_check ≡ true → sealed_right (data_size c) own ≡ false → keeps (Writes c) own r ≡ locked r
  keeps_wrong needs h = keeps-bad (accepts-not-bad (good-checked c own needs ∙ h))

  pub keeps-none : in_lpcm r ≡ true → keeps (Writes c) own r ≡ locked r
  keeps-none e = keeps-bad (accepts-none e)

  -- a record that was begun by whether the write is taken, and what is left of it: `write` follows where it is, and nothing where not
  module _ {took : Bool} (by : took ≡ accepts c own r) {begun : List ℕ} (b : begun ≡ cond took (counted (locked r)) (locked r)) where
    begun_by : {t : Bool} → took ≡ t → begun ≡ cond t (counted (locked r)) (locked r)
    begun_by e = b ∙ ap (λ (t : Bool). cond t (counted (locked r)) (locked r)) e

    pub kept-good : took ≡ true → length begun ≡ record_size → {after : List ℕ}
        → after ≡ cond (is_record begun && leb (data_size c) (length own)) (written c (byte_of unlocked r) own begun) begun → after ≡ keeps (Writes c) own r
    kept-good e l w =
        w
        ∙ enough_for_record c (byte_of unlocked r) own begun l (omega (arith, good_length c own (accepts-good (sym by ∙ e))))
        ∙ ap (written c (byte_of unlocked r) own) (begun_by e)
        ∙ sym (keeps-good (sym by ∙ e))

    pub kept-bad : took ≡ false → begun ≡ keeps (Writes c) own r
    kept-bad e = begun_by e ∙ sym (keeps-bad (sym by ∙ e))
