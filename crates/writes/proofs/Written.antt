-- Which writes need their check right. What a taken write needs: its rules fit a record, and the retention byte before the command says
-- whether it changes something.
-- And where the promise of `write` comes to what is written, and where to the slice as it was, by the two lengths that it tests.
-- Assumes nothing.
use mathlib.Core.Path.{◌≡◌, refl, ap, ap₂}
use mathlib.Core.Bool.{Bool, true, false, cond, not, ◌&&◌, ◌||◌}
use mathlib.Core.List.{List}
use Prim.Native.Nat.{ℕ, ◌+◌, ◌≤◌, ◌<◌}
use lib.Dec.{eqb, leb, lit≤}
use lib.ListN.{length}
use borrow.Author.Tests.{le-leb, lt-leb}
use Rattle.records.specs.declared.commands.Write.{Write}
use Rattle.records.specs.declared.commands.Write.TheVariants.{Wrcfga, Wrcfgb, Wrrr, Clrflag, Clovuv, Wrpwma, Wrpwmb, Wrcmcfg, Wrcmcellt, Wrcmgpiot, Clrcmflag}
use Rattle.writes.specs.declared.writes.Rules.{Rules}
use Rattle.records.specs.Record.{record_size, is_record}
use Rattle.records.specs.Commands.{data_size}
use Rattle.writes.specs.Writes.{rules_of, opens, written}
use Rattle.records.proofs.Answers.{is-record, no_record}

pub needs_but_wrrr : (w : Write) → (w ≡ Wrrr → ⊥) → (rules_of w).needs_check ≡ true
needs_but_wrrr Wrcfga other = refl
needs_but_wrrr Wrcfgb other = refl
needs_but_wrrr Wrrr other = absurd (other refl)
needs_but_wrrr Clrflag other = refl
needs_but_wrrr Clovuv other = refl
needs_but_wrrr Wrpwma other = refl
needs_but_wrrr Wrpwmb other = refl
needs_but_wrrr Wrcmcfg other = refl
needs_but_wrrr Wrcmcellt other = refl
needs_but_wrrr Wrcmgpiot other = refl
needs_but_wrrr Clrcmflag other = refl

pub rules_fit : (w : Write) → (rules_of w).at + data_size w ≤ record_size
rules_fit Wrcfga = lit≤ tt
rules_fit Wrcfgb = lit≤ tt
rules_fit Wrrr = lit≤ tt
rules_fit Clrflag = lit≤ tt
rules_fit Clovuv = lit≤ tt
rules_fit Wrpwma = lit≤ tt
rules_fit Wrpwmb = lit≤ tt
rules_fit Wrcmcfg = lit≤ tt
rules_fit Wrcmcellt = lit≤ tt
rules_fit Wrcmgpiot = lit≤ tt
rules_fit Clrcmflag = lit≤ tt

module _ (rules : Rules) (was : ℕ) where
  pub opens-unlocked : rules.only_unlocked ≡ true → opens rules was ≡ eqb was 1
  unfolding opens
  opens-unlocked e = ap (λ (b : Bool). not b || eqb was 1) e

  pub opens_always : rules.only_unlocked ≡ false → opens rules was ≡ true
  unfolding opens
  opens_always e = ap (λ (b : Bool). not b || eqb was 1) e

-- ---- a record and a write's bytes, and what is none or fewer

module _ (what : Write) (was : ℕ) (sent r : List ℕ) where
  -- what `write` leaves
  abbrev left : Bool → List ℕ
  left b = cond b (written what was sent r) r

  pub enough_for_record : length r ≡ record_size → data_size what ≤ length sent → left (is_record r && leb (data_size what) (length sent)) ≡ written what was sent r
  enough_for_record h k = ap left (ap₂ ◌&&◌ (is-record r h) (le-leb (data_size what) (length sent) k))

  pub fewer_for_record : length r ≡ record_size → length sent < data_size what → left (is_record r && leb (data_size what) (length sent)) ≡ r
  fewer_for_record h k = ap left (ap₂ ◌&&◌ (is-record r h) (lt-leb (data_size what) (length sent) k))

  pub for_no_record : (length r ≡ record_size → ⊥) → left (is_record r && leb (data_size what) (length sent)) ≡ r
  for_no_record h = ap (λ (b : Bool). left (b && leb (data_size what) (length sent))) (no_record r h)
