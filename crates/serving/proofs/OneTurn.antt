-- A chain of one: its monitor's own bytes are the payloads, it counts as one or none, and its record is the table. More bytes than
-- the command has for each do what none do.
-- Assumes nothing.
use mathlib.Core.Path.{◌≡◌, refl, sym, ap, ◌∙◌, subst⁻¹}
use mathlib.Core.Bool.{Bool, true, false, cond}
use mathlib.Core.List.{List, [], ◌∷◌, append-nil}
use Prim.Native.Nat.{ℕ, ◌+◌, ◌≤◌}
use native.Mathlib.Omega.{arith}
use lib.Dec.{eqb, leb}
use lib.ListN.{length, take}
use lib.Seq.{take_all}
use borrow.Author.Tests.{leb-true, leb-false}
use Rattle.laws.specs.Counts.{count}
use Rattle.laws.specs.Rows.{rows, joined, along}
use Rattle.wire.specs.Order.{farthest_first, write_payloads}
use Rattle.records.specs.declared.commands.Command.{Command}
use Rattle.records.specs.declared.commands.Command.TheVariants.{Reads, Writes, Bares, Unlisted}
use Rattle.records.specs.declared.commands.Write.{Write}
use Rattle.records.specs.Record.{record_size}
use Rattle.records.specs.Commands.{width_of}
use Rattle.records.proofs.Widths.{width_some}
use Rattle.monitor.specs.Effects.{good_for, accepts, takes, keeps}
use Rattle.monitor.proofs.Keeping.{good_length, accepts-not-bad, keeps-bad}
use Rattle.serving.specs.Served.{takers}

-- the bytes that are handed on
unfoldable pub own_of : ℕ → List ℕ → List ℕ
own_of width own = cond (leb (length own) width) own []

-- other bytes than as many as it has are accepted of no write
not-accepted : (what : Write) (own r : List ℕ) → (length own ≡ width_of (Writes what) → ⊥) → accepts what own r ≡ false
not-accepted what own r h = accepts-not-bad what own r (by (good_for what own) refl)
  where
    by : (b : Bool) → good_for what own ≡ b → good_for what own ≡ false
    by true e = absurd (h (good_length what own e))
    by false e = e

-- so a monitor makes the same of what is handed on
module _ (what : Write) (own r : List ℕ) where
  abbrev width : ℕ
  width = width_of (Writes what)

  own-accepts : accepts what (own_of width own) r ≡ accepts what own r
  unfolding own_of
  own-accepts = by (leb (length own) width) refl
    where
      by : (t : Bool) → leb (length own) width ≡ t → accepts what (cond (leb (length own) width) own []) r ≡ accepts what own r
      by true e = ap (λ (b : Bool). accepts what (cond b own []) r) e
      by false e =
          let long = leb-false (length own) width e in
          ap (λ (b : Bool). accepts what (cond b own []) r) e
          ∙ not-accepted what [] r (λ h. omega (arith, h, width_some (Writes what)))
          ∙ sym (not-accepted what own r (λ h. omega (arith, h, long)))

  own-kept : keeps (Writes what) (own_of width own) r ≡ keeps (Writes what) own r
  unfolding own_of
  own-kept = by (leb (length own) width) refl
    where
      by : (t : Bool) → leb (length own) width ≡ t → keeps (Writes what) (cond (leb (length own) width) own []) r ≡ keeps (Writes what) own r
      by true e = ap (λ (b : Bool). keeps (Writes what) (cond b own []) r) e
      by false e =
          let long = leb-false (length own) width e in
          ap (λ (b : Bool). keeps (Writes what) (cond b own []) r) e
          ∙ keeps-bad what [] r (not-accepted what [] r (λ h. omega (arith, h, width_some (Writes what))))
          ∙ sym (keeps-bad what own r (not-accepted what own r (λ h. omega (arith, h, long))))

own-takes : (c : Command) (own r : List ℕ) → takes c (own_of (width_of c) own) r ≡ takes c own r
own-takes (Reads part) own r = refl
own-takes (Writes what) own r = own-accepts what own r
own-takes (Bares what) own r = refl
own-takes Unlisted own r = refl

own-keeps : (c : Command) (own r : List ℕ) → keeps c (own_of (width_of c) own) r ≡ keeps c own r
unfolding keeps
own-keeps (Reads part) own r = refl
own-keeps (Writes what) own r = own-kept what own r
own-keeps (Bares what) own r = refl
own-keeps Unlisted own r = refl

few : (width : ℕ) (own : List ℕ) → length (own_of width own) ≤ width
unfolding own_of
few width own = by (leb (length own) width) refl
  where
    by : (t : Bool) → leb (length own) width ≡ t → length (cond (leb (length own) width) own []) ≤ width
    by true e = subst⁻¹ (λ (b : Bool). length (cond b own []) ≤ width) e (leb-true (length own) width e)
    by false e = subst⁻¹ (λ (b : Bool). length (cond b own []) ≤ width) e (omega arith)

module _ (c : Command) (own r : List ℕ) (whole : length r ≡ record_size) where
  abbrev handed : List ℕ
  handed = own_of (width_of c) own

  one_payload : write_payloads (width_of c) 1 handed ≡ handed ∷ []
  unfolding write_payloads farthest_first rows
  one_payload = ap (λ (e : List ℕ). e ∷ []) (take_all (width_of c) handed (few (width_of c) own))

  pub one_taken : eqb (takers c (rows record_size 1 r) (write_payloads (width_of c) 1 handed)) 1 ≡ takes c own r
  unfolding takers rows along count
  one_taken =
      ap (λ (os : List (List ℕ)). eqb (count (λ took. took) (along (λ r' e. takes c e r') (rows record_size 1 r) os)) 1) one_payload
      ∙ ap (λ (b : Bool). eqb (cond b 1 0 + 0) 1) (ap (takes c handed) (take_all record_size r (omega arith)) ∙ own-takes c own r)
      ∙ by (takes c own r)
    where
      by : (b : Bool) → eqb (cond b 1 0 + 0) 1 ≡ b
      by true = refl
      by false = refl

  pub one_kept : joined (along (λ r' e. keeps c e r') (rows record_size 1 r) (write_payloads (width_of c) 1 handed)) ≡ keeps c own r
  unfolding rows along joined
  one_kept =
      ap (λ (os : List (List ℕ)). joined (along (λ r' e. keeps c e r') (rows record_size 1 r) os)) one_payload
      ∙ append-nil (keeps c handed (take record_size r))
      ∙ ap (keeps c handed) (take_all record_size r (omega arith))
      ∙ own-keeps c own r
