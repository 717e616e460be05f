-- A monitor that receives a write (L5). It takes either right: it asks for the check, not for the counter. It counts a write that it takes, and no other, so that
-- its counter tells.
-- Assumes nothing.
use mathlib.Core.Path.{◌≡◌, refl, sym, ap, ap₂, ◌∙◌}
use mathlib.Core.Bool.{Bool, true, false, cond, not, ◌&&◌}
use mathlib.Core.List.{List, ◌++◌}
use mathlib.Core.Logic.{inr}
use Prim.Native.Nat.{ℕ, ◌+◌, ◌<◌}
use native.Mathlib.Omega.{arith}
use lib.Dec.{ltb, lit<, lit≤}
use lib.ListN.{length, get_or, get_or-append}
use borrow.Author.Tests.{ltb-false}
use Rattle.laws.proofs.Tests.{both_first}
use Rattle.pec.specs.Words.{seal, sealed_right, payload_right}
use Rattle.pec.proofs.CheckWords.{own-right}
use Rattle.records.specs.declared.commands.Command.TheVariants.{Writes}
use Rattle.records.specs.declared.commands.Write.{Write}
use Rattle.records.specs.declared.commands.Write.TheVariants.{Clrcmflag}
use Rattle.records.specs.Record.{record_size, counter, unlocked, most_count, in_lpcm, byte_of, on_bytes}
use Rattle.records.specs.Commands.{data_size}
use Rattle.records.proofs.Anew.{anew_inside, anew-same}
use Rattle.records.proofs.Parts.{outside_byte}
use Rattle.records.proofs.Widths.{six_but_clrcmflag}
use Rattle.writes.specs.Writes.{rules_of, changed, by_rules, opens, written}
use Rattle.monitor.specs.Effects.{locked, next_count, counted, accepts, keeps}
use Rattle.monitor.proofs.Sound.{length-locked, rules_elsewhere}
use Rattle.ports.specs.Verdicts.{is_right, counter_differs}
use Rattle.story.proofs.OurHost.{accepts-right}

-- ---- a monitor that receives a write takes either right

-- six own bytes with their check right, whatever their counter
module _ (c : Write) (own r : List ℕ) (expected : ℕ) (other : c ≡ Clrcmflag → ⊥) where
  by_check : (b : Bool) → payload_right own && b ≡ true → accepts c own r ≡ not (in_lpcm r)
  unfolding payload_right
  by_check b e = accepts-right c own r (ap (λ (d : ℕ). sealed_right d own) (six_but_clrcmflag c other) ∙ both_first (sealed_right 6 own) b e)

  pub right-accepted : is_right own expected ≡ true → accepts c own r ≡ not (in_lpcm r)
  unfolding is_right
  right-accepted = by_check _

  pub differs_accepted : counter_differs own expected ≡ true → accepts c own r ≡ not (in_lpcm r)
  unfolding counter_differs
  differs_accepted = by_check _

-- and data with their check over any counter: it keeps the same of all of them
module _ (c : Write) (own r : List ℕ) (l : length own ≡ data_size c) where
  pub any_accepted : (i : ℕ) → accepts c (own ++ seal own i) r ≡ not (in_lpcm r)
  any_accepted i = accepts-right c (own ++ seal own i) r (own-right own i (data_size c) l)

  pub any_kept : (i j : ℕ) → keeps (Writes c) (own ++ seal own i) r ≡ keeps (Writes c) (own ++ seal own j) r
  unfolding keeps
  any_kept i j =
      ap₂ (λ (took : Bool) (after : List ℕ). cond took after (locked r)) (any_accepted i ∙ sym (any_accepted j)) same-written
    where
      byte : (m t : ℕ) → m < data_size c → get_or (own ++ seal own t) m 0 ≡ get_or own m 0
      byte m t h = get_or-append own (seal own t) 0 m (omega arith)

      same_byte : (m old : ℕ) → m < data_size c → changed (rules_of c) (own ++ seal own i) m old ≡ changed (rules_of c) (own ++ seal own j) m old
      same_byte m old h = unfold changed in rw (byte m i h, byte m j h)

      same-written : written c (byte_of unlocked r) (own ++ seal own i) (counted (locked r)) ≡ written c (byte_of unlocked r) (own ++ seal own j) (counted (locked r))
      same-written = unfold written by_rules in
          ap (λ (after : List ℕ). cond (opens (rules_of c) (byte_of unlocked r)) after (counted (locked r)))
          (anew-same _ _ (rules_of c).at (data_size c) (counted (locked r)) (λ m h. same_byte m _ h))

-- ---- it counts what it takes, and nothing else

-- the next counter is another
pub next-apart : (n : ℕ) → next_count n ≡ n → ⊥
unfolding next_count
next-apart n = by (ltb n most_count) refl
  where
    by : (b : Bool) → ltb n most_count ≡ b → cond b (n + 1) 1 ≡ n → ⊥
    by true e f = omega arith
    by false e f = omega (arith, ltb-false n most_count e)

module _ (c : Write) (own r : List ℕ) (whole : length r ≡ record_size) where
  when_locked : byte_of counter (locked r) ≡ byte_of counter r
  unfolding locked on_bytes
  when_locked = outside_byte counter _ unlocked.at 1 r (lit≤ tt) (inr (lit≤ tt))

  when_counted : byte_of counter (counted (locked r)) ≡ next_count (byte_of counter r)
  unfolding counted on_bytes byte_of
  when_counted = anew_inside (λ i old. next_count old) counter.at 1 (locked r) 0 (lit< tt) (omega (arith, length-locked r)) ∙ ap next_count when_locked

  when_written : byte_of counter (written c (byte_of unlocked r) own (counted (locked r))) ≡ next_count (byte_of counter r)
  unfolding written by_rules
  when_written = by (opens (rules_of c) (byte_of unlocked r))
    where
      by : (opened : Bool) → byte_of counter (cond opened (by_rules c own (counted (locked r))) (counted (locked r))) ≡ next_count (byte_of counter r)
      by true = outside_byte counter _ (rules_of c).at (data_size c) (counted (locked r)) (lit≤ tt) (rules_elsewhere c).0 ∙ when_counted
      by false = when_counted

  pub counter-kept : byte_of counter (keeps (Writes c) own r) ≡ cond (accepts c own r) (next_count (byte_of counter r)) (byte_of counter r)
  unfolding keeps
  counter-kept = by (accepts c own r)
    where
      by : (took : Bool) → byte_of counter (cond took (written c (byte_of unlocked r) own (counted (locked r))) (locked r)) ≡ cond took (next_count (byte_of counter r)) (byte_of counter r)
      by true = when_written
      by false = when_locked
