-- A bit of a record that no write changes, SNAP_ST or CMC_EN, after a write: it stays, whether the monitor accepts the write or not, and whether the write
-- opens or not.
-- Assumes nothing.
use mathlib.Core.Path.{◌≡◌, ◌∙◌}
use mathlib.Core.Bool.{Bool, true, false, cond}
use mathlib.Core.List.{List}
use Prim.Native.Nat.{ℕ}
use lib.ListN.{length}
use Rattle.records.specs.declared.commands.Command.TheVariants.{Writes}
use Rattle.records.specs.declared.commands.Write.{Write}
use Rattle.records.specs.Record.{unlocked, record_size, byte_of}
use Rattle.writes.specs.Writes.{rules_of, by_rules, opens, written}
use Rattle.monitor.specs.Effects.{locked, counted, accepts, keeps}
use Rattle.monitor.proofs.Sound.{length-locked, length-counted}

pub counted-whole : (r : List ℕ) → length r ≡ record_size → length (counted (locked r)) ≡ record_size
counted-whole r whole = length-counted (locked r) ∙ length-locked r ∙ whole

module _ (mode : List ℕ → Bool) where
  -- of one of two records
  pub either_mode : (b : Bool) (xs ys : List ℕ) {on : Bool} → mode xs ≡ on → mode ys ≡ on → mode (cond b xs ys) ≡ on
  either_mode true xs ys h k = h
  either_mode false xs ys h k = k

  module _ (by-locked : (r : List ℕ) → mode (locked r) ≡ mode r) (by-counted : (r : List ℕ) → mode (counted (locked r)) ≡ mode r)
      (by-rules : (c : Write) (sent r : List ℕ) → length r ≡ record_size → mode (by_rules c sent r) ≡ mode r) where
    pub mode_after_write : (c : Write) (own r : List ℕ) → length r ≡ record_size → mode (keeps (Writes c) own r) ≡ mode r
    unfolding keeps written
    mode_after_write c own r whole =
        either_mode (accepts c own r) _ (locked r)
        (either_mode (opens (rules_of c) (byte_of unlocked r)) (by_rules c own (counted (locked r))) (counted (locked r))
        (by-rules c own (counted (locked r)) (counted-whole r whole) ∙ by-counted r) (by-counted r))
        (by-locked r)
