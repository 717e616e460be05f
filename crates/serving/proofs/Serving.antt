-- One monitor's turn: the part of the table where its record lies is lent, is a record, and comes back as what the monitor keeps. Where the
-- table has no whole record there it stays.
-- Assumes nothing.
use mathlib.Core.Path.{◌≡◌, sym, ap, ap₂, ◌∙◌}
use mathlib.Core.Bool.{Bool, true, false, cond, ◌&&◌}
use mathlib.Core.List.{List}
use Prim.Native.Nat.{ℕ, ◌+◌, ◌-◌, ◌*◌, ◌≤◌, ◌<◌}
use lib.ListN.{length}
use borrow.Author.Tests.{le-leb, lt-leb}
use borrow.Rule.Slice.PartMut.{put_mid}
use Rattle.records.specs.declared.commands.Command.{Command}
use Rattle.records.specs.Record.{record_size, is_record}
use Rattle.monitor.specs.Effects.{takes, keeps}
use Rattle.serving.specs.Served.{has_record, served_at, takes_at}
use Rattle.judging.proofs.Lies.{part, fits, part-row, part_record, back_record}

module _ (k : ℕ) (table : List ℕ) {start end : ℕ} (lies : (start ≡ k * record_size) × (end ≡ k * record_size + record_size) × (end ≤ length table)) where
  there : has_record k table ≡ true
  there = le-leb _ _ (fits k table lies)

  abbrev its : List ℕ
  its = part k table lies

  pub served : (command : Command) (own : List ℕ) {took : Bool} {after : List ℕ}
      → took ≡ is_record its && takes command own its
      → after ≡ cond (is_record its) (keeps command own its) its
      → (took ≡ has_record k table && takes_at k command own table)
      × (put_mid start (end - start) table after ≡ cond (has_record k table) (served_at k command own table) table)
  unfolding served_at takes_at
  served command own t a = (
    t ∙ ap₂ (λ (b : Bool) (r : List ℕ). b && takes command own r) (part_record k table lies ∙ sym there) (part-row k table lies),
    back_record k table lies (keeps command own) a ∙ ap (λ (b : Bool). cond b (served_at k command own table) table) (sym there),
  )

-- a table with no whole record at k
pub not_served : (k : ℕ) (table own : List ℕ) (command : Command) → length table < k * record_size + record_size
    → (false ≡ has_record k table && takes_at k command own table) × (table ≡ cond (has_record k table) (served_at k command own table) table)
not_served k table own command short =
    let none = sym (lt-leb (k * record_size + record_size) (length table) short) in
    (ap (λ (b : Bool). b && takes_at k command own table) none, ap (λ (b : Bool). cond b (served_at k command own table) table) none)
