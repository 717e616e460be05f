-- What a monitor says of its record that the table lends: it is what it says of the record as it lies there.
-- Assumes nothing.
use mathlib.Core.Path.{◌≡◌, ap, ◌∙◌}
use mathlib.Core.Bool.{Bool, cond}
use mathlib.Core.List.{List}
use Prim.Native.Nat.{ℕ, ◌+◌, ◌*◌, ◌≤◌}
use lib.ListN.{length}
use Rattle.laws.specs.Rows.{row_at}
use Rattle.records.specs.Record.{record_size, is_record}
use Rattle.judging.proofs.Lies.{part, part-row, part_record}
use Rattle.std.specs.Prelude.{Option, None}

module _ (k : ℕ) (table : List ℕ) {start end : ℕ} (lies : (start ≡ k * record_size) × (end ≡ k * record_size + record_size) × (end ≤ length table)) where
  abbrev its : List ℕ
  its = part k table lies

  pub said : {A : Type 0} (g : List ℕ → Option A) {x : Option A} → x ≡ cond (is_record its) (g its) None → x ≡ g (row_at record_size k table)
  said g e = e ∙ ap (λ (b : Bool). cond b (g its) None) (part_record k table lies) ∙ ap g (part-row k table lies)
