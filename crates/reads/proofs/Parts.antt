-- The part that a read shows: a part of the cells lies within them; shown is the copy's while a snapshot is on, and otherwise the part itself.
-- Assumes nothing.
use mathlib.Core.Path.{◌≡◌, refl, ap, ap₂, ◌∙◌}
use mathlib.Core.Bool.{Bool, true, false, cond, ◌&&◌}
use mathlib.Core.List.{List}
use Prim.Native.Nat.{ℕ, ◌+◌, ◌≤◌}
use lib.Dec.{leb}
use borrow.Author.Tests.{leb-true}
use Rattle.laws.proofs.Tests.{both_first, both_second}
use Rattle.records.specs.declared.record.Part.{Part}
use Rattle.records.specs.Record.{cells, snapped}
use Rattle.reads.specs.Shown.{of_cells, copy_of, shown_part}

-- it begins at the cells or behind, and ends with them or before
pub record Within (p : Part) : Type 0 where
  pub begins : cells.at ≤ p.at
  pub ends : p.at + p.size ≤ cells.at + cells.size

pub of-cells : (p : Part) → of_cells p ≡ true → Within p
of-cells p h =
    record {
      begins = leb-true _ _ (both_first (leb cells.at p.at) _ h);
      ends = leb-true _ _ (both_second (leb cells.at p.at) _ h);
    }

module _ (p : Part) (r : List ℕ) where
  abbrev shown_where : Bool → Bool → Part
  shown_where itsCells on = cond (itsCells && on) (copy_of p) p

  pub shows_copy : of_cells p ≡ true → snapped r ≡ true → shown_part p r ≡ copy_of p
  unfolding shown_part
  shows_copy h k = ap₂ shown_where h k

  pub shows_live : snapped r ≡ false → shown_part p r ≡ p
  unfolding shown_part
  shows_live k = ap (shown_where (of_cells p)) k ∙ never (of_cells p)
    where
      never : (itsCells : Bool) → shown_where itsCells false ≡ p
      never true = refl
      never false = refl

  pub shows_other : of_cells p ≡ false → shown_part p r ≡ p
  unfolding shown_part
  shows_other h = ap (λ (b : Bool). shown_where b (snapped r)) h
