-- The table's test, part by part.
-- Assumes nothing.
use mathlib.Core.Path.{◌≡◌, refl, ap, ap₂, ◌∙◌}
use mathlib.Core.Bool.{Bool, true, false, ◌&&◌, false≢true}
use mathlib.Core.List.{List}
use Prim.Native.Nat.{ℕ, ◌*◌, ◌≤◌}
use lib.Dec.{leb}
use lib.ListN.{length}
use borrow.Author.Tests.{eq-eqb, le-leb, eqb-true, leb-true}
use Rattle.laws.specs.Counts.{all}
use Rattle.laws.specs.Rows.{rows}
use Rattle.records.specs.Record.{record_size, record_sound}
use Rattle.records.specs.Commands.{most_monitors}
use Rattle.judging.specs.Table.{monitors, sound}

module _ (table : List ℕ) where
  pub by_records : 1 ≤ monitors table → monitors table ≤ most_monitors → length table ≡ monitors table * record_size
      → sound table ≡ all record_sound (rows record_size (monitors table) table)
  unfolding sound
  by_records a b c =
      ap₂ (λ (x y : Bool). x && y && leb (monitors table) most_monitors && all record_sound (rows record_size (monitors table) table)) (eq-eqb _ _ c) (le-leb _ _ a)
      ∙ ap (λ (x : Bool). x && all record_sound (rows record_size (monitors table) table)) (le-leb _ _ b)

-- ---- what a sound table is

pub both : (a b : Bool) → a && b ≡ true → (a ≡ true) × (b ≡ true)
both true b h = (refl, h)
both false b h = absurd (false≢true h)

pub record Sound (table : List ℕ) : Type 0 where
  pub whole : length table ≡ monitors table * record_size
  pub some : 1 ≤ monitors table
  pub few : monitors table ≤ most_monitors
  pub each : all record_sound (rows record_size (monitors table) table) ≡ true

pub is_sound : (table : List ℕ) → sound table ≡ true → Sound table
unfolding sound
is_sound table h =
    let abc-d = both _ _ h in
    let ab-c = both _ _ abc-d.0 in
    let a-b = both _ _ ab-c.0 in
    record { whole = eqb-true _ _ a-b.0; some = leb-true _ _ a-b.1; few = leb-true _ _ ab-c.1; each = abc-d.1 }
