-- The test of a table of n whole records, part by part, and what it tells. And what a test that is known decides.
-- Assumes nothing.
use mathlib.Core.Path.{◌≡◌, refl, sym, ap, ap₂}
use mathlib.Core.Bool.{Bool, true, false, cond, ◌&&◌}
use mathlib.Core.List.{List}
use Prim.Native.Nat.{ℕ, ◌*◌, ◌≤◌}
use lib.Dec.{eqb, leb}
use lib.ListN.{length}
use borrow.Author.Tests.{eq-eqb, le-leb, eqb-true, leb-true}
use Rattle.laws.specs.Counts.{all}
use Rattle.laws.specs.Rows.{rows}
use Rattle.records.specs.Record.{record_size, record_sound}
use Rattle.records.specs.Commands.{most_monitors}
use Rattle.judging.specs.Table.{monitors, whole_table, sound}
use Rattle.judging.proofs.Soundness.{both, is_sound}

module _ (n : ℕ) (table : List ℕ) where
  pub whole_records : n ≤ most_monitors → length table ≡ n * record_size → whole_table n table ≡ true
  unfolding whole_table
  whole_records few whole = ap₂ ◌&&◌ (le-leb n most_monitors few) (eq-eqb _ _ whole)

  pub is_whole : whole_table n table ≡ true → (length table ≡ n * record_size) × (n ≤ most_monitors)
  unfolding whole_table
  is_whole h =
      let two = both (leb n most_monitors) (eqb (length table) (n * record_size)) h in
      (eqb-true _ _ two.1, leb-true _ _ two.0)

-- a sound table is one
pub sound-whole : (table : List ℕ) → sound table ≡ true → whole_table (monitors table) table ≡ true
sound-whole table s = whole_records (monitors table) table (is_sound table s).few (is_sound table s).whole

-- a table is sound by its count, by its length, and record by record
pub by_parts : (table : List ℕ) → sound table ≡ (leb 1 (monitors table) && whole_table (monitors table) table) && all record_sound (rows record_size (monitors table) table)
unfolding sound whole_table
by_parts table =
    by (eqb (length table) (monitors table * record_size)) (leb 1 (monitors table)) (leb (monitors table) most_monitors) (all record_sound (rows record_size (monitors table) table))
  where
    by : (whole some few each : Bool) → whole && some && few && each ≡ (some && (few && whole)) && each
    by true true true each = refl
    by true true false each = refl
    by true false few each = refl
    by false true true each = refl
    by false true false each = refl
    by false false few each = refl

-- ---- what a test that is known decides

module _ {A : Type 0} (b : Bool) (x y : A) where
  pub where_so : b ≡ true → x ≡ cond b x y
  where_so e = sym (ap (λ (t : Bool). cond t x y) e)

  pub where_not : b ≡ false → y ≡ cond b x y
  where_not e = sym (ap (λ (t : Bool). cond t x y) e)
