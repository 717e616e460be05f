-- What keeps a table as sound as another, with as many monitors: as many whole records, each of them sound.
-- Assumes nothing.
use mathlib.Core.Path.{◌≡◌, refl, sym, ap, ◌∙◌, subst⁻¹}
use mathlib.Core.Bool.{true}
use mathlib.Core.List.{List}
use Prim.Native.Nat.{ℕ, ◌*◌, ◌/◌, ◌≤◌}
use native.Mathlib.Nat.{mul-div_cancel}
use lib.Dec.{lit<}
use lib.ListN.{length}
use Rattle.laws.specs.Counts.{all}
use Rattle.laws.specs.Rows.{rows}
use Rattle.records.specs.Record.{record_size, record_sound}
use Rattle.records.specs.Commands.{most_monitors}
use Rattle.judging.specs.Table.{monitors, sound}
use Rattle.judging.proofs.Soundness.{Sound, by_records}

-- a table that is as sound as another, and holds as many monitors
pub record Keeps (table after : List ℕ) : Type 0 where
  pub sound-after : sound after ≡ true
  pub monitors-after : monitors after ≡ monitors table

pub monitors_of : (n : ℕ) (table : List ℕ) → length table ≡ n * record_size → monitors table ≡ n
unfolding monitors
monitors_of n table e = ap (λ (m : ℕ). m / record_size) e ∙ mul-div_cancel n {n = record_size} (lit< tt)

-- n whole records, each sound, in the place of those of a sound table
pub keeps-by_records : (table after : List ℕ) → Sound table → length after ≡ monitors table * record_size
    → all record_sound (rows record_size (monitors table) after) ≡ true → Keeps table after
keeps-by_records table after s whole each =
    let n = monitors_of (monitors table) after whole in
    record {
      sound-after =
          by_records after (subst⁻¹ (λ (m : ℕ). 1 ≤ m) n s.some) (subst⁻¹ (λ (m : ℕ). m ≤ most_monitors) n s.few) (whole ∙ ap (λ (m : ℕ). m * record_size) (sym n))
          ∙ ap (λ (m : ℕ). all record_sound (rows record_size m after)) n
          ∙ each;
      monitors-after = n;
    }

-- the table itself
pub stays : (table : List ℕ) → sound table ≡ true → Keeps table table
stays table s = record { sound-after = s; monitors-after = refl }
