-- The record at k where the code finds it: the part of the table that lies there is the row at k and a record, and when it was lent and has come
-- back, the table is as it was but for that record.
-- Assumes nothing.
use mathlib.Core.Path.{◌≡◌, sym, ap, ap₂, ◌∙◌}
use mathlib.Core.Bool.{Bool, true, cond}
use mathlib.Core.List.{List, ◌++◌}
use Prim.Native.Nat.{ℕ, ◌+◌, ◌-◌, ◌*◌, ◌≤◌, ◌<◌}
use native.Mathlib.Omega.{arith}
use lib.Dec.{leb}
use lib.ListN.{length, take, drop}
use borrow.Author.Tests.{le-leb, lt-leb}
use Rattle.std.specs.Prelude.{Option, Some, None, MatchOption}
use Rattle.std.specs.declared.ops.Range.{Range}
use borrow.Rule.Slice.PartMut.{put_mid}
use Rattle.laws.specs.Rows.{row_at}
use Rattle.laws.proofs.LentParts.{part-lent, part_back}
use Rattle.records.specs.Record.{record_size, is_record}
use Rattle.records.proofs.Answers.{is-record}
use Rattle.judging.specs.Table.{changed_at, ends, place_at}
use Rattle.judging.proofs.Lent.{lent_length}

module _ (k : ℕ) (table : List ℕ) {start end : ℕ} (lies : (start ≡ k * record_size) × (end ≡ k * record_size + record_size) × (end ≤ length table)) where
  -- what lies there
  abbrev pub part : List ℕ
  part = take (end - start) (drop start table)

  pub fits : k * record_size + record_size ≤ length table
  fits = omega (arith, lies.1, lies.2)

  pub part-row : part ≡ row_at record_size k table
  part-row = ap₂ (λ (a b : ℕ). take (b - a) (drop a table)) lies.0 lies.1 ∙ part-lent record_size k table

  pub length-part : length part ≡ record_size
  length-part = ap length part-row ∙ lent_length k table fits

  pub part_record : is_record part ≡ true
  part_record = ap is_record part-row ∙ is-record (row_at record_size k table) (lent_length k table fits)

  pub part_came-back : (after : List ℕ) → put_mid start (end - start) table after ≡ changed_at k (λ r. after) table
  part_came-back after =
      ap₂ (λ (a b : ℕ). put_mid a (b - a) table after) lies.0 lies.1
      ∙ part_back (k * record_size) record_size table after

  -- as f makes it of the row at k
  pub back-changed : (f : List ℕ → List ℕ) {after : List ℕ} → after ≡ f (row_at record_size k table) → put_mid start (end - start) table after ≡ changed_at k f table
  back-changed f {after} e =
      part_came-back after ∙ ap (λ (r : List ℕ). take (k * record_size) table ++ r ++ drop (k * record_size + record_size) table) e

  -- where f changes a record, and leaves what is none
  pub back_record : (f : List ℕ → List ℕ) {after : List ℕ} → after ≡ cond (is_record part) (f part) part → put_mid start (end - start) table after ≡ changed_at k f table
  back_record f e = back-changed f (e ∙ ap (λ (b : Bool). cond b (f part) part) part_record ∙ ap f part-row)

-- ---- there is one place, or none

pub place_told : (k : ℕ) (table : List ℕ) (o : Option (Range ℕ))
    → MatchOption o (length table < k * record_size + record_size) (λ lies. (lies.start ≡ k * record_size) × (lies.end ≡ k * record_size + record_size) × (lies.end ≤ length table))
    → ends o ≡ place_at k table
place_told k table None h = sym (ap (λ (b : Bool). cond b (Some (k * record_size, k * record_size + record_size)) None) (lt-leb _ _ h))
place_told k table (Some lies) h =
    ap₂ (λ (a b : ℕ). Some (a, b)) h.0 h.1
    ∙ sym (ap (λ (b : Bool). cond b (Some (k * record_size, k * record_size + record_size)) None) (le-leb _ _ (fits k table h)))
