-- A monitor's way to the end of the chain: it comes to no monitor twice, nor back to where it starts. A monitor that it has not come to yet is
-- as it was.
-- Assumes nothing.
use mathlib.Core.Path.{◌≡◌, ◌∙◌}
use mathlib.Core.Bool.{Bool, true, false}
use mathlib.Core.List.{List}
use Prim.Native.Nat.{ℕ, ◌*◌, ◌<◌}
use native.Mathlib.Omega.{arith}
use lib.ListN.{length}
use Rattle.laws.specs.Rows.{row_at}
use Rattle.laws.proofs.Rows.{row_fits}
use Rattle.records.specs.Record.{record_size}
use Rattle.judging.proofs.Changed.{other_record}
use Rattle.heartbeats.specs.Steps.{woken, reached}
use Rattle.heartbeats.proofs.Kept.{length-woken, length-reached}
use Rattle.passing.specs.Hops.{wake_leaves, hop_leaves, hops, behind}
use Rattle.passing.proofs.Silent.{length_wake, length_hop, behind_within}

-- ---- no monitor twice

pub behind-apart : (toA : Bool) (n k i j : ℕ) → k < n → i < j → j < hops toA n k → behind toA k j ≡ behind toA k i → ⊥
unfolding hops behind
behind-apart true n k i j h l b e = omega arith
behind-apart false n k i j h l b e = omega arith

pub behind_past : (toA : Bool) (n k j : ℕ) → k < n → j < hops toA n k → behind toA k j ≡ k → ⊥
unfolding hops behind
behind_past true n k j h b e = omega arith
behind_past false n k j h b e = omega arith

-- ---- a monitor that it has not come to

module _ (toA : Bool) (n k : ℕ) (there : k < n) (table : List ℕ) (whole : length table ≡ n * record_size) where
  pub woken-whole : length (wake_leaves k table) ≡ n * record_size
  woken-whole = length_wake k table (row_fits record_size there (omega arith)) ∙ whole

  pub ahead_woken : (j : ℕ) → j < hops toA n k → row_at record_size (behind toA k j) (wake_leaves k table) ≡ row_at record_size (behind toA k j) table
  unfolding wake_leaves
  ahead_woken j h =
      other_record k woken length-woken n table there whole (behind toA k j) (behind_within toA n k j there h) (behind_past toA n k j there h)

  module _ (i : ℕ) (within : i < hops toA n k) (bytes : List ℕ) where
    pub hop_whole : length (hop_leaves (behind toA k i) bytes table) ≡ n * record_size
    hop_whole = length_hop (behind toA k i) table bytes (row_fits record_size (behind_within toA n k i there within) (omega arith)) ∙ whole

    pub ahead_hop : (j : ℕ) → i < j → j < hops toA n k
        → row_at record_size (behind toA k j) (hop_leaves (behind toA k i) bytes table) ≡ row_at record_size (behind toA k j) table
    unfolding hop_leaves
    ahead_hop j l h =
        other_record (behind toA k i) (reached bytes) (λ r. length-reached r bytes) n table (behind_within toA n k i there within) whole (behind toA k j)
        (behind_within toA n k j there h) (behind-apart toA n k i j there l h)
