-- A monitor that a heartbeat has not come to yet, behind any number of hops, is as it was at its start.
-- Assumes nothing.
use mathlib.Core.Path.{◌≡◌, ap, ◌∙◌}
use mathlib.Core.Bool.{Bool}
use mathlib.Core.List.{List}
use Prim.Native.Nat.{ℕ, ◌≤◌, ◌<◌}
use native.Mathlib.Omega.{arith}
use lib.ListN.{take}
use Rattle.laws.proofs.Tables.{take-table}
use Rattle.judging.specs.Table.{monitors}
use Rattle.judging.proofs.Soundness.{is_sound}
use Rattle.passing.specs.Hops.{wake_sends, wake_leaves, hops, behind, way_from, left_along}
use Rattle.passing.proofs.Silent.{behind_within}
use Rattle.guarding.specs.Chains.{at, Guarded}
use Rattle.guarding.proofs.Ways.{behind-apart, behind_past}
use Rattle.guarding.proofs.Struck.{its-way}
use Rattle.guarding.proofs.Along.{beside_so_far}
use Rattle.guarding.proofs.Arrives.{sends_behind}

pub untouched : (toA : Bool) (k : ℕ) (table : List ℕ) → Guarded toA k table → (h j : ℕ) → h ≤ j → j < hops toA (monitors table) k
    → at (behind toA k j) (left_along (take h (way_from k table)) (wake_sends k table) (wake_leaves k table)) ≡ at (behind toA k j) table
untouched toA k table g h j a b =
    let n = monitors table in
    ap (λ (ks : List ℕ). at (behind toA k j) (left_along ks (wake_sends k table) (wake_leaves k table)))
    (ap (take h) (its-way toA k table g) ∙ take-table (behind toA k) h 0 (hops toA n k) (omega arith))
    ∙ beside_so_far toA n k g.there table (is_sound table g.its-sound).whole g.manager h (omega arith) (λ i c. sends_behind toA k table g i (omega arith))
    (behind toA k j) (behind_within toA n k j g.there b) (behind_past toA n k j g.there b) (λ i c. behind-apart toA n k i j g.there (omega arith) b)
