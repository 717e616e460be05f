-- What is known where a test of several parts passes.
-- Assumes nothing.
use mathlib.Core.Path.{◌≡◌}
use mathlib.Core.Bool.{Bool, true, ◌&&◌}
use Prim.Native.Nat.{ℕ, ◌≤◌}
use lib.Dec.{leb}
use borrow.Author.Tests.{leb-true}
use Rattle.laws.proofs.Tests.{both_first, both_second}
use Rattle.records.specs.Commands.{most_monitors}

-- a monitor of a chain
pub position-test : (n k : ℕ) → leb 1 n && leb n most_monitors && leb 1 k && leb k n ≡ true → (n ≤ most_monitors) × (1 ≤ k) × (k ≤ n)
position-test n k h =
    let chain : Bool = leb 1 n && leb n most_monitors in
    let low = both_first (chain && leb 1 k) (leb k n) h in (
      leb-true n most_monitors (both_second (leb 1 n) (leb n most_monitors) (both_first chain (leb 1 k) low)),
      leb-true 1 k (both_second chain (leb 1 k) low),
      leb-true k n (both_second (chain && leb 1 k) (leb k n) h),
    )
