-- The invariant of a loop that makes the bytes of a part anew, one store a turn: the first i of them are made, and the others
-- are as they were.
-- Assumes nothing.
use mathlib.Core.Path.{◌≡◌, refl, ap, ◌∙◌}
use mathlib.Core.List.{List}
use Prim.Native.Nat.{ℕ, ◌+◌, ◌≤◌, ◌<◌}
use native.Mathlib.Omega.{arith}
use lib.ListN.{length, length-set, get_or, set}
use Rattle.records.specs.Record.{anew}
use Rattle.records.proofs.Anew.{anew_more}

pub record Making (f : ℕ → ℕ → ℕ) (at n : ℕ) (r₀ r : List ℕ) (i : ℕ) : Type 0 where
  pub within : i ≤ n
  pub size : length r ≡ length r₀
  pub so_far : r ≡ anew f at i r₀

module _ (f : ℕ → ℕ → ℕ) (at n : ℕ) (r₀ : List ℕ) where
  pub making_start : Making f at n r₀ r₀ 0
  unfolding anew
  making_start = record { within = omega arith; size = refl; so_far = refl }

  pub making_more : {r : List ℕ} {i v : ℕ} → Making f at n r₀ r i → i < n → v ≡ f i (get_or r (at + i) 0)
      → Making f at n r₀ (set r (at + i) v) (i + 1)
  making_more {r} {i} {v} m h e =
      record {
        within = omega arith;
        size = length-set r (at + i) v ∙ m.size;
        so_far = ap (λ (l : List ℕ). set l (at + i) v) m.so_far
            ∙ anew_more f at r₀ i v (e ∙ ap (λ (l : List ℕ). f i (get_or l (at + i) 0)) m.so_far);
      }

  pub making_end : {r : List ℕ} {i : ℕ} → Making f at n r₀ r i → n ≤ i → r ≡ anew f at n r₀
  making_end {i = i} m h =
      let all : i ≡ n = omega arith in
      m.so_far ∙ ap (λ (k : ℕ). anew f at k r₀) all
