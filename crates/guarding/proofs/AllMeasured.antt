-- Document 02, L8, (a) and (b): a heartbeat that leaves the chain has made every monitor of it measure, and has changed nothing else of any.
-- Assumes nothing.
use mathlib.Core.Path.{◌≡◌, refl, ap, ◌∙◌, subst, subst⁻¹}
use mathlib.Core.Bool.{Bool, true, false}
use mathlib.Core.List.{List}
use mathlib.Core.Logic.{inl, inr}
use Prim.Native.Nat.{ℕ, suc, ◌-◌, ◌<◌}
use native.Mathlib.Omega.{arith}
use lib.Dec.{eqb}
use borrow.Author.Tests.{eqb-true, eqb-false}
use Rattle.laws.specs.Tables.{tabulate}
use Rattle.judging.specs.Table.{monitors}
use Rattle.judging.proofs.Soundness.{is_sound}
use Rattle.measuring.specs.Measuring.{measured}
use Rattle.passing.specs.Hops.{wake_sends, wake_leaves, hops, behind, left_along, beat_leaves}
use Rattle.guarding.specs.Chains.{at, Guarded, FromTheEnd}
use Rattle.guarding.proofs.Struck.{its-way}
use Rattle.guarding.proofs.Along.{measured-behind, measured-first}
use Rattle.guarding.proofs.Arrives.{sends_behind}

-- ---- the hop behind which a monitor is that is not the manager

record Behind (toA : Bool) (n k j : ℕ) : Type 0 where
  hop : ℕ
  on_it : hop < hops toA n k
  is_there : behind toA k hop ≡ j

from-far : (n k j : ℕ) → suc k ≡ n → j < n → (j ≡ k → ⊥) → Behind true n k j
unfolding hops behind
from-far n k j e h apart = let below : j < k = by (eqb j k) refl in record { hop = k - suc j; on_it = omega arith; is_there = omega arith }
  where
    by : (b : Bool) → eqb j k ≡ b → j < k
    by true t = absurd (apart (eqb-true j k t))
    by false t = omega arith

from_near : (n k j : ℕ) → k ≡ 0 → j < n → (j ≡ k → ⊥) → Behind false n k j
unfolding hops behind
from_near n k j e h apart = record { hop = j - 1; on_it = omega arith; is_there = omega arith }

find_hop : (toA : Bool) (n k j : ℕ) → FromTheEnd toA k n → j < n → (j ≡ k → ⊥) → Behind toA n k j
find_hop toA n k j (inl (d, e)) h apart = subst⁻¹ (λ (t : Bool). Behind t n k j) d (from-far n k j e h apart)
find_hop toA n k j (inr (d, e)) h apart = subst⁻¹ (λ (t : Bool). Behind t n k j) d (from_near n k j e h apart)

-- ---- every monitor

pub all-measured : (toA : Bool) (k : ℕ) (table : List ℕ) → Guarded toA k table → FromTheEnd toA k (monitors table)
    → (j : ℕ) → j < monitors table → at j (beat_leaves k table) ≡ measured (at j table)
unfolding beat_leaves
all-measured toA k table g end j h =
    ap (λ (ks : List ℕ). at j (left_along ks (wake_sends k table) (wake_leaves k table))) (its-way toA k table g) ∙ by (eqb j k) refl
  where
    by : (b : Bool) → eqb j k ≡ b → at j (left_along (tabulate (behind toA k) 0 (hops toA (monitors table) k)) (wake_sends k table) (wake_leaves k table)) ≡ measured (at j table)
    by true e =
        let m = hops toA (monitors table) k in
        let whole = (is_sound table g.its-sound).whole in
        subst⁻¹ (λ (x : ℕ). at x (left_along (tabulate (behind toA k) 0 m) (wake_sends k table) (wake_leaves k table)) ≡ measured (at x table)) (eqb-true j k e)
        (measured-first toA (monitors table) k g.there table whole g.manager m (omega arith) (sends_behind toA k table g))
    by false e =
        let m = hops toA (monitors table) k in
        let whole = (is_sound table g.its-sound).whole in
        let b = find_hop toA (monitors table) k j end h (eqb-false j k e) in
        subst (λ (x : ℕ). at x (left_along (tabulate (behind toA k) 0 m) (wake_sends k table) (wake_leaves k table)) ≡ measured (at x table)) b.is_there
        (measured-behind toA (monitors table) k g.there table whole g.manager m (omega arith) (sends_behind toA k table g) b.hop b.on_it)
