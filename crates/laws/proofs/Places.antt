-- A place among others: it lies before n places from one on, among them, or past them.
-- Assumes nothing.
use mathlib.Core.Path.{◌≡◌, refl}
use mathlib.Core.Bool.{Bool, true, false}
use Prim.Native.Nat.{ℕ, ◌+◌, ◌-◌, ◌≤◌, ◌<◌}
use native.Mathlib.Omega.{arith}
use lib.Dec.{ltb}
use borrow.Author.Tests.{ltb-true, ltb-false}

pub by_place : {P : Type 0} (at n i : ℕ) → (i < at → P) → ((j : ℕ) → j < n → at + j ≡ i → P) → (at + n ≤ i → P) → P
by_place {P} at n i before among past = from (ltb i at) refl
  where
    upto : at ≤ i → (b : Bool) → ltb i (at + n) ≡ b → P
    upto h true e = let l = ltb-true i (at + n) e in among (i - at) (omega arith) (omega arith)
    upto h false e = past (ltb-false i (at + n) e)

    from : (b : Bool) → ltb i at ≡ b → P
    from true e = before (ltb-true i at e)
    from false e = upto (ltb-false i at e) (ltb i (at + n)) refl
