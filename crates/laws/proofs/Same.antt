-- The test whether two lists are the same passes where they are, and only there.
-- Assumes nothing.
use mathlib.Core.Path.{◌≡◌, refl, sym, ap, ap₂, ◌∙◌}
use mathlib.Core.Bool.{Bool, true, false, ◌&&◌}
use mathlib.Core.List.{List, [], ◌∷◌}
use Prim.Native.Nat.{ℕ}
use native.Mathlib.Omega.{arith}
use lib.Dec.{eqb}
use borrow.Author.Tests.{eq-eqb, eqb-true}
use Rattle.laws.specs.Counts.{same}

same_self : (xs : List ℕ) → same xs xs ≡ true
unfolding same
same_self [] = refl
same_self (x ∷ xs) = ap₂ ◌&&◌ (eq-eqb x x refl) (same_self xs)

pub are_same : {xs ys : List ℕ} → xs ≡ ys → same xs ys ≡ true
are_same {xs} e = ap (same xs) (sym e) ∙ same_self xs

pub same_are : (xs ys : List ℕ) → same xs ys ≡ true → xs ≡ ys
unfolding same
same_are [] [] e = refl
same_are [] (y ∷ ys) e = let z : ◌≡◌ {A = ℕ} 0 1 = cc in absurd (omega arith)
same_are (x ∷ xs) [] e = let z : ◌≡◌ {A = ℕ} 0 1 = cc in absurd (omega arith)
same_are (x ∷ xs) (y ∷ ys) e = by (eqb x y) refl e (same_are xs ys)
  where
    by : (b : Bool) → eqb x y ≡ b → b && same xs ys ≡ true → (same xs ys ≡ true → xs ≡ ys) → x ∷ xs ≡ y ∷ ys
    by true first e rest = ap₂ ◌∷◌ (eqb-true x y first) (rest e)
    by false first e rest = let z : ◌≡◌ {A = ℕ} 0 1 = cc in absurd (omega arith)

-- so where it fails they are not
pub not_same : (xs ys : List ℕ) → same xs ys ≡ false → xs ≡ ys → ⊥
not_same xs ys e p = let there = are_same p in let z : ◌≡◌ {A = ℕ} 0 1 = cc in omega arith
