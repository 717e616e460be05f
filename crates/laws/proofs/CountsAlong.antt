-- Counting along two lists: where what is counted goes by the elements of one of them, it is as many as pass there.
-- Assumes nothing.
use mathlib.Core.Path.{◌≡◌, refl, ap, ap₂}
use mathlib.Core.Bool.{Bool, cond}
use mathlib.Core.List.{List, [], ◌∷◌}
use Prim.Native.Nat.{ℕ, suc, ◌+◌, ◌≤◌, ◌<◌}
use native.Mathlib.Omega.{arith}
use lib.ListN.{length, get_or}
use lib.Dec.{lit≤}
use Rattle.laws.specs.Counts.{count}
use Rattle.laws.specs.Rows.{along}
use Rattle.laws.proofs.Counts.{at_most_one}

module _ {A B : Type 0} (f : A → B → Bool) (a : A) (b : B) where
  pub count-first : (g : A → Bool) (xs : List A) (ys : List B) → length xs ≡ length ys
      → ((k : ℕ) → k < length xs → f (get_or xs k a) (get_or ys k b) ≡ g (get_or xs k a)) → count (λ t. t) (along f xs ys) ≡ count g xs
  unfolding count along
  count-first g [] ys e h = refl
  count-first g (x ∷ xs) [] e h = absurd (omega arith)
  count-first g (x ∷ xs) (y ∷ ys) e h =
      ap₂ ◌+◌ (ap (λ (t : Bool). cond t 1 0) (h 0 (omega arith))) (count-first g xs ys (omega arith) (λ k l. h (suc k) (omega arith)))

  pub count-second : (g : B → Bool) (xs : List A) (ys : List B) → length xs ≡ length ys
      → ((k : ℕ) → k < length ys → f (get_or xs k a) (get_or ys k b) ≡ g (get_or ys k b)) → count (λ t. t) (along f xs ys) ≡ count g ys
  unfolding count along
  count-second g [] [] e h = refl
  count-second g [] (y ∷ ys) e h = absurd (omega arith)
  count-second g (x ∷ xs) [] e h = absurd (omega arith)
  count-second g (x ∷ xs) (y ∷ ys) e h =
      ap₂ ◌+◌ (ap (λ (t : Bool). cond t 1 0) (h 0 (omega arith))) (count-second g xs ys (omega arith) (λ k l. h (suc k) (omega arith)))

-- no more than the first list has
pub count-along_most : {A B : Type 0} (f : A → B → Bool) (xs : List A) (ys : List B) → count (λ t. t) (along f xs ys) ≤ length xs
unfolding count along
count-along_most f [] ys = lit≤ tt
count-along_most f (x ∷ xs) [] = omega arith
count-along_most f (x ∷ xs) (y ∷ ys) = omega (arith, at_most_one (f x y), count-along_most f xs ys)
