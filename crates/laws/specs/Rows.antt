-- Rows: a list cut into parts of one length, and parts laid end to end.
-- Assumes nothing.
use Rattle.std.specs.Prelude.{List, [], ◌∷◌, ◌++◌, ℕ, zero, suc, ◌*◌, take, drop}

module _ {A : Type 0} where
  -- the first n rows of p elements each
  unfoldable pub rows : ℕ → ℕ → List A → List (List A)
  rows p zero xs = []
  rows p (suc n) xs = take p xs ∷ rows p n (drop p xs)

  -- the row at k, counted from 0
  unfoldable pub row_at : ℕ → ℕ → List A → List A
  row_at p k xs = take p (drop (k * p) xs)

  -- parts end to end
  unfoldable pub joined : List (List A) → List A
  joined [] = []
  joined (r ∷ rs) = r ++ joined rs

  -- two lists element by element, as far as both go
  unfoldable pub along : {B C : Type 0} → (A → B → C) → List A → List B → List C
  along f [] ys = []
  along f (x ∷ xs) [] = []
  along f (x ∷ xs) (y ∷ ys) = f x y ∷ along f xs ys
