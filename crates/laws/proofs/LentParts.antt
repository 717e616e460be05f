-- A part of a slice that was lent and has come back: the row of p elements at k, and the list with another row in its place.
-- Assumes nothing.
use mathlib.Core.Path.{◌≡◌, sym, ap, ◌∙◌}
use mathlib.Core.List.{List, ◌++◌, append_assoc}
use Prim.Native.Nat.{ℕ, ◌+◌, ◌-◌, ◌*◌}
use native.Mathlib.Omega.{arith}
use lib.ListN.{take, drop}
use borrow.Rule.Slice.PartMut.{put_mid, post_of, Post-is}
use Rattle.laws.specs.Rows.{row_at}

module _ {A : Type 0} where
  pub part-lent : (p k : ℕ) (xs : List A) → take (k * p + p - k * p) (drop (k * p) xs) ≡ row_at p k xs
  unfolding row_at
  part-lent p k xs =
      let size : k * p + p - k * p ≡ p = omega arith in
      ap (λ (n : ℕ). take n (drop (k * p) xs)) size

  pub part_back : (a p : ℕ) (xs ys : List A) → put_mid a (a + p - a) xs ys ≡ take a xs ++ ys ++ drop (a + p) xs
  part_back a p xs ys =
      sym (append_assoc (take a xs) ys (post_of a (a + p - a) xs)) ∙ ap (λ (zs : List A). take a xs ++ ys ++ zs) (Post-is a (a + p) xs (omega arith))
