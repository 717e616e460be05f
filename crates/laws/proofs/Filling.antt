-- The invariant of a loop that makes the rows of a list anew from the front, one row of p elements a turn: the rows done so far,
-- end to end, and then the list as it was.
-- Assumes nothing.
use mathlib.Core.Path.{◌≡◌, refl, sym, ap, ap₂, ◌∙◌}
use mathlib.Core.List.{List, [], ◌∷◌, ◌++◌}
use Prim.Native.Nat.{ℕ, ◌+◌, ◌-◌, ◌*◌, ◌≤◌}
use native.Mathlib.Nat.{suc-mul, zero-mul}
use native.Mathlib.Numerals.{add-one}
use native.Mathlib.Omega.{arith}
use lib.ListN.{length, length-append, length-drop, take, drop}
use lib.Seq.{take_at, drop_at, drop-drop}
use Rattle.laws.specs.Rows.{row_at, joined}
use Rattle.laws.proofs.Rows.{Every, every_append, length-joined, joined_snoc}

module _ {A : Type 0} where
  pub record Filling (p : ℕ) (l₀ l : List A) (k : ℕ) (rows : List (List A)) : Type 0 where
    pub so_far : l ≡ joined rows ++ drop (k * p) l₀
    pub each : Every p rows
    pub count : length rows ≡ k
    pub size : length l ≡ length l₀

  module _ (p : ℕ) (l₀ : List A) where
    pub filling_start : Filling p l₀ l₀ 0 []
    unfolding joined
    filling_start = record { so_far = ap (λ (m : ℕ). drop m l₀) (sym (zero-mul p)); each = tt; count = refl; size = refl }

    module _ {l : List A} {k : ℕ} {rows : List (List A)} (f : Filling p l₀ l k rows) where
      done-length : length (joined rows) ≡ k * p
      done-length = length-joined p rows f.each ∙ ap (λ (n : ℕ). n * p) f.count

      -- what is not done yet is as it was
      pub filling_rest : drop (k * p) l ≡ drop (k * p) l₀
      filling_rest = ap (drop (k * p)) f.so_far ∙ drop_at (joined rows) (drop (k * p) l₀) (k * p) done-length

      pub filling_row : row_at p k l ≡ row_at p k l₀
      unfolding row_at
      filling_row = ap (take p) filling_rest

      -- one row more
      pub filling_more : {l' : List A} (new : List A) → k * p + p ≤ length l₀ → length new ≡ p
          → l' ≡ take (k * p) l ++ new ++ drop (k * p + p) l → Filling p l₀ l' (k + 1) (rows ++ new ∷ [])
      filling_more {l'} new h n e =
          record {
            so_far = whole;
            each = every_append p rows (new ∷ []) f.each (n, tt);
            count = length-append rows (new ∷ []) ∙ ap (λ (m : ℕ). m + 1) f.count;
            size =
                ap length whole ∙ length-append (joined (rows ++ new ∷ [])) (drop ((k + 1) * p) l₀)
                ∙ ap₂ ◌+◌ (ap length (joined_snoc rows new) ∙ length-append (joined rows) new ∙ ap₂ ◌+◌ done-length n) (length-drop ((k + 1) * p) l₀ ∙ ap (λ (m : ℕ). length l₀ - m) next)
                ∙ omega arith;
          }
        where
          next : (k + 1) * p ≡ k * p + p
          next = ap (λ (m : ℕ). m * p) (add-one k) ∙ suc-mul k p

          whole : l' ≡ joined (rows ++ new ∷ []) ++ drop ((k + 1) * p) l₀
          whole =
              e
              ∙ ap₂ (λ (x y : List A). x ++ new ++ y)
              (ap (take (k * p)) f.so_far ∙ take_at (joined rows) (drop (k * p) l₀) (k * p) done-length)
              (sym (drop-drop p (k * p) l) ∙ ap (drop p) filling_rest ∙ drop-drop p (k * p) l₀ ∙ ap (λ (m : ℕ). drop m l₀) (sym next))
              ∙ ap (λ (x : List A). x ++ drop ((k + 1) * p) l₀) (sym (joined_snoc rows new))
