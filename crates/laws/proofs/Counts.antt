-- Counting and testing along a list: one element more, one element that fails, and where all pass. A flag, as the code counts it.
-- Assumes nothing.
use mathlib.Core.Path.{◌≡◌, refl, sym, ap, ap₂, ◌∙◌}
use mathlib.Core.Bool.{Bool, true, false, cond, ◌&&◌}
use mathlib.Core.List.{List, [], ◌∷◌, ◌++◌, map}
use Prim.Native.Nat.{ℕ, zero, suc, ◌+◌, ◌≤◌, ◌<◌}
use native.Mathlib.Nat.{add-zero, zero-add, add_assoc}
use native.Mathlib.Numerals.{one-add}
use native.Mathlib.Omega.{arith}
use lib.Dec.{lit≤}
use lib.ListN.{length, get_or}
use mir.Val.{bool_byte}
use Rattle.laws.specs.Counts.{all, count}
use Rattle.laws.specs.Tables.{tabulate}
use Rattle.laws.proofs.Rows.{Every}
use Rattle.laws.proofs.Tests.{both_first, both_second}

pub and_true : (b : Bool) → b && true ≡ b
and_true true = refl
and_true false = refl

pub and-false : (b : Bool) → b && false ≡ false
and-false true = refl
and-false false = refl

and_assoc : (a b c : Bool) → a && b && c ≡ a && (b && c)
and_assoc true b c = refl
and_assoc false b c = refl

pub at_most_one : (b : Bool) → cond b 1 0 ≤ 1
at_most_one true = lit≤ tt
at_most_one false = lit≤ tt

module _ {A : Type 0} (test : A → Bool) where
  pub all_snoc : (xs : List A) (x : A) → all test (xs ++ x ∷ []) ≡ all test xs && test x
  unfolding all
  all_snoc [] x = and_true (test x)
  all_snoc (y ∷ ys) x = ap (λ (b : Bool). test y && b) (all_snoc ys x) ∙ sym (and_assoc (test y) (all test ys) (test x))

  pub all_fails : (xs : List A) (k : ℕ) (d : A) → k < length xs → test (get_or xs k d) ≡ false → all test xs ≡ false
  unfolding all
  all_fails [] k d h e = absurd (omega arith)
  all_fails (x ∷ xs) zero d h e = ap (λ (b : Bool). b && all test xs) e
  all_fails (x ∷ xs) (suc k) d h e = ap (λ (b : Bool). test x && b) (all_fails xs k d (omega arith) e) ∙ and-false (test x)

  pub count_snoc : (xs : List A) (x : A) → count test (xs ++ x ∷ []) ≡ count test xs + cond (test x) 1 0
  unfolding count
  count_snoc [] x = add-zero (cond (test x) 1 0) ∙ sym (zero-add (cond (test x) 1 0))
  count_snoc (y ∷ ys) x = ap (λ (n : ℕ). cond (test y) 1 0 + n) (count_snoc ys x) ∙ sym (add_assoc (cond (test y) 1 0) (count test ys) (cond (test x) 1 0))

  pub count-all : ((x : A) → test x ≡ true) → (xs : List A) → count test xs ≡ length xs
  unfolding count
  count-all h [] = refl
  count-all h (x ∷ xs) = ap₂ ◌+◌ (ap (λ (b : Bool). cond b 1 0) (h x)) (count-all h xs) ∙ one-add (length xs)

  pub count_nothing : ((x : A) → test x ≡ false) → (xs : List A) → count test xs ≡ 0
  unfolding count
  count_nothing h [] = refl
  count_nothing h (x ∷ xs) = omega (arith, ap {B = ℕ} (λ (b : Bool). cond b 1 0) (h x), count_nothing h xs)

-- of what a function makes
pub count_map : {A B : Type 0} (test : B → Bool) (f : A → B) (xs : List A) → count test (map f xs) ≡ count (λ x. test (f x)) xs
unfolding count
count_map test f [] = refl
count_map test f (x ∷ xs) = ap (λ (n : ℕ). cond (test (f x)) 1 0 + n) (count_map test f xs)

-- of parts of p elements, where each such part passes
pub count_every : {A : Type 0} (test : List A → Bool) (p : ℕ) → ((r : List A) → length r ≡ p → test r ≡ true) → (rs : List (List A)) → Every p rs
    → count test rs ≡ length rs
unfolding count
count_every test p h [] e = refl
count_every test p h (r ∷ rs) e = ap₂ ◌+◌ (ap (λ (b : Bool). cond b 1 0) (h r e.0)) (count_every test p h rs e.1) ∙ one-add (length rs)

-- no more than there are
pub count_most : {A : Type 0} (test : A → Bool) (xs : List A) → count test xs ≤ length xs
unfolding count
count_most test [] = lit≤ tt
count_most test (x ∷ xs) = omega (arith, at_most_one (test x), count_most test xs)

-- by the places of the elements, of which the first is i
pub count-places : {A : Type 0} (test : A → Bool) (at : ℕ → Bool) (d : A) (i : ℕ) (xs : List A) → ((k : ℕ) → k < length xs → test (get_or xs k d) ≡ at (i + k))
    → count test xs ≡ count at (tabulate (λ k. k) i (length xs))
unfolding count tabulate
count-places test at d i [] h = refl
count-places test at d i (x ∷ xs) h =
    ap₂ ◌+◌ (ap (λ (b : Bool). cond b 1 0) (h 0 (omega arith) ∙ ap at (add-zero i)))
    (count-places test at d (suc i) xs (λ k l. h (suc k) (omega arith) ∙ ap at (next i k)))
  where
    next : (i k : ℕ) → i + suc k ≡ suc i + k
    next i k = omega arith

-- where each passes, by its place
pub count_where : {A : Type 0} (test : A → Bool) (xs : List A) (d : A) → ((k : ℕ) → k < length xs → test (get_or xs k d) ≡ true) → count test xs ≡ length xs
unfolding count
count_where test [] d h = refl
count_where test (x ∷ xs) d h =
    ap₂ ◌+◌ (ap (λ (b : Bool). cond b 1 0) (h 0 (omega arith))) (count_where test xs d (λ k l. h (suc k) (omega arith))) ∙ one-add (length xs)

-- one that fails is not counted
pub count_fails : {A : Type 0} (test : A → Bool) (xs : List A) (k : ℕ) (d : A) → k < length xs → test (get_or xs k d) ≡ false → count test xs < length xs
unfolding count
count_fails test [] k d h e = absurd (omega arith)
count_fails test (x ∷ xs) zero d h e = omega (arith, ap {B = ℕ} (λ (b : Bool). cond b 1 0) e, count_most test xs)
count_fails test (x ∷ xs) (suc k) d h e = omega (arith, at_most_one (test x), count_fails test xs k d (omega arith) e)

-- ---- a flag

pub flag_counts : (b : Bool) → bool_byte b ≡ cond b 1 0
flag_counts true = refl
flag_counts false = refl

pub flag_at_most_one : (b : Bool) → bool_byte b ≤ 1
flag_at_most_one true = lit≤ tt
flag_at_most_one false = lit≤ tt

-- all pass exactly where as many do as there are
module _ {A : Type 0} (test : A → Bool) where
  pub all-counted : (xs : List A) → all test xs ≡ true → count test xs ≡ length xs
  unfolding all count
  all-counted [] e = refl
  all-counted (x ∷ xs) e =
      ap₂ ◌+◌ (ap (λ (b : Bool). cond b 1 0) (both_first (test x) (all test xs) e)) (all-counted xs (both_second (test x) (all test xs) e))
      ∙ one-add (length xs)

  pub counted-all : (xs : List A) → count test xs ≡ length xs → all test xs ≡ true
  unfolding all count
  counted-all [] e = refl
  counted-all (x ∷ xs) e = by (test x) e (counted-all xs)
    where
      by : (b : Bool) → cond b 1 0 + count test xs ≡ suc (length xs) → (count test xs ≡ length xs → all test xs ≡ true) → b && all test xs ≡ true
      by true h rest = rest (omega arith)
      by false h rest = absurd (omega (arith, count_most test xs))
