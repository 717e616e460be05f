-- Lists, where the kit has no law: parts of a part; the element at a place of a padded list, of a reverse and of a `map`;
-- parts of a reverse and of a `map`; a store into a reverse. By recursion along the list.
-- Assumes nothing.
use mathlib.Core.Path.{◌≡◌, refl, sym, ap, ◌∙◌}
use mathlib.Core.List.{List, [], ◌∷◌, ◌++◌, map, reverse, reverse-cons, reverse-append, map-append}
use Prim.Native.Nat.{ℕ, zero, suc, ◌+◌, ◌-◌, ◌<◌}
use native.Mathlib.Nat.{zero-add, suc-add}
use native.Mathlib.Decide.{dec_lt}
use native.Mathlib.Omega.{arith}
use lib.ListN.{length, get_or, set, take, drop, replicate, length-reverse, length-drop, take-append-drop, get_or-append}
use lib.Seq.{take-nil, take_at, drop_at, get_or_at, set_at, set-append_left}

module _ {ℓ} {A : Type ℓ} where
  -- ---- parts and places

  -- the first n of what stands behind the first m
  pub drop-take : (m n : ℕ) (xs : List A) → drop m (take (m + n) xs) ≡ take n (drop m xs)
  drop-take zero n xs = rw zero-add
  drop-take (suc m) n [] = rw suc-add (sym (take-nil n))
  drop-take (suc m) n (x ∷ xs) = rw suc-add (drop-take m n xs)

  -- at a place that the list has, what is given for the others does not count
  pub get_d_any : (xs : List A) (k : ℕ) (c d : A) → k < length xs → get_or xs k c ≡ get_or xs k d
  get_d_any [] k c d h = absurd (omega arith)
  get_d_any (x ∷ xs) zero c d h = refl
  get_d_any (x ∷ xs) (suc k) c d h = get_d_any xs k c d (omega arith)

  -- a list padded with what is given for the places that it does not have reads the same
  pub get_d_padded : (xs : List A) (n k : ℕ) (d : A) → get_or (xs ++ replicate n d) k d ≡ get_or xs k d
  get_d_padded [] zero k d = refl
  get_d_padded [] (suc n) zero d = refl
  get_d_padded [] (suc n) (suc k) d = get_d_padded [] n k d
  get_d_padded (x ∷ xs) n zero d = refl
  get_d_padded (x ∷ xs) n (suc k) d = get_d_padded xs n k d

  -- ---- a reverse

  -- one element more: it is the last of the reverse, and the places before it are those of the rest
  reverse_place : (x : A) (xs : List A) (k : ℕ) (d : A) → k < suc (length xs) → Dec (k < length xs)
      → (k < length xs → get_or (reverse xs) k d ≡ get_or xs (length xs - suc k) d)
      → get_or (reverse xs ++ x ∷ []) k d ≡ get_or (x ∷ xs) (suc (length xs) - suc k) d
  reverse_place x xs k d h (yes b) rest =
      let e : suc (length xs - suc k) ≡ suc (length xs) - suc k = omega arith in
      get_or-append (reverse xs) (x ∷ []) d k (rw length-reverse b) ∙ rest b ∙ ap (λ (n : ℕ). get_or (x ∷ xs) n d) e
  reverse_place x xs k d h (no b) rest =
      let l : length xs ≡ k = omega arith in
      let e : 0 ≡ suc (length xs) - suc k = omega arith in
      get_or_at (reverse xs) x [] d k (length-reverse xs ∙ l) ∙ ap (λ (n : ℕ). get_or (x ∷ xs) n d) e

  -- the element at k of a reverse is the element at k counted from the end
  pub get_d_reverse : (xs : List A) (k : ℕ) (d : A) → k < length xs → get_or (reverse xs) k d ≡ get_or xs (length xs - suc k) d
  get_d_reverse [] k d h = absurd (omega arith)
  get_d_reverse (x ∷ xs) k d h =
      ap (λ (l : List A). get_or l k d) (reverse-cons x xs) ∙ reverse_place x xs k d h (dec_lt k (length xs)) (λ b. get_d_reverse xs k d b)

  -- a store at k is a store into the reverse, at k counted from the end
  pub set-reverse : (xs : List A) (k : ℕ) (a : A) → k < length xs → set (reverse xs) (length xs - suc k) a ≡ reverse (set xs k a)
  set-reverse [] k a h = absurd (omega arith)
  set-reverse (x ∷ xs) zero a h =
      let e : length (reverse xs) ≡ suc (length xs) - 1 = length-reverse xs ∙ omega arith in
      ap (λ (l : List A). set l (suc (length xs) - 1) a) (reverse-cons x xs)
      ∙ set_at (reverse xs) x [] a (suc (length xs) - 1) e
      ∙ sym (reverse-cons a xs)
  set-reverse (x ∷ xs) (suc k) a h =
      let e : suc (length xs) - suc (suc k) ≡ length xs - suc k = omega arith in
      let b : length xs - suc k < length (reverse xs) = rw length-reverse (omega arith) in
      ap (λ (l : List A). set l (suc (length xs) - suc (suc k)) a) (reverse-cons x xs)
      ∙ ap (λ (n : ℕ). set (reverse xs ++ x ∷ []) n a) e
      ∙ set-append_left (reverse xs) (x ∷ []) (length xs - suc k) a b
      ∙ ap (λ (l : List A). l ++ x ∷ []) (set-reverse xs k a (omega arith))
      ∙ sym (reverse-cons x (set xs k a))

  -- the reverse of a list that is cut
  pub reverse_cut : (m : ℕ) (xs : List A) → reverse xs ≡ reverse (drop m xs) ++ reverse (take m xs)
  reverse_cut m xs = ap reverse (sym (take-append-drop m xs)) ∙ reverse-append (take m xs) (drop m xs)

  reverse_cut_length : (m n : ℕ) (xs : List A) → length xs ≡ m + n → length (reverse (drop m xs)) ≡ n
  reverse_cut_length m n xs e = rw (length-reverse, length-drop) (omega arith)

  -- the first n of the reverse of m + n elements
  pub take-reverse : (m n : ℕ) (xs : List A) → length xs ≡ m + n → take n (reverse xs) ≡ reverse (drop m xs)
  take-reverse m n xs e =
      ap (take n) (reverse_cut m xs) ∙ take_at (reverse (drop m xs)) (reverse (take m xs)) n (reverse_cut_length m n xs e)

  -- and what stands behind them
  pub drop-reverse : (m n : ℕ) (xs : List A) → length xs ≡ m + n → drop n (reverse xs) ≡ reverse (take m xs)
  drop-reverse m n xs e =
      ap (drop n) (reverse_cut m xs) ∙ drop_at (reverse (drop m xs)) (reverse (take m xs)) n (reverse_cut_length m n xs e)

module _ {ℓ κ} {A : Type ℓ} {B : Type κ} (f : A → B) where
  -- ---- a `map`

  -- the element at a place that the list has
  pub get_d_map : (xs : List A) (k : ℕ) (b : B) (a : A) → k < length xs → get_or (map f xs) k b ≡ f (get_or xs k a)
  get_d_map [] k b a h = absurd (omega arith)
  get_d_map (x ∷ xs) zero b a h = refl
  get_d_map (x ∷ xs) (suc k) b a h = get_d_map xs k b a (omega arith)

  -- of the first n
  pub map-take : (n : ℕ) (xs : List A) → map f (take n xs) ≡ take n (map f xs)
  map-take zero xs = refl
  map-take (suc n) [] = refl
  map-take (suc n) (x ∷ xs) = ap (λ (r : List B). f x ∷ r) (map-take n xs)

  -- of what stands behind them
  pub map-drop : (n : ℕ) (xs : List A) → map f (drop n xs) ≡ drop n (map f xs)
  map-drop zero xs = refl
  map-drop (suc n) [] = refl
  map-drop (suc n) (x ∷ xs) = map-drop n xs

  -- of a reverse
  pub map-reverse : (xs : List A) → map f (reverse xs) ≡ reverse (map f xs)
  map-reverse [] = refl
  map-reverse (x ∷ xs) =
      ap (map f) (reverse-cons x xs)
      ∙ map-append f (reverse xs) (x ∷ [])
      ∙ ap (λ (r : List B). r ++ f x ∷ []) (map-reverse xs)
      ∙ sym (reverse-cons (f x) (map f xs))
