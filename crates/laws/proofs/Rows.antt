-- Rows: how many they are and how long, which elements each has, that cutting and laying end to end undo one another, what
-- they are of a front, of a reverse and where one row is replaced; and two lists element by element. By recursion on the
-- number of rows: one row more is `p` elements more.
-- Assumes nothing.
use mathlib.Core.Path.{◌≡◌, refl, sym, ap, ap₂, ◌∙◌, subst}
use mathlib.Core.List.{List, [], ◌∷◌, ◌++◌, map, reverse, append_assoc, append-nil, reverse-cons, reverse-append, reverse-reverse, map-append}
use Prim.Native.Nat.{ℕ, zero, suc, ◌+◌, ◌-◌, ◌*◌, ◌≤◌, ◌<◌, min}
use native.Mathlib.Nat.{zero-add, suc-add, add_comm, zero-mul, suc-mul, mul-le-mul_right, le_trans}
use native.Mathlib.Omega.{arith}
use lib.ListN.{length, get_or, set, take, drop, replicate, length-append, length-take, length-drop, length-reverse, length-replicate, replicate-append-replicate}
use lib.Seq.{length-take-le, take_all, take-nil, drop-nil, take_at, drop_at, take-append-le, drop-append-le, take-take, take-add, drop-drop, get_or-take, get_or-drop}
use Rattle.laws.specs.Rows.{rows, row_at, joined, along}
use Rattle.laws.proofs.Lists.{drop-take, take-reverse, drop-reverse, map-take, map-drop}

-- ---- numbers

one_more_lem : (p k : ℕ) → suc k * p ≡ p + k * p
one_more_lem p k = suc-mul k p ∙ add_comm (k * p) p

-- row k of n rows ends within the m elements that hold them all
pub row_fits : (p : ℕ) {k n m : ℕ} → k < n → n * p ≤ m → k * p + p ≤ m
row_fits p {k} {n} {m} h fits = le_trans (rw suc-mul at (mul-le-mul_right p h)) fits

module _ {A : Type 0} where
  -- each of the parts has p elements
  abbrev pub Every : ℕ → List (List A) → Type 0
  Every p [] = Unit {0}
  Every p (r ∷ rs) = (length r ≡ p) × Every p rs

  -- ---- how many rows, and which

  -- as many as asked for
  pub length-rows : (p n : ℕ) (xs : List A) → length (rows p n xs) ≡ n
  unfolding rows
  length-rows p zero xs = refl
  length-rows p (suc n) xs = ap suc (length-rows p n (drop p xs))

  drop-rows-suc : (p k : ℕ) (xs : List A) → drop (k * p) (drop p xs) ≡ drop (suc k * p) xs
  drop-rows-suc p k xs = drop-drop (k * p) p xs ∙ ap (λ (m : ℕ). drop m xs) (sym (one_more_lem p k))

  -- the first row
  pub row_zero : (p : ℕ) (xs : List A) → row_at p 0 xs ≡ take p xs
  unfolding row_at
  row_zero p xs = rw zero-mul

  -- a row behind the first
  pub row-suc : (p k : ℕ) (xs : List A) → row_at p (suc k) xs ≡ row_at p k (drop p xs)
  unfolding row_at
  row-suc p k xs = ap (take p) (sym (drop-rows-suc p k xs))

  -- what stands at k among the rows is the row at k
  pub row-at : (p n : ℕ) (xs : List A) (k : ℕ) (d : List A) → k < n → get_or (rows p n xs) k d ≡ row_at p k xs
  unfolding rows
  row-at p zero xs k d h = absurd (omega arith)
  row-at p (suc n) xs zero d h = sym (row_zero p xs)
  row-at p (suc n) xs (suc k) d h = row-at p n (drop p xs) k d (omega arith) ∙ sym (row-suc p k xs)

  -- the element at i of the row at k
  pub row_element : (p k : ℕ) (xs : List A) (i : ℕ) (d : A) → i < p → get_or (row_at p k xs) i d ≡ get_or xs (k * p + i) d
  unfolding row_at
  row_element p k xs i d h = get_or-take p (drop (k * p) xs) i d h ∙ get_or-drop (k * p) xs i d

  -- a row of a front
  pub row_front : (p k : ℕ) (xs ys : List A) → k * p + p ≤ length xs → row_at p k (xs ++ ys) ≡ row_at p k xs
  unfolding row_at
  row_front p k xs ys fits =
      ap (take p) (drop-append-le (k * p) xs ys (omega arith)) ∙ take-append-le p (drop (k * p) xs) ys (rw length-drop (omega arith))

  -- ---- how long a row is

  -- a row of any list: the last may be short, and there is nothing behind it
  pub length-row : (p k : ℕ) (xs : List A) → length (row_at p k xs) ≡ min p (length xs - k * p)
  unfolding row_at
  length-row p k xs = length-take p (drop (k * p) xs) ∙ ap (min p) (length-drop (k * p) xs)

  -- a row of a list that has all n
  pub length_row-at : (p n : ℕ) (xs : List A) (k : ℕ) → k < n → n * p ≤ length xs → length (row_at p k xs) ≡ p
  length_row-at p n xs k h fits = let room : k * p + p ≤ length xs = row_fits p h fits in length-row p k xs ∙ omega arith

  -- the same of what stands at k among the rows
  pub rows_lengths : (p n : ℕ) (xs : List A) (k : ℕ) (d : List A) → k < n → n * p ≤ length xs → length (get_or (rows p n xs) k d) ≡ p
  rows_lengths p n xs k d h fits = ap length (row-at p n xs k d h) ∙ length_row-at p n xs k h fits

  -- ---- parts laid end to end

  -- two runs of parts
  pub joined_append : (rs ss : List (List A)) → joined (rs ++ ss) ≡ joined rs ++ joined ss
  unfolding joined
  joined_append [] ss = refl
  joined_append (r ∷ rs) ss = ap (λ (l : List A). r ++ l) (joined_append rs ss) ∙ sym (append_assoc r (joined rs) (joined ss))

  -- one part more at the end
  pub joined_snoc : (rs : List (List A)) (r : List A) → joined (rs ++ r ∷ []) ≡ joined rs ++ r
  unfolding joined
  joined_snoc rs r = joined_append rs (r ∷ []) ∙ ap (λ (l : List A). joined rs ++ l) (append-nil r)

  -- how long they are together
  pub length-joined : (p : ℕ) (rs : List (List A)) → Every p rs → length (joined rs) ≡ length rs * p
  unfolding joined
  length-joined p [] e = sym (zero-mul p)
  length-joined p (r ∷ rs) e =
      length-append r (joined rs) ∙ ap₂ ◌+◌ e.0 (length-joined p rs e.1) ∙ sym (one_more_lem p (length rs))

  -- the rows of any list make up its front
  pub joined-take : (p n : ℕ) (xs : List A) → joined (rows p n xs) ≡ take (n * p) xs
  unfolding rows joined
  joined-take p zero xs = rw zero-mul
  joined-take p (suc n) xs =
      ap (λ (l : List A). take p xs ++ l) (joined-take p n (drop p xs))
      ∙ sym (take-add p (n * p) xs)
      ∙ ap (λ (m : ℕ). take m xs) (sym (one_more_lem p n))

  -- the rows of a list of just so many elements make up all of it
  pub joined-rows : (p n : ℕ) (xs : List A) → length xs ≡ n * p → joined (rows p n xs) ≡ xs
  joined-rows p n xs e = joined-take p n xs ∙ take_all (n * p) xs (omega arith)

  -- the first part of a list is its first row
  pub rows_cons : (p n : ℕ) (r xs : List A) → length r ≡ p → rows p (suc n) (r ++ xs) ≡ r ∷ rows p n xs
  unfolding rows
  rows_cons p n r xs e = ap₂ ◌∷◌ (take_at r xs p e) (ap (rows p n) (drop_at r xs p e))

  -- parts laid end to end and cut again, whatever stands behind them
  pub rows-joined_append : (p : ℕ) (rs : List (List A)) (ys : List A) → Every p rs → rows p (length rs) (joined rs ++ ys) ≡ rs
  unfolding rows joined
  rows-joined_append p [] ys e = refl
  rows-joined_append p (r ∷ rs) ys e =
      ap (rows p (suc (length rs))) (append_assoc r (joined rs) ys)
      ∙ rows_cons p (length rs) r (joined rs ++ ys) e.0
      ∙ ap (λ (ss : List (List A)). r ∷ ss) (rows-joined_append p rs ys e.1)

  -- parts laid end to end and cut again
  pub rows-joined : (p : ℕ) (rs : List (List A)) → Every p rs → rows p (length rs) (joined rs) ≡ rs
  rows-joined p rs e = ap (rows p (length rs)) (sym (append-nil (joined rs))) ∙ rows-joined_append p rs [] e

  -- the row at k of parts laid end to end is the part at k
  pub row-joined : (p : ℕ) (rs : List (List A)) (k : ℕ) (d : List A) → Every p rs → k < length rs → row_at p k (joined rs) ≡ get_or rs k d
  row-joined p rs k d e h =
      sym (row-at p (length rs) (joined rs) k d h) ∙ ap (λ (l : List (List A)). get_or l k d) (rows-joined p rs e)

  -- the element at i of the part at k, where the parts are laid end to end
  pub joined_element : (p : ℕ) (rs : List (List A)) (k i : ℕ) (c : List A) (d : A) → Every p rs → k < length rs → i < p
      → get_or (joined rs) (k * p + i) d ≡ get_or (get_or rs k c) i d
  joined_element p rs k i c d e h hi =
      sym (row_element p k (joined rs) i d hi) ∙ ap (λ (r : List A). get_or r i d) (row-joined p rs k c e h)

  -- ---- parts that all have p elements

  -- rows of a list that has them all
  pub every_rows : (p n : ℕ) (xs : List A) → n * p ≤ length xs → Every p (rows p n xs)
  unfolding rows
  every_rows p zero xs fits = tt
  every_rows p (suc n) xs fits =
      let fits' : p + n * p ≤ length xs = rw (one_more_lem p n) at fits in
      (length-take-le p xs (omega arith), every_rows p n (drop p xs) (rw length-drop (omega arith)))

  -- the part at k
  pub every_at : (p : ℕ) (rs : List (List A)) (k : ℕ) (d : List A) → Every p rs → k < length rs → length (get_or rs k d) ≡ p
  every_at p [] k d e h = absurd (omega arith)
  every_at p (r ∷ rs) zero d e h = e.0
  every_at p (r ∷ rs) (suc k) d e h = every_at p rs k d e.1 (omega arith)

  -- from the part at each k
  pub every_of : (p : ℕ) (rs : List (List A)) (d : List A) → ((k : ℕ) → k < length rs → length (get_or rs k d) ≡ p) → Every p rs
  every_of p [] d each = tt
  every_of p (r ∷ rs) d each = (each 0 (omega arith), every_of p rs d (λ k h. each (suc k) (omega arith)))

  -- two runs of parts
  pub every_append : (p : ℕ) (rs ss : List (List A)) → Every p rs → Every p ss → Every p (rs ++ ss)
  every_append p [] ss e f = f
  every_append p (r ∷ rs) ss e f = (e.0, every_append p rs ss e.1 f)

  -- parts in reverse
  pub every_reverse : (p : ℕ) (rs : List (List A)) → Every p rs → Every p (reverse rs)
  every_reverse p [] e = tt
  every_reverse p (r ∷ rs) e =
      subst (Every p) (sym (reverse-cons r rs)) (every_append p (reverse rs) (r ∷ []) (every_reverse p rs e.1) (e.0, tt))

  -- one part replaced
  pub every_set : (p : ℕ) (rs : List (List A)) (k : ℕ) (r : List A) → Every p rs → length r ≡ p → Every p (set rs k r)
  every_set p [] k r e l = tt
  every_set p (q ∷ rs) zero r e l = (l, e.1)
  every_set p (q ∷ rs) (suc k) r e l = (e.0, every_set p rs k r e.1 l)

  -- one part n times
  pub every_replicate : (p n : ℕ) (r : List A) → length r ≡ p → Every p (replicate n r)
  every_replicate p zero r l = tt
  every_replicate p (suc n) r l = (l, every_replicate p n r l)

  -- ---- more rows, and a front

  -- the first m rows, and the n behind them
  pub rows_split : (p m n : ℕ) (xs : List A) → rows p (m + n) xs ≡ rows p m xs ++ rows p n (drop (m * p) xs)
  unfolding rows
  rows_split p zero n xs = rw (zero-add, zero-mul)
  rows_split p (suc m) n xs =
      ap (λ (k : ℕ). rows p k xs) (suc-add m n)
      ∙ ap (λ (rs : List (List A)). take p xs ∷ rs)
      (rows_split p m n (drop p xs) ∙ ap (λ (l : List A). rows p m (drop p xs) ++ rows p n l) (drop-rows-suc p m xs))

  -- one row more at the end
  pub rows_snoc : (p n : ℕ) (xs : List A) → rows p (suc n) xs ≡ rows p n xs ++ row_at p n xs ∷ []
  unfolding rows
  rows_snoc p zero xs = ap (λ (r : List A). r ∷ []) (sym (row_zero p xs))
  rows_snoc p (suc n) xs =
      ap (λ (rs : List (List A)). take p xs ∷ rs)
      (rows_snoc p n (drop p xs) ∙ ap (λ (r : List A). rows p n (drop p xs) ++ r ∷ []) (sym (row-suc p n xs)))

  -- the first m of m + n rows
  pub take-rows : (p m n : ℕ) (xs : List A) → take m (rows p (m + n) xs) ≡ rows p m xs
  take-rows p m n xs = ap (take m) (rows_split p m n xs) ∙ take_at (rows p m xs) (rows p n (drop (m * p) xs)) m (length-rows p m xs)

  -- and the n behind them
  pub drop-rows : (p m n : ℕ) (xs : List A) → drop m (rows p (m + n) xs) ≡ rows p n (drop (m * p) xs)
  drop-rows p m n xs = ap (drop m) (rows_split p m n xs) ∙ drop_at (rows p m xs) (rows p n (drop (m * p) xs)) m (length-rows p m xs)

  -- only the first n * p elements count
  pub rows_take : (p n : ℕ) (xs : List A) → rows p n (take (n * p) xs) ≡ rows p n xs
  unfolding rows
  rows_take p zero xs = refl
  rows_take p (suc n) xs =
      ap (λ (m : ℕ). rows p (suc n) (take m xs)) (one_more_lem p n)
      ∙ ap₂ ◌∷◌ (take-take p (p + n * p) xs (omega arith)) (ap (rows p n) (drop-take p (n * p) xs) ∙ rows_take p n (drop p xs))

  -- lists that agree there have the same rows
  pub rows_same : (p n : ℕ) (xs ys : List A) → take (n * p) xs ≡ take (n * p) ys → rows p n xs ≡ rows p n ys
  rows_same p n xs ys e = sym (rows_take p n xs) ∙ ap (rows p n) e ∙ rows_take p n ys

  -- what stands behind the rows does not count
  pub rows_front : (p n : ℕ) (xs ys : List A) → n * p ≤ length xs → rows p n (xs ++ ys) ≡ rows p n xs
  rows_front p n xs ys fits = rows_same p n (xs ++ ys) xs (take-append-le (n * p) xs ys fits)

  -- where there is nothing to cut each row is empty
  pub rows_nil : (p n : ℕ) → rows p n [] ≡ replicate {A = List A} n []
  unfolding rows
  rows_nil p zero = refl
  rows_nil p (suc n) = ap₂ ◌∷◌ (take-nil p) (ap (rows p n) (drop-nil p) ∙ rows_nil p n)

  -- n parts that are p times a, end to end
  pub joined-replicate : (p n : ℕ) (a : A) → joined (replicate n (replicate p a)) ≡ replicate (n * p) a
  unfolding joined
  joined-replicate p zero a = rw zero-mul
  joined-replicate p (suc n) a =
      ap (λ (l : List A). replicate p a ++ l) (joined-replicate p n a)
      ∙ replicate-append-replicate p (n * p) a
      ∙ ap (λ (m : ℕ). replicate m a) (sym (one_more_lem p n))

  -- the rows of n * p times a
  pub rows-replicate : (p n : ℕ) (a : A) → rows p n (replicate (n * p) a) ≡ replicate n (replicate p a)
  rows-replicate p n a =
      let parts : List (List A) = replicate n (replicate p a) in
      ap₂ (rows p) (sym (length-replicate n (replicate p a))) (sym (joined-replicate p n a))
      ∙ rows-joined p parts (every_replicate p n (replicate p a) (length-replicate p a))

  -- ---- the other way round

  -- what stands behind the first n rows, where it is just one row
  pub last_row : (p n : ℕ) (xs : List A) → length xs ≡ n * p + p → drop (n * p) xs ≡ row_at p n xs
  unfolding row_at
  last_row p n xs e = sym (take_all p (drop (n * p) xs) (rw length-drop (omega arith)))

  -- the rows of a reverse, each reversed, are the rows in reverse
  pub rows-reverse : (p n : ℕ) (xs : List A) → length xs ≡ n * p → map reverse (rows p n (reverse xs)) ≡ reverse (rows p n xs)
  unfolding rows
  rows-reverse p zero xs e = refl
  rows-reverse p (suc n) xs e =
      let e' : length xs ≡ n * p + p = e ∙ suc-mul n p in
      let front : List A = take (n * p) xs in
      let whole : length front ≡ n * p = length-take-le (n * p) xs (omega arith) in
      ap₂ ◌∷◌
      (ap reverse (take-reverse (n * p) p xs e') ∙ reverse-reverse (drop (n * p) xs) ∙ last_row p n xs e')
      (ap (λ (l : List A). map reverse (rows p n l)) (drop-reverse (n * p) p xs e')
      ∙ rows-reverse p n front whole
      ∙ ap reverse (rows_take p n xs))
      ∙ sym (ap reverse (rows_snoc p n xs) ∙ reverse-append (rows p n xs) (row_at p n xs ∷ []))

  -- ---- one row replaced

  -- where it is not the first, the first row is as it was
  splice_suc : (p k : ℕ) (xs r : List A)
      → take (suc k * p) xs ++ r ++ drop (suc k * p + p) xs ≡ take p xs ++ (take (k * p) (drop p xs) ++ r ++ drop (k * p + p) (drop p xs))
  splice_suc p k xs r =
      let e : p + (k * p + p) ≡ suc k * p + p = omega (arith, one_more_lem p k) in
      ap₂ (λ (a b : List A). a ++ r ++ b)
      (ap (λ (m : ℕ). take m xs) (one_more_lem p k) ∙ take-add p (k * p) xs)
      (ap (λ (m : ℕ). drop m xs) (sym e) ∙ sym (drop-drop (k * p + p) p xs))
      ∙ simp append_assoc

  -- p elements put in the place of row k: that row is they, and the others are as they were
  pub rows-set : (p n : ℕ) (xs : List A) (k : ℕ) (r : List A) → k < n → n * p ≤ length xs → length r ≡ p
      → rows p n (take (k * p) xs ++ r ++ drop (k * p + p) xs) ≡ set (rows p n xs) k r
  unfolding rows
  rows-set p zero xs k r h fits l = absurd (omega arith)
  rows-set p (suc n) xs zero r h fits l =
      ap (λ (m : ℕ). rows p (suc n) (take m xs ++ r ++ drop (m + p) xs)) (zero-mul p)
      ∙ ap (λ (m : ℕ). rows p (suc n) (r ++ drop m xs)) (zero-add p)
      ∙ rows_cons p n r (drop p xs) l
  rows-set p (suc n) xs (suc k) r h fits l =
      let fits' : p + n * p ≤ length xs = rw (one_more_lem p n) at fits in
      ap (rows p (suc n)) (splice_suc p k xs r)
      ∙ rows_cons p n (take p xs) (take (k * p) (drop p xs) ++ r ++ drop (k * p + p) (drop p xs)) (length-take-le p xs (omega arith))
      ∙ ap (λ (rs : List (List A)). take p xs ∷ rs) (rows-set p n (drop p xs) k r (omega arith) (rw length-drop (omega arith)) l)

-- ---- a function of each element, and of each part

module _ {A B : Type 0} where
  -- the rows of a `map`
  pub rows-map : (f : A → B) (p n : ℕ) (xs : List A) → rows p n (map f xs) ≡ map (map f) (rows p n xs)
  unfolding rows
  rows-map f p zero xs = refl
  rows-map f p (suc n) xs = ap₂ ◌∷◌ (sym (map-take f p xs)) (ap (rows p n) (sym (map-drop f p xs)) ∙ rows-map f p n (drop p xs))

  -- mapped parts end to end
  pub joined-map : (f : A → B) (rs : List (List A)) → joined (map (map f) rs) ≡ map f (joined rs)
  unfolding joined
  joined-map f [] = refl
  joined-map f (r ∷ rs) = ap (λ (l : List B). map f r ++ l) (joined-map f rs) ∙ sym (map-append f r (joined rs))

  -- parts of q elements that a function makes of parts of p
  pub every_map : (p q : ℕ) (f : List A → List B) → ((r : List A) → length r ≡ p → length (f r) ≡ q) → (rs : List (List A)) → Every p rs
      → Every q (map f rs)
  every_map p q f keeps [] e = tt
  every_map p q f keeps (r ∷ rs) e = (keeps r e.0, every_map p q f keeps rs e.1)

  -- parts that a function makes of anything
  pub every_image : (p : ℕ) (f : A → List B) → ((a : A) → length (f a) ≡ p) → (xs : List A) → Every p (map f xs)
  every_image p f each [] = tt
  every_image p f each (x ∷ xs) = (each x, every_image p f each xs)

-- ---- two lists element by element

module _ {A B C : Type 0} (f : A → B → C) where
  -- as many as either has, where they have as many
  pub length-along : (xs : List A) (ys : List B) → length xs ≡ length ys → length (along f xs ys) ≡ length xs
  unfolding along
  length-along [] ys e = refl
  length-along (x ∷ xs) [] e = absurd (omega arith)
  length-along (x ∷ xs) (y ∷ ys) e = ap suc (length-along xs ys (omega arith))

  -- what stands at k
  pub along-at : (xs : List A) (ys : List B) (k : ℕ) (a : A) (b : B) (c : C) → k < length xs → k < length ys
      → get_or (along f xs ys) k c ≡ f (get_or xs k a) (get_or ys k b)
  unfolding along
  along-at [] ys k a b c hx hy = absurd (omega arith)
  along-at (x ∷ xs) [] k a b c hx hy = absurd (omega arith)
  along-at (x ∷ xs) (y ∷ ys) zero a b c hx hy = refl
  along-at (x ∷ xs) (y ∷ ys) (suc k) a b c hx hy = along-at xs ys k a b c (omega arith) (omega arith)

  -- two lists each, the first two of one length
  pub along_append : (xs xs' : List A) (ys ys' : List B) → length xs ≡ length ys
      → along f (xs ++ xs') (ys ++ ys') ≡ along f xs ys ++ along f xs' ys'
  unfolding along
  along_append [] xs' [] ys' e = refl
  along_append [] xs' (y ∷ ys) ys' e = absurd (omega arith)
  along_append (x ∷ xs) xs' [] ys' e = absurd (omega arith)
  along_append (x ∷ xs) xs' (y ∷ ys) ys' e = ap (λ (r : List C). f x y ∷ r) (along_append xs xs' ys ys' (omega arith))

  -- one element more at the end of each
  pub along_snoc : (xs : List A) (x : A) (ys : List B) (y : B) → length xs ≡ length ys
      → along f (xs ++ x ∷ []) (ys ++ y ∷ []) ≡ along f xs ys ++ f x y ∷ []
  unfolding along
  along_snoc xs x ys y e = along_append xs (x ∷ []) ys (y ∷ []) e

  -- both in reverse
  pub along-reverse : (xs : List A) (ys : List B) → length xs ≡ length ys → along f (reverse xs) (reverse ys) ≡ reverse (along f xs ys)
  unfolding along
  along-reverse [] ys e = refl
  along-reverse (x ∷ xs) [] e = absurd (omega arith)
  along-reverse (x ∷ xs) (y ∷ ys) e =
      let e' : length xs ≡ length ys = omega arith in
      ap₂ (along f) (reverse-cons x xs) (reverse-cons y ys)
      ∙ along_snoc (reverse xs) x (reverse ys) y (length-reverse xs ∙ e' ∙ sym (length-reverse ys))
      ∙ ap (λ (r : List C). r ++ f x y ∷ []) (along-reverse xs ys e')
      ∙ sym (reverse-cons (f x y) (along f xs ys))

  along_nil : (xs : List A) → along f xs [] ≡ []
  unfolding along
  along_nil [] = refl
  along_nil (x ∷ xs) = refl

  -- the first n of each
  pub along-take : (n : ℕ) (xs : List A) (ys : List B) → along f (take n xs) (take n ys) ≡ take n (along f xs ys)
  unfolding along
  along-take zero xs ys = refl
  along-take (suc n) [] ys = refl
  along-take (suc n) (x ∷ xs) [] = refl
  along-take (suc n) (x ∷ xs) (y ∷ ys) = ap (λ (r : List C). f x y ∷ r) (along-take n xs ys)

  -- and what stands behind them
  pub along-drop : (n : ℕ) (xs : List A) (ys : List B) → along f (drop n xs) (drop n ys) ≡ drop n (along f xs ys)
  unfolding along
  along-drop zero xs ys = refl
  along-drop (suc n) [] ys = refl
  along-drop (suc n) (x ∷ xs) [] = along_nil (drop n xs)
  along-drop (suc n) (x ∷ xs) (y ∷ ys) = along-drop n xs ys

  -- where the function does not look at the second list's elements, only how many they are counts
  pub along_blind : ((x : A) (y z : B) → f x y ≡ f x z) → (xs : List A) (ys zs : List B) → length ys ≡ length zs → along f xs ys ≡ along f xs zs
  unfolding along
  along_blind same [] ys zs e = refl
  along_blind same (x ∷ xs) [] [] e = refl
  along_blind same (x ∷ xs) [] (z ∷ zs) e = absurd (omega arith)
  along_blind same (x ∷ xs) (y ∷ ys) [] e = absurd (omega arith)
  along_blind same (x ∷ xs) (y ∷ ys) (z ∷ zs) e = ap₂ ◌∷◌ (same x y z) (along_blind same xs ys zs (omega arith))

module _ {A B C : Type 0} where
  -- parts that a function makes of any two
  pub every_along : (p : ℕ) (f : A → B → List C) → ((a : A) (b : B) → length (f a b) ≡ p) → (xs : List A) (ys : List B) → Every p (along f xs ys)
  unfolding along
  every_along p f each [] ys = tt
  every_along p f each (x ∷ xs) [] = tt
  every_along p f each (x ∷ xs) (y ∷ ys) = (each x y, every_along p f each xs ys)

  -- parts of q elements that a function makes of anything and parts of p
  pub every_along_parts : (p q : ℕ) (f : A → List B → List C) → ((a : A) (r : List B) → length r ≡ p → length (f a r) ≡ q)
      → (xs : List A) (rs : List (List B)) → Every p rs → Every q (along f xs rs)
  unfolding along
  every_along_parts p q f keeps [] rs e = tt
  every_along_parts p q f keeps (x ∷ xs) [] e = tt
  every_along_parts p q f keeps (x ∷ xs) (r ∷ rs) e = (keeps x r e.0, every_along_parts p q f keeps xs rs e.1)

-- two functions that agree wherever the second list's parts have p elements
pub along-same : {A B C : Type 0} (f g : A → List B → C) (p : ℕ) → ((a : A) (r : List B) → length r ≡ p → f a r ≡ g a r)
    → (xs : List A) (rs : List (List B)) → Every p rs → along f xs rs ≡ along g xs rs
unfolding along
along-same f g p agree [] rs e = refl
along-same f g p agree (x ∷ xs) [] e = refl
along-same f g p agree (x ∷ xs) (r ∷ rs) e = ap₂ ◌∷◌ (agree x r e.0) (along-same f g p agree xs rs e.1)
