-- The windows of the clocked engine. In a write they are at any time the elements clocked so far, cut into rows from the
-- newest on: so after a whole frame each holds its payload. In a read what has left, and then what the windows hold, is what
-- they held and then `far`: so what leaves is the reply. Full windows, laid end to end, are one shift register in both. By
-- recursion along the chain, and then along the elements clocked.
-- Assumes nothing.
use mathlib.Core.Path.{◌≡◌, refl, sym, ap, ap₂, ◌∙◌, subst}
use mathlib.Core.Bool.{Bool, true, false, cond}
use mathlib.Core.List.{List, [], ◌∷◌, ◌++◌, map, reverse, reverse_aux, append_assoc, append-nil, reverse-cons, reverse-append, reverse_aux-eq}
use Prim.Native.Nat.{ℕ, zero, suc, ◌+◌, ◌-◌, ◌*◌, ◌≤◌, ◌<◌, min}
use native.Mathlib.Nat.{zero-add, suc-add}
use native.Mathlib.Decide.{dec_lt}
use native.Mathlib.Omega.{arith}
use lib.Dec.{ltb, T, lt→ltb, ltb→lt}
use lib.ListN.{length, get_or, take, drop, replicate, length-append, length-take, length-drop, length-reverse, drop_of_length-le}
use lib.Seq.{take_all, take-suc, drop-cons, take_at, drop_at, take-append-le, drop-append-le, drop-drop, get_or-take}
use Rattle.laws.specs.Rows.{rows, row_at, joined}
use Rattle.laws.proofs.Lists.{get_d_map, get_d_any, get_d_padded}
use Rattle.laws.proofs.Rows.{Every, length-rows, row-at, length-row, rows-joined, rows-reverse, rows_front, rows_nil, rows-replicate, length-joined}
use Rattle.wire.specs.Order.{farthest_first, write_data, write_payloads, reply_parts}
use Rattle.wire.proofs.Order.{length-write_data, write_round, write_nearest}
use Rattle.wire.specs.Windows.{empty, oldest_or, enter, enter_all, leaves, draw, left, drawn, held}

-- the test that `enter` makes, where its answer is known
passes : (b : Bool) → T b → b ≡ true
passes true t = refl
passes false t = absurd t

fails : (b : Bool) → (T b → ⊥) → b ≡ false
fails true f = absurd (f tt)
fails false f = refl

module _ {A : Type 0} where
  -- ---- a write: one element, by the window that it meets

  -- a window with room keeps all it has, and the others stay
  pub enter_room : (p : ℕ) (a : A) (w : List A) (ws : List (List A)) → length w < p → enter p a (w ∷ ws) ≡ (w ++ a ∷ []) ∷ ws
  unfolding enter
  enter_room p a w ws h =
      ap (λ (b : Bool). cond b ((w ++ a ∷ []) ∷ ws) ((drop 1 w ++ a ∷ []) ∷ enter p (oldest_or a w) ws)) (passes (ltb (length w) p) (lt→ltb (length w) p h))

  -- a full window takes the element in and passes its oldest on
  pub enter-full : (p : ℕ) (a : A) (w : List A) (ws : List (List A)) → p ≤ length w
      → enter p a (w ∷ ws) ≡ (drop 1 w ++ a ∷ []) ∷ enter p (oldest_or a w) ws
  unfolding enter
  enter-full p a w ws h =
      let n : T (ltb (length w) p) → ⊥ = λ t. omega (arith, ltb→lt (length w) p t) in
      ap (λ (b : Bool). cond b ((w ++ a ∷ []) ∷ ws) ((drop 1 w ++ a ∷ []) ∷ enter p (oldest_or a w) ws)) (fails (ltb (length w) p) n)

  -- ---- a write: the windows at any time

  -- the windows of n monitors where `ys` was clocked, newest first: the rows of `ys`, each oldest first
  seen : ℕ → ℕ → List A → List (List A)
  seen p n ys = map reverse (rows p n ys)

  -- the first window has room: it has all that was clocked, and the others nothing
  seen_room : (q n : ℕ) (a : A) (ys : List A) → length ys < suc q → enter (suc q) a (seen (suc q) (suc n) ys) ≡ seen (suc q) (suc n) (a ∷ ys)
  unfolding seen rows
  seen_room q n a ys h =
      let w : List A = reverse (take (suc q) ys) in
      let short : length w < suc q = rw (length-reverse, length-take) (omega arith) in
      let all : length ys ≤ q = omega arith in
      let all' : length ys ≤ suc q = omega arith in
      enter_room (suc q) a w (map reverse (rows (suc q) n (drop (suc q) ys))) short
      ∙ ap₂ ◌∷◌
      (ap (λ (l : List A). reverse l ++ a ∷ []) (take_all (suc q) ys all' ∙ sym (take_all q ys all))
      ∙ sym (reverse-cons a (take q ys)))
      (ap (λ (l : List A). map reverse (rows (suc q) n l)) (drop_of_length-le ys all' ∙ sym (drop_of_length-le ys all)))

  -- it is full: its oldest goes to the next
  seen-full : (q n : ℕ) (a : A) (ys : List A) → suc q ≤ length ys
      → ((b : A) (zs : List A) → enter (suc q) b (seen (suc q) n zs) ≡ seen (suc q) n (b ∷ zs))
      → enter (suc q) a (seen (suc q) (suc n) ys) ≡ seen (suc q) (suc n) (a ∷ ys)
  unfolding seen rows oldest_or
  seen-full q n a ys h rest =
      let y : A = get_or ys q a in
      let v : List A = reverse (take q ys) in
      let ws : List (List A) = map reverse (rows (suc q) n (drop (suc q) ys)) in
      let full : suc q ≤ length (y ∷ v) = rw (length-reverse, length-take) (omega arith) in
      ap (λ (w : List A). enter (suc q) a (w ∷ ws)) (ap reverse (take-suc ys q a h) ∙ reverse-append (take q ys) (y ∷ []))
      ∙ enter-full (suc q) a (y ∷ v) ws full
      ∙ ap₂ ◌∷◌ (sym (reverse-cons a (take q ys)))
      (rest y (drop (suc q) ys) ∙ ap (λ (l : List A). map reverse (rows (suc q) n l)) (sym (drop-cons ys q a h)))

  seen-enter : (q n : ℕ) (a : A) (ys : List A) → enter (suc q) a (seen (suc q) n ys) ≡ seen (suc q) n (a ∷ ys)
  unfolding seen rows enter
  seen-enter q zero a ys = refl
  seen-enter q (suc n) a ys = by (dec_lt (length ys) (suc q)) (λ b zs. seen-enter q n b zs)
    where
      by : Dec (length ys < suc q) → ((b : A) (zs : List A) → enter (suc q) b (seen (suc q) n zs) ≡ seen (suc q) n (b ∷ zs))
          → enter (suc q) a (seen (suc q) (suc n) ys) ≡ seen (suc q) (suc n) (a ∷ ys)
      by (yes h) rest = seen_room q n a ys h
      by (no h) rest = seen-full q n a ys (omega arith) rest

  -- the windows are the rows, each oldest first, of what was clocked, newest first: one element more
  pub enter-rows : (p n : ℕ) (a : A) (ys : List A) → 0 < p → enter p a (map reverse (rows p n ys)) ≡ map reverse (rows p n (a ∷ ys))
  unfolding seen
  enter-rows zero n a ys h = absurd (omega arith)
  enter-rows (suc q) n a ys h = seen-enter q n a ys

  enter_more : (p n : ℕ) (xs ys : List A) → 0 < p → enter_all p xs (map reverse (rows p n ys)) ≡ map reverse (rows p n (reverse_aux xs ys))
  unfolding enter_all
  enter_more p n [] ys h = refl
  enter_more p n (x ∷ xs) ys h = ap (enter_all p xs) (enter-rows p n x ys h) ∙ enter_more p n xs (x ∷ ys) h

  -- the same for any number of elements more
  pub enter_all-rows : (p n : ℕ) (xs ys : List A) → 0 < p → enter_all p xs (map reverse (rows p n ys)) ≡ map reverse (rows p n (reverse xs ++ ys))
  enter_all-rows p n xs ys h = enter_more p n xs ys h ∙ ap (λ (l : List A). map reverse (rows p n l)) (reverse_aux-eq xs ys)

  -- the windows where nothing was clocked
  pub empty-rows : (p n : ℕ) → empty {A = A} n ≡ map reverse (rows p n [])
  unfolding empty
  empty-rows p n = none n ∙ ap (map reverse) (sym (rows_nil p n))
    where
      none : (m : ℕ) → empty {A = A} m ≡ map reverse (replicate m [])
      none zero = refl
      none (suc m) = ap (λ (ws : List (List A)). [] ∷ ws) (none m)

  -- the windows after any number of elements of a frame
  pub enter-all : (p n : ℕ) (xs : List A) → 0 < p → enter_all p xs (empty n) ≡ map reverse (rows p n (reverse xs))
  enter-all p n xs h = ap (enter_all p xs) (empty-rows p n) ∙ enter_more p n xs [] h

  -- the window at k
  pub window_at : (p n : ℕ) (xs : List A) (k : ℕ) (d : List A) → 0 < p → k < n
      → get_or (enter_all p xs (empty n)) k d ≡ reverse (row_at p k (reverse xs))
  window_at p n xs k d h hk =
      ap (λ (ws : List (List A)). get_or ws k d) (enter-all p n xs h)
      ∙ get_d_map reverse (rows p n (reverse xs)) k d [] (rw length-rows hk)
      ∙ ap reverse (row-at p n (reverse xs) k [] hk)

  -- how many elements it has: the nearest fill first
  pub length_window : (p n : ℕ) (xs : List A) (k : ℕ) (d : List A) → 0 < p → k < n
      → length (get_or (enter_all p xs (empty n)) k d) ≡ min p (length xs - k * p)
  length_window p n xs k d h hk =
      ap length (window_at p n xs k d h hk)
      ∙ length-reverse (row_at p k (reverse xs))
      ∙ length-row p k (reverse xs)
      ∙ ap (λ (m : ℕ). min p (m - k * p)) (length-reverse xs)

  -- the last elements of a longer frame count: each monitor has its payload of those
  pub windows-after-last : (p n : ℕ) (before bytes : List A) → 0 < p → length bytes ≡ n * p
      → enter_all p (before ++ bytes) (empty n) ≡ write_payloads p n bytes
  unfolding write_payloads farthest_first
  windows-after-last p n before bytes h e =
      enter-all p n (before ++ bytes) h
      ∙ ap (λ (l : List A). map reverse (rows p n l)) (reverse-append before bytes)
      ∙ ap (map reverse) (rows_front p n (reverse bytes) (reverse before) (rw length-reverse (omega arith)))
      ∙ rows-reverse p n bytes e

  -- after the data of a write each monitor has its payload
  pub windows-after_write : (p n : ℕ) (bytes : List A) → 0 < p → length bytes ≡ n * p → enter_all p bytes (empty n) ≡ write_payloads p n bytes
  windows-after_write p n bytes h e = windows-after-last p n [] bytes h e

  -- each window holds the payload that was meant for its monitor
  pub windows_round : (p : ℕ) (payloads : List (List A)) → 0 < p → Every p payloads
      → enter_all p (write_data payloads) (empty (length payloads)) ≡ payloads
  windows_round p payloads h e =
      windows-after_write p (length payloads) (write_data payloads) h (length-write_data p payloads e) ∙ write_round p payloads e

  -- one part of a frame after the other
  pub enter_all_append : (p : ℕ) (xs ys : List A) (ws : List (List A)) → enter_all p (xs ++ ys) ws ≡ enter_all p ys (enter_all p xs ws)
  unfolding enter_all
  enter_all_append p [] ys ws = refl
  enter_all_append p (x ∷ xs) ys ws = enter_all_append p xs ys (enter p x ws)

  -- ---- a write: how many windows, and how long

  -- no window has more than p elements
  abbrev pub Within : ℕ → List (List A) → Type 0
  Within p [] = Unit {0}
  Within p (w ∷ ws) = (length w ≤ p) × Within p ws

  -- the window at k
  pub within_at : (p : ℕ) (ws : List (List A)) (k : ℕ) (d : List A) → Within p ws → k < length ws → length (get_or ws k d) ≤ p
  within_at p [] k d e h = absurd (omega arith)
  within_at p (w ∷ ws) zero d e h = e.0
  within_at p (w ∷ ws) (suc k) d e h = within_at p ws k d e.1 (omega arith)

  -- windows that are all full
  pub within_every : (p : ℕ) (ws : List (List A)) → Every p ws → Within p ws
  within_every p [] e = tt
  within_every p (w ∷ ws) e = (omega (arith, e.0), within_every p ws e.1)

  -- what holds of the windows after one element, by the first of them
  enter_cases : (P : List (List A) → Type 0) (p : ℕ) (a : A) (w : List A) (ws : List (List A)) → Dec (length w < p)
      → (length w < p → P ((w ++ a ∷ []) ∷ ws))
      → (p ≤ length w → P ((drop 1 w ++ a ∷ []) ∷ enter p (oldest_or a w) ws))
      → P (enter p a (w ∷ ws))
  enter_cases P p a w ws (yes h) room full = subst P (sym (enter_room p a w ws h)) (room h)
  enter_cases P p a w ws (no h) room full = let l : p ≤ length w = omega arith in subst P (sym (enter-full p a w ws l)) (full l)

  -- a window that takes one in and passes one on keeps its length
  length_shift : (p : ℕ) (w : List A) (a : A) → 0 < p → p ≤ length w → length (drop 1 w ++ a ∷ []) ≡ length w
  length_shift p w a h l = rw (length-append, length-drop) (omega arith)

  -- the number of windows stays: one element
  pub length-enter : (p : ℕ) (a : A) (ws : List (List A)) → length (enter p a ws) ≡ length ws
  length-enter p a [] = unfold enter in refl
  length-enter p a (w ∷ ws) =
      enter_cases (λ (vs : List (List A)). length vs ≡ suc (length ws)) p a w ws (dec_lt (length w) p)
      (λ h. refl)
      (λ h. ap suc (length-enter p (oldest_or a w) ws))

  -- the same for any number of elements
  pub length-enter_all : (p : ℕ) (xs : List A) (ws : List (List A)) → length (enter_all p xs ws) ≡ length ws
  unfolding enter_all
  length-enter_all p [] ws = refl
  length-enter_all p (x ∷ xs) ws = length-enter_all p xs (enter p x ws) ∙ length-enter p x ws

  -- no window grows beyond p: one element
  pub within_enter : (p : ℕ) (a : A) (ws : List (List A)) → 0 < p → Within p ws → Within p (enter p a ws)
  within_enter p a [] h e = unfold enter in tt
  within_enter p a (w ∷ ws) h e =
      enter_cases (Within p) p a w ws (dec_lt (length w) p)
      (λ r. (rw length-append (omega arith), e.1))
      (λ l. (rw (length_shift p w a h l) e.0, within_enter p (oldest_or a w) ws h e.1))

  -- the same for any number of elements
  pub within_enter_all : (p : ℕ) (xs : List A) (ws : List (List A)) → 0 < p → Within p ws → Within p (enter_all p xs ws)
  unfolding enter_all
  within_enter_all p [] ws h e = e
  within_enter_all p (x ∷ xs) ws h e = within_enter_all p xs (enter p x ws) h (within_enter p x ws h e)

  -- windows that are full stay full
  pub every_enter : (p : ℕ) (a : A) (ws : List (List A)) → 0 < p → Every p ws → Every p (enter p a ws)
  every_enter p a [] h e = unfold enter in tt
  every_enter p a (w ∷ ws) h e =
      let l : p ≤ length w = omega (arith, e.0) in
      subst (Every p) (sym (enter-full p a w ws l)) (length_shift p w a h l ∙ e.0, every_enter p (oldest_or a w) ws h e.1)

-- ---- the start of a frame, for elements of type A

module _ (A : Type 0) where
  -- a window for each monitor
  pub length-empty : (n : ℕ) → length (empty {A = A} n) ≡ n
  unfolding empty
  length-empty zero = refl
  length-empty (suc n) = ap suc (length-empty n)

  -- each with nothing in it
  pub within_empty : (p n : ℕ) → Within p (empty {A = A} n)
  unfolding empty
  within_empty p zero = tt
  within_empty p (suc n) = (omega arith, within_empty p n)

module _ {A : Type 0} where
  -- ---- a write: full windows are one shift register, the farthest window's oldest element in front

  -- what the last of a row of full windows passes on, where a enters the first
  abbrev pub passed_on : A → List (List A) → A
  passed_on a [] = a
  passed_on a (w ∷ ws) = passed_on (oldest_or a w) ws

  -- the element comes in at the end, and one goes out in front
  pub enter_shift : (p : ℕ) (a : A) (ws : List (List A)) → 0 < p → Every p ws
      → passed_on a ws ∷ joined (farthest_first (enter p a ws)) ≡ joined (farthest_first ws) ++ a ∷ []
  unfolding farthest_first write_data oldest_or
  enter_shift p a [] h e = unfold enter joined in refl
  enter_shift p a ([] ∷ ws) h e = absurd (omega (arith, e.0))
  enter_shift p a ((x ∷ v) ∷ ws) h e =
      let full : p ≤ suc (length v) = omega (arith, e.0) in
      ap (λ (l : List (List A)). passed_on x ws ∷ joined (reverse l)) (enter-full p a (x ∷ v) ws full)
      ∙ ap (λ (l : List A). passed_on x ws ∷ l) (write_nearest (v ++ a ∷ []) (enter p x ws))
      ∙ ap (λ (l : List A). l ++ (v ++ a ∷ [])) (enter_shift p x ws h e.1)
      ∙ cut
      ∙ ap (λ (l : List A). l ++ a ∷ []) (sym (write_nearest (x ∷ v) ws))
    where
      front : List A
      front = joined (reverse ws)

      cut : front ++ x ∷ [] ++ (v ++ a ∷ []) ≡ front ++ (x ∷ v) ++ a ∷ []
      cut = simp append_assoc

  -- the register after one element
  pub enter-register : (p : ℕ) (a : A) (ws : List (List A)) → 0 < p → Every p ws
      → joined (farthest_first (enter p a ws)) ≡ drop 1 (joined (farthest_first ws) ++ a ∷ [])
  enter-register p a ws h e = ap (drop 1) (enter_shift p a ws h e)

  -- ---- a read: full windows are one shift register, the nearest window's oldest element in front

  -- `far` comes in at the end, and one goes out in front
  pub draw_shift : (p : ℕ) (far : A) (ws : List (List A)) → 0 < p → Every p ws → leaves far ws ∷ joined (draw far ws) ≡ joined ws ++ far ∷ []
  unfolding leaves draw joined oldest_or
  draw_shift p far [] h e = refl
  draw_shift p far ([] ∷ ws) h e = absurd (omega (arith, e.0))
  draw_shift p far ((x ∷ v) ∷ ws) h e =
      ap (λ (l : List A). x ∷ l)
      (append_assoc v (leaves far ws ∷ []) (joined (draw far ws))
      ∙ ap (λ (l : List A). v ++ l) (draw_shift p far ws h e.1)
      ∙ sym (append_assoc v (joined ws) (far ∷ [])))

  -- the register after one element
  pub draw-register : (p : ℕ) (far : A) (ws : List (List A)) → 0 < p → Every p ws → joined (draw far ws) ≡ drop 1 (joined ws ++ far ∷ [])
  draw-register p far ws h e = ap (drop 1) (draw_shift p far ws h e)

  -- ---- a read: how many windows, and how long

  -- the number of windows stays: one element
  pub length-draw : (far : A) (ws : List (List A)) → length (draw far ws) ≡ length ws
  unfolding draw
  length-draw far [] = refl
  length-draw far (w ∷ ws) = ap suc (length-draw far ws)

  -- the same for k elements
  pub length-drawn : (far : A) (k : ℕ) (ws : List (List A)) → length (drawn far k ws) ≡ length ws
  unfolding drawn
  length-drawn far zero ws = refl
  length-drawn far (suc k) ws = length-drawn far k (draw far ws) ∙ length-draw far ws

  -- each window keeps its p elements: one element
  pub every_draw : (p : ℕ) (far : A) (ws : List (List A)) → 0 < p → Every p ws → Every p (draw far ws)
  unfolding draw
  every_draw p far [] h e = tt
  every_draw p far (w ∷ ws) h e =
      let l : p ≤ length w = omega (arith, e.0) in
      (length_shift p w (leaves far ws) h l ∙ e.0, every_draw p far ws h e.1)

  -- the same for k elements
  pub every_drawn : (p : ℕ) (far : A) (k : ℕ) (ws : List (List A)) → 0 < p → Every p ws → Every p (drawn far k ws)
  unfolding drawn
  every_drawn p far zero ws h e = e
  every_drawn p far (suc k) ws h e = every_drawn p far k (draw far ws) h (every_draw p far ws h e)

  -- each element clocked takes one out
  pub length-left : (far : A) (k : ℕ) (ws : List (List A)) → length (left far k ws) ≡ k
  unfolding left
  length-left far zero ws = refl
  length-left far (suc k) ws = ap suc (length-left far k (draw far ws))

  -- ---- a read: what has left, and what the windows hold

  -- together they are what the windows held, and `far` behind it k times
  pub left-drawn : (p : ℕ) (far : A) (k : ℕ) (ws : List (List A)) → 0 < p → Every p ws
      → left far k ws ++ joined (drawn far k ws) ≡ joined ws ++ replicate k far
  unfolding left drawn
  left-drawn p far zero ws h e = sym (append-nil (joined ws))
  left-drawn p far (suc k) ws h e =
      ap (λ (l : List A). leaves far ws ∷ l) (left-drawn p far k (draw far ws) h (every_draw p far ws h e))
      ∙ ap (λ (l : List A). l ++ replicate k far) (draw_shift p far ws h e)
      ∙ append_assoc (joined ws) (far ∷ []) (replicate k far)

  -- what has left is the front of that
  pub left-take : (p : ℕ) (far : A) (k : ℕ) (ws : List (List A)) → 0 < p → Every p ws → left far k ws ≡ take k (joined ws ++ replicate k far)
  left-take p far k ws h e =
      sym (take_at (left far k ws) (joined (drawn far k ws)) k (length-left far k ws)) ∙ ap (take k) (left-drawn p far k ws h e)

  -- as long as the windows had something: the front of what they held
  pub left_front : (p : ℕ) (far : A) (k : ℕ) (ws : List (List A)) → 0 < p → Every p ws → k ≤ length (joined ws) → left far k ws ≡ take k (joined ws)
  left_front p far k ws h e l = left-take p far k ws h e ∙ take-append-le k (joined ws) (replicate k far) l

  -- for as many elements as the windows held: all of it
  pub left-whole : (p : ℕ) (far : A) (k : ℕ) (ws : List (List A)) → 0 < p → Every p ws → k ≡ length ws * p → left far k ws ≡ joined ws
  left-whole p far k ws h e l =
      let m : length (joined ws) ≡ length ws * p = length-joined p ws e in
      left_front p far k ws h e (omega arith) ∙ take_all k (joined ws) (omega arith)

  -- the element clocked at i: `far` where the windows had none left
  pub left_at : (p : ℕ) (far : A) (k : ℕ) (ws : List (List A)) (i : ℕ) (d : A) → 0 < p → Every p ws → i < k
      → get_or (left far k ws) i d ≡ get_or (joined ws) i far
  left_at p far k ws i d h e hi =
      get_d_any (left far k ws) i d far (rw length-left hi)
      ∙ ap (λ (l : List A). get_or l i far) (left-take p far k ws h e)
      ∙ get_or-take k (joined ws ++ replicate k far) i far hi
      ∙ get_d_padded (joined ws) k i far

  -- each monitor's part of what has left is what its window held
  pub read_round : (p : ℕ) (far : A) (k : ℕ) (ws : List (List A)) → 0 < p → Every p ws → k ≡ length ws * p
      → reply_parts p (length ws) (left far k ws) ≡ ws
  unfolding reply_parts
  read_round p far k ws h e l = ap (rows p (length ws)) (left-whole p far k ws h e l) ∙ rows-joined p ws e

  -- what the windows hold is the rest
  pub joined-drawn : (p : ℕ) (far : A) (k : ℕ) (ws : List (List A)) → 0 < p → Every p ws → joined (drawn far k ws) ≡ drop k (joined ws ++ replicate k far)
  joined-drawn p far k ws h e =
      sym (drop_at (left far k ws) (joined (drawn far k ws)) k (length-left far k ws)) ∙ ap (drop k) (left-drawn p far k ws h e)

  -- the windows after k elements
  pub drawn-rows : (p : ℕ) (far : A) (k : ℕ) (ws : List (List A)) → 0 < p → Every p ws
      → drawn far k ws ≡ rows p (length ws) (drop k (joined ws ++ replicate k far))
  drawn-rows p far k ws h e =
      sym (rows-joined p (drawn far k ws) (every_drawn p far k ws h e))
      ∙ ap₂ (rows p) (length-drawn far k ws) (joined-drawn p far k ws h e)

  -- the windows after k elements, as long as they had something
  pub drawn_front : (p : ℕ) (far : A) (k : ℕ) (ws : List (List A)) → 0 < p → Every p ws → k ≤ length (joined ws)
      → drawn far k ws ≡ rows p (length ws) (drop k (joined ws) ++ replicate k far)
  drawn_front p far k ws h e l = drawn-rows p far k ws h e ∙ ap (rows p (length ws)) (drop-append-le k (joined ws) (replicate k far) l)

  -- after as many elements as they held: `far` in every place
  pub drawn-whole : (p : ℕ) (far : A) (k : ℕ) (ws : List (List A)) → 0 < p → Every p ws → k ≡ length ws * p
      → drawn far k ws ≡ replicate (length ws) (replicate p far)
  drawn-whole p far k ws h e l =
      let m : length (joined ws) ≡ k = length-joined p ws e ∙ sym l in
      drawn-rows p far k ws h e
      ∙ ap (rows p (length ws)) (drop_at (joined ws) (replicate k far) k m ∙ ap (λ (j : ℕ). replicate j far) l)
      ∙ rows-replicate p (length ws) far

  -- one part of a read after the other: what leaves
  pub left_add : (far : A) (j k : ℕ) (ws : List (List A)) → left far (j + k) ws ≡ left far j ws ++ left far k (drawn far j ws)
  unfolding left drawn
  left_add far zero k ws = rw zero-add
  left_add far (suc j) k ws = rw suc-add (ap (λ (l : List A). leaves far ws ∷ l) (left_add far j k (draw far ws)))

  -- and what the windows are
  pub drawn_add : (far : A) (j k : ℕ) (ws : List (List A)) → drawn far (j + k) ws ≡ drawn far k (drawn far j ws)
  unfolding drawn
  drawn_add far zero k ws = rw zero-add
  drawn_add far (suc j) k ws = rw suc-add (drawn_add far j k (draw far ws))

  -- ---- a write: the windows in their places

  -- a window for each place
  pub length-held : (p m : ℕ) (places : List (List A)) → length (held p m places) ≡ length places
  unfolding held
  length-held p m [] = refl
  length-held p m (place ∷ places) = ap suc (length-held p (m - p) places)

  -- before the first element they are empty
  pub held_none : (p : ℕ) (places : List (List A)) → Every p places → held p 0 places ≡ empty (length places)
  unfolding held empty
  held_none p [] e = refl
  held_none p (place ∷ places) e =
      let none : 0 - p ≡ 0 = omega arith in
      let past : length place ≤ p - 0 = omega (arith, e.0) in
      ap₂ ◌∷◌ (drop_of_length-le place past) (ap (λ (m : ℕ). held p m places) none ∙ held_none p places e.1)

  -- when enough elements have come they are the places
  pub held_all : (p m : ℕ) (places : List (List A)) → Every p places → length places * p ≤ m → held p m places ≡ places
  unfolding held
  held_all p m [] e h = refl
  held_all p m (place ∷ places) e h =
      let more : suc (length places) * p ≡ p + length places * p = omega arith in
      let none : p - m ≡ 0 = omega arith in
      ap₂ ◌∷◌ (ap (λ (k : ℕ). drop k place) none) (held_all p (m - p) places e.1 (omega arith))

  -- one element more: where the places are moved on as one register, the windows have passed their oldest on
  pub held-enter : (p m : ℕ) (a : A) (places : List (List A)) → 0 < p → Every p places
      → enter p a (held p m places) ≡ held p (suc m) (enter p a places)
  unfolding held
  held-enter p m a [] h e = unfold enter in refl
  held-enter p m a (place ∷ places) h e = by (dec_lt m p) (held-enter p (m - p) (oldest_or a place) places h e.1)
    where
      whole : p ≤ length place
      whole = omega (arith, e.0)

      moved : held p (suc m) (enter p a (place ∷ places)) ≡ drop (p - suc m) (drop 1 place ++ a ∷ []) ∷ held p (suc m - p) (enter p (oldest_or a place) places)
      moved = ap (held p (suc m)) (enter-full p a place places whole)

      by : Dec (m < p) → enter p (oldest_or a place) (held p (m - p) places) ≡ held p (suc (m - p)) (enter p (oldest_or a place) places)
          → enter p a (held p m (place ∷ places)) ≡ held p (suc m) (enter p a (place ∷ places))
      by (yes l) further =
          let short : length (drop (p - m) place) < p = rw length-drop (omega (arith, e.0)) in
          let split : p - m ≡ 1 + (p - suc m) = omega arith in
          let rest-before : m - p ≡ 0 = omega arith in
          let rest-after : suc m - p ≡ 0 = omega arith in
          let front : p - suc m ≤ length (drop 1 place) = rw length-drop (omega (arith, e.0)) in
          enter_room p a (drop (p - m) place) (held p (m - p) places) short
          ∙ ap₂ ◌∷◌
          (ap (λ (w : List A). w ++ a ∷ []) (ap (λ (k : ℕ). drop k place) split ∙ sym (drop-drop (p - suc m) 1 place)) ∙ sym (drop-append-le (p - suc m) (drop 1 place) (a ∷ []) front))
          (ap (λ (k : ℕ). held p k places) rest-before
          ∙ held_none p places e.1
          ∙ ap empty (sym (length-enter p (oldest_or a place) places))
          ∙ sym (held_none p (enter p (oldest_or a place) places) (every_enter p (oldest_or a place) places h e.1))
          ∙ ap (λ (k : ℕ). held p k (enter p (oldest_or a place) places)) (sym rest-after))
          ∙ sym moved
      by (no l) further =
          let full : p - m ≡ 0 = omega arith in
          let full-after : p - suc m ≡ 0 = omega arith in
          let rest : suc m - p ≡ suc (m - p) = omega arith in
          ap (λ (k : ℕ). enter p a (drop k place ∷ held p (m - p) places)) full
          ∙ enter-full p a place (held p (m - p) places) whole
          ∙ ap₂ ◌∷◌ (ap (λ (k : ℕ). drop k (drop 1 place ++ a ∷ [])) (sym full-after)) (further ∙ ap (λ (k : ℕ). held p k (enter p (oldest_or a place) places)) (sym rest))
          ∙ sym moved

  -- the window at k
  pub held_at : (p m : ℕ) (places : List (List A)) (k : ℕ) → k < length places
      → get_or (held p m places) k [] ≡ drop (p - (m - k * p)) (get_or places k [])
  unfolding held
  held_at p m [] k h = absurd (omega arith)
  held_at p m (place ∷ places) zero h = ap (λ (j : ℕ). drop (p - j) place) none
    where
      none : m ≡ m - 0 * p
      none = omega arith
  held_at p m (place ∷ places) (suc k) h = held_at p (m - p) places k (omega arith) ∙ ap (λ (j : ℕ). drop (p - j) (get_or places k [])) less
    where
      less : m - p - k * p ≡ m - suc k * p
      less = omega arith
