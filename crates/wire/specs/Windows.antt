-- Document 01, "The clocked engine": the windows of a chain, nearest monitor first, each a list of at most p elements,
-- oldest first. Over any number of monitors and any width p.
-- Assumes nothing.
use Rattle.std.specs.Prelude.{cond, List, [], ◌∷◌, ◌++◌, ℕ, zero, suc, ◌-◌, ltb, length, drop}

module _ {A : Type 0} where
  -- n windows at the start of a frame
  unfoldable pub empty : ℕ → List (List A)
  empty zero = []
  empty (suc n) = [] ∷ empty n

  -- the oldest element of a window, and a where it has none
  unfoldable pub oldest_or : A → List A → A
  oldest_or a [] = a
  oldest_or a (x ∷ xs) = x

  -- a write: the element a enters monitor 1's window. A window that is not full keeps all it has; a full one passes its
  -- oldest element to the next monitor. What the last monitor passes on is lost
  unfoldable pub enter : ℕ → A → List (List A) → List (List A)
  enter p a [] = []
  enter p a (w ∷ ws) = cond (ltb (length w) p) ((w ++ a ∷ []) ∷ ws) ((drop 1 w ++ a ∷ []) ∷ enter p (oldest_or a w) ws)

  -- the elements of a write one after the other
  unfoldable pub enter_all : ℕ → List A → List (List A) → List (List A)
  enter_all p [] ws = ws
  enter_all p (x ∷ xs) ws = enter_all p xs (enter p x ws)

  -- a read: what leaves at the front of a row of windows, and `far` where there is none
  unfoldable pub leaves : A → List (List A) → A
  leaves far [] = far
  leaves far (w ∷ ws) = oldest_or far w

  -- a read: one element is taken out at monitor 1, and every window draws from the next; the last draws `far`
  unfoldable pub draw : A → List (List A) → List (List A)
  draw far [] = []
  draw far (w ∷ ws) = (drop 1 w ++ leaves far ws ∷ []) ∷ draw far ws

  -- what leaves monitor 1 in k elements clocked
  unfoldable pub left : A → ℕ → List (List A) → List A
  left far zero ws = []
  left far (suc k) ws = leaves far ws ∷ left far k (draw far ws)

  -- the windows after k elements clocked
  unfoldable pub drawn : A → ℕ → List (List A) → List (List A)
  drawn far zero ws = ws
  drawn far (suc k) ws = drawn far k (draw far ws)

  -- the windows in their places of p elements, nearest monitor first, where m elements of a write have come: the nearest place
  -- fills first, and a window that is not full lies at the end of its place
  unfoldable pub held : ℕ → ℕ → List (List A) → List (List A)
  held p m [] = []
  held p m (place ∷ places) = drop (p - m) place ∷ held p (m - p) places
