-- Bytes of a list made anew: the length stays, the bytes outside stay, each byte inside is what the function says of what it
-- was; what lies behind stays there. The step of a loop that makes them so, one after the other; and bytes made anew twice, which are made
-- anew once by both.
-- Assumes nothing.
use mathlib.Core.Path.{◌≡◌, refl, sym, ap, ap₂, ◌∙◌}
use mathlib.Core.List.{List, ◌++◌}
use mathlib.Core.Logic.{⊎_elim}
use Prim.Native.Nat.{ℕ, zero, suc, ◌+◌, ◌≤◌, ◌<◌}
use native.Mathlib.Nat.{eq-or-lt_of_le, le_of_suc-le-suc}
use native.Mathlib.Numerals.{add-one}
use native.Mathlib.Omega.{arith}
use lib.ListN.{length, length-set, get_or, set, get_or-append}
use lib.Seq.{get_or-set_same, get_or-set_other, set-append_left, set-set, set_comm}
use Rattle.records.specs.Record.{anew}

module _ (f : ℕ → ℕ → ℕ) (at : ℕ) where
  pub length-anew : (n : ℕ) (r : List ℕ) → length (anew f at n r) ≡ length r
  unfolding anew
  length-anew zero r = refl
  length-anew (suc n) r = length-set (anew f at n r) (at + n) (f n (get_or r (at + n) 0)) ∙ length-anew n r

  pub anew-below : (n : ℕ) (r : List ℕ) {j : ℕ} → j < at → get_or (anew f at n r) j 0 ≡ get_or r j 0
  unfolding anew
  anew-below zero r h = refl
  anew-below (suc n) r {j} h = get_or-set_other (anew f at n r) (at + n) j (f n (get_or r (at + n) 0)) 0 (omega arith) ∙ anew-below n r h

  pub anew_above : (n : ℕ) (r : List ℕ) {j : ℕ} → at + n ≤ j → get_or (anew f at n r) j 0 ≡ get_or r j 0
  unfolding anew
  anew_above zero r h = refl
  anew_above (suc n) r {j} h =
      get_or-set_other (anew f at n r) (at + n) j (f n (get_or r (at + n) 0)) 0 (omega arith) ∙ anew_above n r (omega arith)

  pub anew_inside : (n : ℕ) (r : List ℕ) (i : ℕ) → i < n → at + n ≤ length r → get_or (anew f at n r) (at + i) 0 ≡ f i (get_or r (at + i) 0)
  unfolding anew
  anew_inside zero r i h fits = absurd (omega arith)
  anew_inside (suc n) r i h fits = ⊎_elim last (λ e. earlier e (anew_inside n r i e (omega arith))) (eq-or-lt_of_le (le_of_suc-le-suc h))
    where
      last : i ≡ n → get_or (set (anew f at n r) (at + n) (f n (get_or r (at + n) 0))) (at + i) 0 ≡ f i (get_or r (at + i) 0)
      last e =
          ap (λ (k : ℕ). get_or (set (anew f at n r) (at + n) (f n (get_or r (at + n) 0))) (at + k) 0) e
          ∙ get_or-set_same (anew f at n r) (at + n) (f n (get_or r (at + n) 0)) 0 (rw (length-anew n r) (omega arith))
          ∙ ap (λ (k : ℕ). f k (get_or r (at + k) 0)) (sym e)

      earlier : i < n → get_or (anew f at n r) (at + i) 0 ≡ f i (get_or r (at + i) 0)
          → get_or (set (anew f at n r) (at + n) (f n (get_or r (at + n) 0))) (at + i) 0 ≡ f i (get_or r (at + i) 0)
      earlier e before = get_or-set_other (anew f at n r) (at + n) (at + i) (f n (get_or r (at + n) 0)) 0 (omega arith) ∙ before

  -- one byte more, as a loop stores it: computed from what stands there now
  pub anew_more : (r : List ℕ) (i v : ℕ) → v ≡ f i (get_or (anew f at i r) (at + i) 0) → set (anew f at i r) (at + i) v ≡ anew f at (i + 1) r
  unfolding anew
  anew_more r i v e =
      ap (set (anew f at i r) (at + i)) (e ∙ ap (f i) (anew_above i r (omega arith))) ∙ ap (λ (n : ℕ). anew f at n r) (sym (add-one i))

-- only what the function says inside counts
pub anew-same : (f g : ℕ → ℕ → ℕ) (at n : ℕ) (r : List ℕ) → ((i : ℕ) → i < n → f i (get_or r (at + i) 0) ≡ g i (get_or r (at + i) 0)) → anew f at n r ≡ anew g at n r
unfolding anew
anew-same f g at zero r h = refl
anew-same f g at (suc n) r h =
    ap₂ (λ (l : List ℕ) (v : ℕ). set l (at + n) v) (anew-same f g at n r (λ i k. h i (omega arith))) (h n (omega arith))

-- ---- of a list that goes on behind them

pub anew_front : (f : ℕ → ℕ → ℕ) (at n : ℕ) (front rest : List ℕ) → at + n ≤ length front → anew f at n (front ++ rest) ≡ anew f at n front ++ rest
unfolding anew
anew_front f at zero front rest h = refl
anew_front f at (suc n) front rest h =
    ap₂ (λ (l : List ℕ) (v : ℕ). set l (at + n) v) (anew_front f at n front rest (omega arith))
    (ap (f n) (get_or-append front rest 0 (at + n) (omega arith)))
    ∙ set-append_left (anew f at n front) rest (at + n) (f n (get_or front (at + n) 0)) (rw (length-anew f at n front) (omega arith))

-- ---- twice

anew_beside : (f : ℕ → ℕ → ℕ) (at n : ℕ) (r : List ℕ) (j v : ℕ) → at + n ≤ j → anew f at n (set r j v) ≡ set (anew f at n r) j v
unfolding anew
anew_beside f at zero r j v h = refl
anew_beside f at (suc n) r j v h =
    ap₂ (λ (l : List ℕ) (w : ℕ). set l (at + n) w) (anew_beside f at n r j v (omega arith)) (ap (f n) (get_or-set_other r j (at + n) v 0 (omega arith)))
    ∙ set_comm (anew f at n r) j (at + n) v (f n (get_or r (at + n) 0)) (omega arith)

pub anew_twice : (f g : ℕ → ℕ → ℕ) (at n : ℕ) (r : List ℕ) → at + n ≤ length r
    → anew f at n (anew g at n r) ≡ anew (λ i old. f i (g i old)) at n r
unfolding anew
anew_twice f g at zero r fits = refl
anew_twice f g at (suc n) r fits =
    let old = get_or r (at + n) 0 in
    ap₂ (λ (l : List ℕ) (w : ℕ). set l (at + n) (f n w)) (anew_beside f at n (anew g at n r) (at + n) (g n old) (omega arith))
    (get_or-set_same (anew g at n r) (at + n) (g n old) 0 (rw (length-anew g at n r) (omega arith)))
    ∙ set-set (anew f at n (anew g at n r)) (at + n) (g n old) (f n (g n old))
    ∙ ap (λ (l : List ℕ). set l (at + n) (f n (g n old))) (anew_twice f g at n r (omega arith))
