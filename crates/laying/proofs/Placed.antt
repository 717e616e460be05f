-- Bytes put into a buffer: the buffer keeps its length, and bytes put behind bytes are the two together. So a loop that puts
-- part after part has put all that came so far. With the test: bytes that fit are put, and others leave the buffer.
-- Assumes nothing.
use mathlib.Core.Path.{◌≡◌, sym, ap, ap₂, ◌∙◌}
use mathlib.Core.Bool.{Bool, cond}
use mathlib.Core.List.{List, [], ◌++◌, append_assoc, append-nil}
use Prim.Native.Nat.{ℕ, ◌+◌, ◌-◌, ◌≤◌, ◌<◌}
use native.Mathlib.Nat.{add-zero, zero-add}
use native.Mathlib.Omega.{arith}
use lib.ListN.{length, take, drop, length-append, length-drop, take-append-drop}
use borrow.Author.Tests.{le-leb, lt-leb}
use borrow.Rule.Slice.PartMut.{put_mid, Post-is}
use lib.Seq.{length-take-le, take_at, drop_at, drop-drop}
use Rattle.laying.specs.Placed.{placed, fits}

pub placed-none : (at : ℕ) (buffer : List ℕ) → placed at [] buffer ≡ buffer
unfolding placed
placed-none at buffer =
    ap₂ ◌++◌ (append-nil (take at buffer)) (ap (λ (n : ℕ). drop n buffer) (add-zero at)) ∙ take-append-drop at buffer

-- bytes put at the start of a buffer
pub placed_first : (bytes buffer : List ℕ) → placed 0 bytes buffer ≡ bytes ++ drop (length bytes) buffer
unfolding placed
placed_first bytes buffer = ap (λ (n : ℕ). bytes ++ drop n buffer) (zero-add (length bytes))

-- where what is put ends at `end`, within the buffer
module _ (at end : ℕ) (xs buffer : List ℕ) (e : at + length xs ≡ end) (fits : end ≤ length buffer) where
  length_front : length (take at buffer ++ xs) ≡ end
  length_front = length-append (take at buffer) xs ∙ ap (λ (n : ℕ). n + length xs) (length-take-le at buffer (omega arith)) ∙ e

  pub placed_front : placed at xs buffer ≡ take at buffer ++ xs ++ drop end buffer
  unfolding placed
  placed_front = ap (λ (n : ℕ). take at buffer ++ xs ++ drop n buffer) e

  pub length-placed : length (placed at xs buffer) ≡ length buffer
  length-placed =
      ap length placed_front
      ∙ length-append (take at buffer ++ xs) (drop end buffer)
      ∙ ap₂ ◌+◌ length_front (length-drop end buffer)
      ∙ omega arith

  -- bytes put behind them
  pub placed_more : (ys : List ℕ) → placed end ys (placed at xs buffer) ≡ placed at (xs ++ ys) buffer
  unfolding placed
  placed_more ys =
      let all : end + length ys ≡ at + length (xs ++ ys) = omega (arith, length-append xs ys) in
      ap (λ (l : List ℕ). take end l ++ ys ++ drop (end + length ys) l) placed_front
      ∙ ap₂ ◌++◌
      (ap (λ (l : List ℕ). l ++ ys) (take_at (take at buffer ++ xs) (drop end buffer) end length_front) ∙ append_assoc (take at buffer) xs ys)
      (sym (drop-drop (length ys) end (take at buffer ++ xs ++ drop end buffer))
      ∙ ap (drop (length ys)) (drop_at (take at buffer ++ xs) (drop end buffer) end length_front)
      ∙ drop-drop (length ys) end buffer
      ∙ ap (λ (n : ℕ). drop n buffer) all)

-- ---- with the test whether they fit

-- what becomes of a buffer
abbrev pub tried : ℕ → List ℕ → List ℕ → List ℕ
tried at bytes buffer = cond (fits at bytes buffer) (placed at bytes buffer) buffer

pub laid : (at : ℕ) (bytes buffer : List ℕ) → at + length bytes ≤ length buffer → tried at bytes buffer ≡ placed at bytes buffer
laid at bytes buffer h = ap (λ (b : Bool). cond b (placed at bytes buffer) buffer) (le-leb _ _ h)

pub stays : (at : ℕ) (bytes buffer : List ℕ) → length buffer < at + length bytes → tried at bytes buffer ≡ buffer
stays at bytes buffer h = ap (λ (b : Bool). cond b (placed at bytes buffer) buffer) (lt-leb _ _ h)

-- bytes put behind bytes, where both fit
pub laid_behind : (at end : ℕ) (xs ys buffer : List ℕ) → at + length xs ≡ end → end + length ys ≤ length buffer
    → tried end ys (tried at xs buffer) ≡ placed at (xs ++ ys) buffer
laid_behind at end xs ys buffer e h =
    let fits : end ≤ length buffer = omega arith in
    let l : length (placed at xs buffer) ≡ length buffer = length-placed at end xs buffer e fits in
    ap (tried end ys) (laid at xs buffer (omega arith)) ∙ laid end ys (placed at xs buffer) (omega arith) ∙ placed_more at end xs buffer e fits ys

-- ---- by a part that was lent

-- a part that holds the bytes when it comes back
pub part_back : (at : ℕ) (bytes buffer : List ℕ) {after : List ℕ} → after ≡ bytes → put_mid at (at + length bytes - at) buffer after ≡ placed at bytes buffer
unfolding placed
part_back at bytes buffer e =
    ap₂ (λ (held rest : List ℕ). take at buffer ++ (held ++ rest)) e (Post-is at (at + length bytes) buffer (omega arith))
    ∙ sym (append_assoc (take at buffer) bytes (drop (at + length bytes) buffer))
