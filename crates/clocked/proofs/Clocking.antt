-- A frame clocked in turn by turn: one byte more of it, one byte more that came back, and one byte more that is kept of those.
-- Assumes nothing.
use mathlib.Core.Path.{◌≡◌, refl, sym, ap, ap₂, ◌∙◌}
use mathlib.Core.Bool.{Bool, cond, ◌&&◌}
use mathlib.Core.List.{List, [], ◌∷◌, ◌++◌}
use Prim.Native.Nat.{ℕ, suc, ◌+◌, ◌-◌, ◌≤◌, ◌<◌}
use native.Mathlib.Numerals.{add-one}
use native.Mathlib.Decide.{dec_lt}
use native.Mathlib.Omega.{arith}
use lib.Dec.{leb, ltb}
use lib.ListN.{length, get_or, set, take, drop, length-append, length-take, length-drop, drop_of_length-le}
use lib.Seq.{take_all, take-nil, take-suc, take-append-le, drop-append-le, drop-cons, set_at, append_snoc}
use borrow.Author.Tests.{lt-ltb, le-ltb, le-leb, lt-leb}
use Rattle.clocking.specs.Clock.{Clock, clocked, answered}
use Rattle.clocked.specs.Frames.{clocked_all, answered_all, kept_one, kept_back}

-- ---- one byte more of a frame

clocked_snoc : (table bytes : List ℕ) (byte : ℕ) (c : Clock) → clocked_all table (bytes ++ byte ∷ []) c ≡ clocked table byte (clocked_all table bytes c)
unfolding clocked_all
clocked_snoc table [] byte c = refl
clocked_snoc table (b ∷ bytes) byte c = clocked_snoc table bytes byte (clocked table b c)

answered_snoc : (table bytes : List ℕ) (byte : ℕ) (c : Clock)
    → answered_all table (bytes ++ byte ∷ []) c ≡ answered_all table bytes c ++ answered (clocked_all table bytes c) ∷ []
unfolding clocked_all answered_all
answered_snoc table [] byte c = refl
answered_snoc table (b ∷ bytes) byte c = ap (λ (l : List ℕ). answered c ∷ l) (answered_snoc table bytes byte (clocked table b c))

module _ (table frame : List ℕ) (c : Clock) where
  -- after i bytes of the frame
  abbrev pub clock-at : ℕ → Clock
  clock-at i = clocked_all table (take i frame) c

  abbrev pub back_at : ℕ → List ℕ
  back_at i = answered_all table (take i frame) c

  module _ (i : ℕ) (h : i < length frame) where
    byte_more : take (i + 1) frame ≡ take i frame ++ get_or frame i 0 ∷ []
    byte_more = ap (λ (k : ℕ). take k frame) (add-one i) ∙ take-suc frame i 0 h

    pub clock_more : clock-at (i + 1) ≡ clocked table (get_or frame i 0) (clock-at i)
    clock_more = ap (λ (l : List ℕ). clocked_all table l c) byte_more ∙ clocked_snoc table (take i frame) (get_or frame i 0) c

    pub back_more : back_at (i + 1) ≡ back_at i ++ answered (clock-at i) ∷ []
    back_more = ap (λ (l : List ℕ). answered_all table l c) byte_more ∙ answered_snoc table (take i frame) (get_or frame i 0) c

-- ---- one byte more that is kept

module _ (back buffer : List ℕ) (byte : ℕ) where
  -- one of the first four is not
  pub kept-early : length back < 4 → kept_back (back ++ byte ∷ []) buffer ≡ kept_back back buffer
  unfolding kept_back
  kept-early h =
      let none : length back ≤ 4 = omega arith in
      let none_after : length (back ++ byte ∷ []) ≤ 4 = omega (arith, length-append back (byte ∷ [])) in
      ap (λ (l : List ℕ). take (length buffer) l ++ drop (length l) buffer) (drop_of_length-le (back ++ byte ∷ []) none_after ∙ sym (drop_of_length-le back none))

  module _ (h : 4 ≤ length back) where
    abbrev came : List ℕ
    came = drop 4 back

    came_more : drop 4 (back ++ byte ∷ []) ≡ came ++ byte ∷ []
    came_more = drop-append-le 4 back (byte ∷ []) h

    length-came : length came ≡ length back - 4
    length-came = length-drop 4 back

    length_more : length (came ++ byte ∷ []) ≡ suc (length came)
    length_more = length-append came (byte ∷ []) ∙ add-one (length came)

    -- where the buffer has room it goes behind the others
    pub kept_more : length back - 4 < length buffer → kept_back (back ++ byte ∷ []) buffer ≡ set (kept_back back buffer) (length back - 4) byte
    unfolding kept_back
    kept_more room =
        let whole : length came ≤ length buffer = omega (arith, length-came) in
        let whole-after : length (came ++ byte ∷ []) ≤ length buffer = omega (arith, length-came, length_more) in
        let there : length came < length buffer = omega (arith, length-came) in
        ap (λ (l : List ℕ). take (length buffer) l ++ drop (length l) buffer) came_more
        ∙ ap₂ (λ (l : List ℕ) (k : ℕ). l ++ drop k buffer) (take_all (length buffer) (came ++ byte ∷ []) whole-after) length_more
        ∙ append_snoc came byte (drop (suc (length came)) buffer)
        ∙ sym (set_at came (get_or buffer (length came) 0) (drop (suc (length came)) buffer) byte (length back - 4) length-came)
        ∙ ap (λ (l : List ℕ). set (came ++ l) (length back - 4) byte) (sym (drop-cons buffer (length came) 0 there))
        ∙ ap (λ (l : List ℕ). set (l ++ drop (length came) buffer) (length back - 4) byte) (sym (take_all (length buffer) came whole))

    -- where it has none it is lost
    pub kept_past : length buffer ≤ length back - 4 → kept_back (back ++ byte ∷ []) buffer ≡ kept_back back buffer
    unfolding kept_back
    kept_past full =
        let past : length buffer ≤ length came = omega (arith, length-came) in
        let past_after : length buffer ≤ length (came ++ byte ∷ []) = omega (arith, length-came, length_more) in
        ap (λ (l : List ℕ). take (length buffer) l ++ drop (length l) buffer) came_more
        ∙ ap₂ ◌++◌ (take-append-le (length buffer) came (byte ∷ []) past) (drop_of_length-le buffer past_after ∙ sym (drop_of_length-le buffer past))

-- none at first
pub kept-none : (buffer : List ℕ) → kept_back [] buffer ≡ buffer
unfolding kept_back
kept-none buffer = ap (λ (l : List ℕ). l ++ buffer) (take-nil (length buffer))

-- the buffer stays as long as it was
pub length-kept_back : (back buffer : List ℕ) → length (kept_back back buffer) ≡ length buffer
unfolding kept_back
length-kept_back back buffer =
    length-append (take (length buffer) (drop 4 back)) (drop (length (drop 4 back)) buffer)
    ∙ omega (arith, length-take (length buffer) (drop 4 back), length-drop (length (drop 4 back)) buffer)

-- the same by the tests that the code makes
pub kept-one : (back buffer : List ℕ) (byte i : ℕ) → length back ≡ i → kept_one i byte (kept_back back buffer) ≡ kept_back (back ++ byte ∷ []) buffer
unfolding kept_one
kept-one back buffer byte i e = by (dec_lt i 4) (dec_lt (i - 4) (length buffer))
  where
    kept : List ℕ
    kept = kept_back back buffer

    same : length kept ≡ length buffer
    same = length-kept_back back buffer

    by : Dec (i < 4) → Dec (i - 4 < length buffer) → cond (leb 4 i && ltb (i - 4) (length kept)) (set kept (i - 4) byte) kept ≡ kept_back (back ++ byte ∷ []) buffer
    by (yes h) d =
        ap (λ (b : Bool). cond (b && ltb (i - 4) (length kept)) (set kept (i - 4) byte) kept) (lt-leb 4 i h) ∙ sym (kept-early back buffer byte (omega arith))
    by (no h) (yes room) =
        let here : i - 4 < length kept = omega (arith, same) in
        ap₂ (λ (a b : Bool). cond (a && b) (set kept (i - 4) byte) kept) (le-leb 4 i (omega arith)) (lt-ltb (i - 4) (length kept) here)
        ∙ ap (λ (k : ℕ). set kept (k - 4) byte) (sym e)
        ∙ sym (kept_more back buffer byte (omega arith) (omega arith))
    by (no h) (no room) =
        let past : length kept ≤ i - 4 = omega (arith, same) in
        ap₂ (λ (a b : Bool). cond (a && b) (set kept (i - 4) byte) kept) (le-leb 4 i (omega arith)) (le-ltb (i - 4) (length kept) past)
        ∙ sym (kept_past back buffer byte (omega arith) (omega arith))
