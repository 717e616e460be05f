-- What a check sees, once over its width w and for any polynomial of that width that ends in 1: two strings of bits of one length that
-- differ, and only among w places in a row, leave different remainders from any start. Up to the first of those places the remainder is
-- the same. From one remainder, w bits or fewer are told by the remainder that they leave, since it is linear, and from 0 only zeros leave
-- 0. What follows is the same again, and keeps different remainders different.
-- Assumes nothing.
use mathlib.Core.Path.{◌≡◌, refl, sym, ap, ap₂, ◌∙◌, subst}
use mathlib.Core.Bool.{Bool, true, false}
use mathlib.Core.List.{List, [], ◌∷◌, ◌++◌}
use Prim.Native.Nat.{ℕ, zero, suc, ◌+◌, ◌-◌, ◌^◌, ◌≤◌, ◌<◌, min}
use native.Mathlib.Nat.{lt_of_lt_of_le}
use native.Mathlib.Omega.{arith}
use lib.ListN.{length, get_or, take, drop, length-take, length-drop, take-append-drop}
use lib.Pow.{pow_pos, pow_mono}
use lib.Seq.{ext_get_or, get_or-take, get_or-drop}
use borrow.Author.Tests.{eq-eqb, eqb-true}
use Rattle.laws.specs.Bits.{◌⊕◌, odd, bits_of}
use Rattle.laws.proofs.Xor.{zero_xor, xor_same, xor_twice, xor_below}
use Rattle.laws.proofs.BitStrings.{value_of, value_below, bits_of_value}
use Rattle.pec.specs.Remainder.{remainder}
use Rattle.pec.specs.Spikes.{Burst}
use Rattle.pec.proofs.Remainder.{step-below, remainder-below, remainder_append, remainder_bits_linear}
use Rattle.pec.proofs.ManyBits.{zeros_first}
use Rattle.pec.proofs.Undone.{remainder_injective, nothing_left}

module _ (w g : ℕ) (ends : odd g ≡ true) (fits : g < 2 ^ suc w) where
  -- from 0, a number of k bits, at most the width, leaves 0 only if it is 0
  only_zeros : (k : ℕ) {x : ℕ} → k ≤ suc w → x < 2 ^ k → remainder (suc w) g 0 (bits_of k x) ≡ 0 → x ≡ 0
  only_zeros k {x} short h none =
      let apart : (suc w - k) + k ≡ suc w = omega arith in
      let wide = ap (λ (n : ℕ). remainder (suc w) g 0 (bits_of n x)) (sym apart) ∙ zeros_first (suc w) g (suc w - k) k h ∙ none in
      eqb-true x 0 (sym (nothing_left w g 0 x ends fits (pow_pos (suc w)) (lt_of_lt_of_le h (pow_mono short))) ∙ eq-eqb _ 0 wide)

  -- from one remainder, strings of as many bits, at most the width, are told by what they leave
  short_told : (s : ℕ) (us vs : List Bool) → length us ≡ length vs → length us ≤ suc w → remainder (suc w) g s us ≡ remainder (suc w) g s vs → us ≡ vs
  short_told s us vs as_long short alike =
      let k = length us in
      let u = value_of us in
      let v = value_of vs in
      let of-us : bits_of k u ≡ us = bits_of_value us in
      let of-vs : bits_of k v ≡ vs = ap (λ (n : ℕ). bits_of n v) as_long ∙ bits_of_value vs in
      let v_below : v < 2 ^ k = subst (λ (n : ℕ). v < 2 ^ n) (sym as_long) (value_below vs) in
      let none : remainder (suc w) g 0 (bits_of k (u ⊕ v)) ≡ 0 =
      ap (λ (r : ℕ). remainder (suc w) g r (bits_of k (u ⊕ v))) (sym (xor_same s))
      ∙ remainder_bits_linear (suc w) g s s k u v
      ∙ ap₂ (λ (a b : List Bool). remainder (suc w) g s a ⊕ remainder (suc w) g s b) of-us of-vs
      ∙ ap (λ (r : ℕ). r ⊕ remainder (suc w) g s vs) alike
      ∙ xor_same (remainder (suc w) g s vs) in
      let same-value : u ≡ v = sym (xor_twice u v) ∙ ap (λ (x : ℕ). x ⊕ v) (only_zeros k short (xor_below k (value_below us) v_below) none) ∙ zero_xor v in
      sym of-us ∙ ap (bits_of k) same-value ∙ of-vs

  -- the bits behind them keep different remainders different
  then-told : (s : ℕ) (us vs rest : List Bool) → length us ≡ length vs → length us ≤ suc w
      → remainder (suc w) g s (us ++ rest) ≡ remainder (suc w) g s (vs ++ rest) → us ≡ vs
  then-told s [] [] rest as_long short alike = refl
  then-told s [] (v ∷ vs) rest as_long short alike = absurd (omega arith)
  then-told s (u ∷ us) [] rest as_long short alike = absurd (omega arith)
  then-told s (u ∷ us) (v ∷ vs) rest as_long short alike =
      short_told s (u ∷ us) (v ∷ vs) as_long short
      (remainder_injective w g (left (u ∷ us)) (left (v ∷ vs)) rest ends fits (below u us) (below v vs)
      (sym (remainder_append (suc w) g s (u ∷ us) rest) ∙ alike ∙ remainder_append (suc w) g s (v ∷ vs) rest))
    where
      left : List Bool → ℕ
      left bs = remainder (suc w) g s bs

      below : (b : Bool) (bs : List Bool) → remainder (suc w) g s (b ∷ bs) < 2 ^ suc w
      below b bs = unfold remainder in remainder-below (suc w) bs fits (step-below (suc w) s b fits)

-- a string in three parts
three : (a b : ℕ) (bs : List Bool) → take a bs ++ (take b (drop a bs) ++ drop b (drop a bs)) ≡ bs
three a b bs = ap (λ (l : List Bool). take a bs ++ l) (take-append-drop b (drop a bs)) ∙ take-append-drop a bs

-- ---- strings that are the same before a place, and behind w places from it on

module _ (first w : ℕ) (sent came : List Bool) (as_long : length came ≡ length sent)
    (before : (i : ℕ) → i < first → get_or came i false ≡ get_or sent i false)
    (behind : (i : ℕ) → first + w ≤ i → get_or came i false ≡ get_or sent i false) where
  same_front : take first came ≡ take first sent
  same_front =
      ext_get_or false (take first came) (take first sent) (length-take first came ∙ ap (min first) as_long ∙ sym (length-take first sent))
      (λ i h. let there : i < first = omega (arith, h, length-take first came) in
      get_or-take first came i false there ∙ before i there ∙ sym (get_or-take first sent i false there))

  same_end : drop w (drop first came) ≡ drop w (drop first sent)
  same_end =
      ext_get_or false (drop w (drop first came)) (drop w (drop first sent))
      (length-drop w (drop first came) ∙ ap (λ (n : ℕ). n - w) (length-drop first came ∙ ap (λ (n : ℕ). n - first) as_long ∙ sym (length-drop first sent)) ∙ sym (length-drop w (drop first sent)))
      (λ i h. at came i ∙ behind (first + (w + i)) (omega arith) ∙ sym (at sent i))
    where
      at : (bs : List Bool) (i : ℕ) → get_or (drop w (drop first bs)) i false ≡ get_or bs (first + (w + i)) false
      at bs i = get_or-drop w (drop first bs) i false ∙ get_or-drop first bs (w + i) false

  mid_long : length (take w (drop first came)) ≡ length (take w (drop first sent))
  mid_long =
      length-take w (drop first came)
      ∙ ap (min w) (length-drop first came ∙ ap (λ (n : ℕ). n - first) as_long ∙ sym (length-drop first sent))
      ∙ sym (length-take w (drop first sent))

  same_whole : take w (drop first came) ≡ take w (drop first sent) → came ≡ sent
  same_whole mid =
      sym (three first w came)
      ∙ ap₂ (λ (a b : List Bool). a ++ b) same_front (ap₂ (λ (a b : List Bool). a ++ b) mid same_end)
      ∙ three first w sent

-- ---- the law

pub burst-seen : (w g r : ℕ) → odd g ≡ true → g < 2 ^ w → {sent came : List Bool} → Burst w sent came → remainder w g r came ≡ remainder w g r sent → ⊥
burst-seen zero g r ends fits {sent} {came} b alike = b.some (same_whole b.first 0 sent came b.as_long b.before b.behind refl)
burst-seen (suc w) g r ends fits {sent} {came} b alike =
    b.some
    (same_whole first (suc w) sent came b.as_long b.before b.behind
    (then-told w g ends fits start (mid came) (mid sent) (end sent) (mid_long first (suc w) sent came b.as_long b.before b.behind)
    (omega (arith, length-take (suc w) (drop first came)))
    (sym came-by ∙ alike ∙ by sent)))
  where
    first : ℕ
    first = b.first

    mid : List Bool → List Bool
    mid bs = take (suc w) (drop first bs)

    end : List Bool → List Bool
    end bs = drop (suc w) (drop first bs)

    -- what is left where the burst begins
    start : ℕ
    start = remainder (suc w) g r (take first sent)

    by : (bs : List Bool) → remainder (suc w) g r bs ≡ remainder (suc w) g (remainder (suc w) g r (take first bs)) (mid bs ++ end bs)
    by bs = ap (remainder (suc w) g r) (sym (three first (suc w) bs)) ∙ remainder_append (suc w) g r (take first bs) (mid bs ++ end bs)

    came-by : remainder (suc w) g r came ≡ remainder (suc w) g start (mid came ++ end sent)
    came-by =
        by came
        ∙ ap₂ (λ (a b : List Bool). remainder (suc w) g (remainder (suc w) g r a) (mid came ++ b))
        (same_front first (suc w) sent came b.as_long b.before b.behind)
        (same_end first (suc w) sent came b.as_long b.before b.behind)
