-- Byte strings, and strings of bits. A byte string has eight bits for each byte, those of a part of it are a part of its bits, and they tell the bytes. A
-- string of k bits is the k bits of a number, its value, and of no other below 2^k.
-- Assumes nothing.
use mathlib.Core.Path.{◌≡◌, refl, sym, ap, ap₂, ◌∙◌}
use mathlib.Core.Bool.{Bool, true, false, cond}
use mathlib.Core.List.{List, [], ◌∷◌, ◌++◌}
use Prim.Native.Nat.{ℕ, zero, suc, ◌+◌, ◌*◌, ◌/◌, ◌^◌, ◌<◌}
use native.Mathlib.Nat.{mod-lt, div-add-mod', div-lt_iff_lt-mul, pow-suc}
use native.Mathlib.Omega.{arith}
use lib.Dec.{lit<, ltb}
use lib.ListN.{length, get_or, take, drop, length-append}
use lib.Pow.{pow_pos}
use lib.Seq.{take-nil, drop-nil, take_at, drop_at, take-append-add, drop-append-add}
use borrow.Author.Tests.{ltb-true}
use Rattle.laws.specs.Bits.{odd, bits_of, bits_of_bytes, Bytes}
use Rattle.laws.specs.Counts.{all}
use Rattle.laws.proofs.Tests.{both_first, both_second}
use Rattle.laws.proofs.Bits.{length_bits, bits_top, bits_mod}

-- ---- byte strings

-- a string each element of which passes the test
pub are_bytes : (bytes : List ℕ) → all (λ b. ltb b 256) bytes ≡ true → Bytes bytes
unfolding all
are_bytes [] e i = lit< tt
are_bytes (b ∷ bs) e zero = ltb-true b 256 (both_first (ltb b 256) _ e)
are_bytes (b ∷ bs) e (suc i) = are_bytes bs (both_second (ltb b 256) _ e) i

-- ---- their bits

pub length-bits_of_bytes : (bytes : List ℕ) → length (bits_of_bytes bytes) ≡ 8 * length bytes
unfolding bits_of_bytes
length-bits_of_bytes [] = refl
length-bits_of_bytes (b ∷ bs) =
    length-append (bits_of 8 b) (bits_of_bytes bs) ∙ omega (arith, length_bits 8 b, length-bits_of_bytes bs)

-- of its first m bytes, and of those behind them
pub bits_take : (m : ℕ) (bytes : List ℕ) → bits_of_bytes (take m bytes) ≡ take (8 * m) (bits_of_bytes bytes)
unfolding bits_of_bytes
bits_take zero bytes = refl
bits_take (suc m) [] = sym (take-nil (8 * suc m))
bits_take (suc m) (b ∷ bs) =
    let more : 8 * suc m ≡ length (bits_of 8 b) + 8 * m = omega (arith, length_bits 8 b) in
    ap (λ (l : List Bool). bits_of 8 b ++ l) (bits_take m bs)
    ∙ sym (take-append-add (bits_of 8 b) (bits_of_bytes bs) (8 * m))
    ∙ ap (λ (n : ℕ). take n (bits_of 8 b ++ bits_of_bytes bs)) (sym more)

pub bits_drop : (m : ℕ) (bytes : List ℕ) → bits_of_bytes (drop m bytes) ≡ drop (8 * m) (bits_of_bytes bytes)
unfolding bits_of_bytes
bits_drop zero bytes = refl
bits_drop (suc m) [] = sym (drop-nil (8 * suc m))
bits_drop (suc m) (b ∷ bs) =
    let more : 8 * suc m ≡ length (bits_of 8 b) + 8 * m = omega (arith, length_bits 8 b) in
    bits_drop m bs
    ∙ sym (drop-append-add (bits_of 8 b) (bits_of_bytes bs) (8 * m))
    ∙ ap (λ (n : ℕ). drop n (bits_of 8 b ++ bits_of_bytes bs)) (sym more)

-- ---- they tell the number

-- a digit by whether it is 1
digit_told : (x y : ℕ) → x < 2 → y < 2 → odd x ≡ odd y → x ≡ y
unfolding odd
digit_told zero zero hx hy e = refl
digit_told zero (suc zero) hx hy e = let z : ◌≡◌ {A = ℕ} 0 1 = cc in absurd (omega arith)
digit_told (suc zero) zero hx hy e = let z : ◌≡◌ {A = ℕ} 0 1 = cc in absurd (omega arith)
digit_told (suc zero) (suc zero) hx hy e = refl
digit_told (suc (suc x)) y hx hy e = absurd (omega arith)
digit_told zero (suc (suc y)) hx hy e = absurd (omega arith)
digit_told (suc zero) (suc (suc y)) hx hy e = absurd (omega arith)

pub bits_told : (k : ℕ) {a b : ℕ} → a < 2 ^ k → b < 2 ^ k → bits_of k a ≡ bits_of k b → a ≡ b
bits_told zero ha hb e = omega arith
bits_told (suc k) {a} {b} ha hb e =
    sym (div-add-mod' a (2 ^ k))
    ∙ ap₂ (λ (t n : ℕ). t * 2 ^ k + n) top (bits_told k (mod-lt a (pow_pos k)) (mod-lt b (pow_pos k)) (bits_mod k a ∙ rest ∙ sym (bits_mod k b)))
    ∙ div-add-mod' b (2 ^ k)
  where
    digit : {n : ℕ} → n < 2 ^ suc k → n / 2 ^ k < 2
    digit h = (div-lt_iff_lt-mul (pow_pos k)).1 (omega (arith, h))

    first : odd (a / 2 ^ k) ≡ odd (b / 2 ^ k)
    first = unfold bits_of in ap (λ (bs : List Bool). get_or bs 0 false) e

    rest : bits_of k a ≡ bits_of k b
    rest = unfold bits_of in ap (drop 1) e

    top : a / 2 ^ k ≡ b / 2 ^ k
    top = digit_told (a / 2 ^ k) (b / 2 ^ k) (digit ha) (digit hb) first

-- and the bytes
pub bytes-told : (xs ys : List ℕ) → Bytes xs → Bytes ys → bits_of_bytes xs ≡ bits_of_bytes ys → xs ≡ ys
unfolding bits_of_bytes
bytes-told [] [] hx hy e = refl
bytes-told [] (y ∷ ys) hx hy e = absurd (omega (arith, ap length e, length-bits_of_bytes (y ∷ ys)))
bytes-told (x ∷ xs) [] hx hy e = absurd (omega (arith, ap length e, length-bits_of_bytes (x ∷ xs)))
bytes-told (x ∷ xs) (y ∷ ys) hx hy e =
    ap₂ ◌∷◌
    (bits_told 8 (hx 0) (hy 0)
    (sym (take_at (bits_of 8 x) (bits_of_bytes xs) 8 (length_bits 8 x)) ∙ ap (take 8) e ∙ take_at (bits_of 8 y) (bits_of_bytes ys) 8 (length_bits 8 y)))
    (bytes-told xs ys (λ i. hx (suc i)) (λ i. hy (suc i))
    (sym (drop_at (bits_of 8 x) (bits_of_bytes xs) 8 (length_bits 8 x)) ∙ ap (drop 8) e ∙ drop_at (bits_of 8 y) (bits_of_bytes ys) 8 (length_bits 8 y)))

-- ---- the value of a string of bits

abbrev pub value_of : List Bool → ℕ
value_of [] = 0
value_of (b ∷ bs) = cond b 1 0 * 2 ^ length bs + value_of bs

pub value_below : (bs : List Bool) → value_of bs < 2 ^ length bs
value_below [] = lit< tt
value_below (true ∷ bs) = omega (arith, value_below bs, pow-suc 2 (length bs))
value_below (false ∷ bs) = omega (arith, value_below bs, pow-suc 2 (length bs))

pub bits_of_value : (bs : List Bool) → bits_of (length bs) (value_of bs) ≡ bs
unfolding bits_of odd
bits_of_value [] = refl
bits_of_value (true ∷ bs) = bits_top (length bs) 1 (value_below bs) ∙ ap (λ (l : List Bool). true ∷ l) (bits_of_value bs)
bits_of_value (false ∷ bs) = bits_top (length bs) 0 (value_below bs) ∙ ap (λ (l : List Bool). false ∷ l) (bits_of_value bs)
