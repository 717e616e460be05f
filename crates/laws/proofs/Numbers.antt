-- A byte string as one number: its bits are the string's, a longer string goes on from the number of its beginning, and it has eight
-- bits for each byte.
-- Assumes nothing.
use mathlib.Core.Path.{◌≡◌, refl, sym, ap, ap₂, ◌∙◌, subst}
use mathlib.Core.Bool.{Bool}
use mathlib.Core.List.{List, [], ◌∷◌, ◌++◌, append_assoc, append-nil}
use Prim.Native.Nat.{ℕ, zero, suc, ◌+◌, ◌*◌, ◌/◌, ◌^◌, ◌<◌}
use native.Mathlib.Nat.{zero-add, suc-add, add_comm, add_assoc, mul_comm, mul_assoc, add-mul}
use native.Mathlib.Omega.{arith}
use lib.ListN.{length, get_or}
use lib.Pow.{pow-add, shr-shr, high}
use Rattle.laws.specs.Bits.{odd, bits_of, bits_of_bytes, Bytes, number_from, number_of}
use Rattle.laws.proofs.Bits.{bits_low}

-- the bits of a number, and then those of k more
pub bits_join : (j k a : ℕ) {b : ℕ} → b < 2 ^ k → bits_of (j + k) (a * 2 ^ k + b) ≡ bits_of j a ++ bits_of k b
unfolding bits_of
bits_join zero k a {b} h = ap (λ (n : ℕ). bits_of n (a * 2 ^ k + b)) (zero-add k) ∙ bits_low k a b
bits_join (suc j) k a {b} h =
    let n = a * 2 ^ k + b in
    ap (λ (x : ℕ). bits_of x n) (suc-add j k)
    ∙ ap₂ ◌∷◌ (ap odd (ap (λ (x : ℕ). n / 2 ^ x) (add_comm j k) ∙ sym (shr-shr n k j) ∙ ap (λ (x : ℕ). x / 2 ^ j) (high a k h))) (bits_join j k a h)

pub bits_of_number : (k n : ℕ) (bs : List ℕ) → ((i : ℕ) → get_or bs i 0 < 256)
    → bits_of (k + 8 * length bs) (number_from n bs) ≡ bits_of k n ++ bits_of_bytes bs
unfolding number_from bits_of_bytes
bits_of_number k n [] h =
    let none : k + 8 * 0 ≡ k = omega arith in
    ap (λ (x : ℕ). bits_of x n) none ∙ sym (append-nil (bits_of k n))
bits_of_number k n (b ∷ bs) h =
    let more : k + 8 * suc (length bs) ≡ (k + 8) + 8 * length bs = omega arith in
    ap (λ (x : ℕ). bits_of x (number_from (n * 256 + b) bs)) more
    ∙ bits_of_number (k + 8) (n * 256 + b) bs (λ i. h (suc i))
    ∙ ap (λ (x : List Bool). x ++ bits_of_bytes bs) (bits_join k 8 n (h 0))
    ∙ append_assoc (bits_of k n) (bits_of 8 b) (bits_of_bytes bs)

-- of a whole string, whose bits are k
pub bits_of_string : (k : ℕ) (bs : List ℕ) → Bytes bs → k ≡ 8 * length bs → bits_of k (number_of bs) ≡ bits_of_bytes bs
unfolding number_of bits_of
bits_of_string k bs h e = ap (λ (n : ℕ). bits_of n (number_of bs)) (e ∙ sym (zero-add (8 * length bs))) ∙ bits_of_number 0 0 bs h

pub number_append : (n : ℕ) (bs cs : List ℕ) → number_from n (bs ++ cs) ≡ number_from (number_from n bs) cs
unfolding number_from
number_append n [] cs = refl
number_append n (b ∷ bs) cs = number_append (n * 256 + b) bs cs

-- what stood before it is above its bits
pub number-from : (n : ℕ) (bs : List ℕ) → number_from n bs ≡ n * 2 ^ (8 * length bs) + number_from 0 bs
unfolding number_from
number-from n [] = omega arith
number-from n (b ∷ bs) =
    let more : 8 * suc (length bs) ≡ 8 * length bs + 8 = omega arith in
    let x = 2 ^ (8 * length bs) in
    let f = number_from 0 bs in
    number-from (n * 256 + b) bs
    ∙ ap (λ (m : ℕ). m + f) (add-mul (n * 256) b x)
    ∙ ap (λ (m : ℕ). m + b * x + f) (mul_assoc n 256 x ∙ ap (λ (m : ℕ). n * m) (mul_comm 256 x ∙ sym (pow-add 2 (8 * length bs) 8) ∙ ap (λ (k : ℕ). 2 ^ k) (sym more)))
    ∙ add_assoc (n * 2 ^ (8 * suc (length bs))) (b * x) f
    ∙ ap (λ (m : ℕ). n * 2 ^ (8 * suc (length bs)) + m) (sym (number-from (0 * 256 + b) bs ∙ ap (λ (m : ℕ). m * x + f) (zero-add b)))

pub number-below : (k n : ℕ) (bs : List ℕ) → n < 2 ^ k → ((i : ℕ) → get_or bs i 0 < 256) → number_from n bs < 2 ^ (k + 8 * length bs)
unfolding number_from
number-below k n [] hn h =
    let none : k ≡ k + 8 * 0 = omega arith in
    subst (λ (x : ℕ). n < 2 ^ x) none hn
number-below k n (b ∷ bs) hn h =
    let more : (k + 8) + 8 * length bs ≡ k + 8 * suc (length bs) = omega arith in
    subst (λ (x : ℕ). number_from (n * 256 + b) bs < 2 ^ x) more (number-below (k + 8) (n * 256 + b) bs next (λ i. h (suc i)))
  where
    next : n * 256 + b < 2 ^ (k + 8)
    next = subst (λ (x : ℕ). n * 256 + b < x) (sym (pow-add 2 k 8)) (omega (arith, hn, h 0))
