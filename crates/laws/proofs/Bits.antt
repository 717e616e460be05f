-- The bits of a number: how many they are, that they are those of its remainder by the power of 2, that they go
-- through exclusive or, and that a number below a smaller power begins with zeros.
-- Assumes nothing.
use mathlib.Core.Path.{◌≡◌, refl, sym, ap, ap₂, ◌∙◌}
use mathlib.Core.Bool.{Bool, false}
use mathlib.Core.List.{List, [], ◌∷◌, ◌++◌, append_assoc}
use Prim.Native.Nat.{ℕ, zero, suc, ◌+◌, ◌*◌, ◌/◌, ◌%◌, ◌^◌, ◌<◌}
use native.Mathlib.Nat.{zero-div, pow-suc, mul_assoc, mul_comm, mul-add-div_right, mul-add-mod_self_right, div-eq_of_lt, lt_of_lt_of_le, zero-add, suc-add}
use native.Mathlib.Omega.{arith}
use lib.ListN.{length, replicate}
use lib.Pow.{pow_pos, pow_mono, high, split}
use Rattle.laws.specs.Bits.{◌⊕◌, odd, bits_of, bits_of_bytes, xor_bits}
use Rattle.laws.proofs.Xor.{odd-xor, xor-div}

pub length_bits : (k n : ℕ) → length (bits_of k n) ≡ k
unfolding bits_of
length_bits zero n = refl
length_bits (suc k) n = ap suc (length_bits k n)

pub bits_xor : (k a b : ℕ) → bits_of k (a ⊕ b) ≡ xor_bits (bits_of k a) (bits_of k b)
unfolding bits_of xor_bits
bits_xor zero a b = refl
bits_xor (suc k) a b = ap₂ ◌∷◌ (ap odd (xor-div a b k) ∙ odd-xor (a / 2 ^ k) (b / 2 ^ k)) (bits_xor k a b)

odd_even : (a n : ℕ) → odd (a * 2 + n) ≡ odd n
unfolding odd
odd_even a n = rw mul-add-mod_self_right

-- one place more, taken from the factor
doubled : (a k n : ℕ) → a * 2 ^ suc k + n ≡ a * 2 * 2 ^ k + n
doubled a k n = ap (λ (x : ℕ). a * x + n) (pow-suc 2 k ∙ mul_comm (2 ^ k) 2) ∙ ap (λ (x : ℕ). x + n) (sym (mul_assoc a 2 (2 ^ k)))

-- what stands above the k low places does not count
pub bits_low : (k a n : ℕ) → bits_of k (a * 2 ^ k + n) ≡ bits_of k n
unfolding bits_of
bits_low zero a n = refl
bits_low (suc k) a n =
    ap (bits_of (suc k)) (doubled a k n)
    ∙ ap₂ ◌∷◌ (ap odd (mul-add-div_right (pow_pos k) (a * 2) n) ∙ odd_even a (n / 2 ^ k)) (bits_low k (a * 2) n)

-- the bit above the k low ones, for a number that has at most one more
pub bits_top : (k t : ℕ) {n : ℕ} → n < 2 ^ k → bits_of (suc k) (t * 2 ^ k + n) ≡ odd t ∷ bits_of k n
unfolding bits_of
bits_top k t {n} h = ap₂ ◌∷◌ (ap odd (high t k h)) (bits_low k t n)

-- a number of k bits and j more, as j + k bits, begins with j zeros
pub bits_zeros : (j k : ℕ) {n : ℕ} → n < 2 ^ k → bits_of (j + k) n ≡ replicate j false ++ bits_of k n
unfolding bits_of odd
bits_zeros zero k {n} h = rw zero-add
bits_zeros (suc j) k {n} h =
    ap (λ (x : ℕ). bits_of x n) (suc-add j k)
    ∙ ap₂ ◌∷◌ (ap odd (div-eq_of_lt (lt_of_lt_of_le h (pow_mono (omega arith))))) (bits_zeros j k h)

pub bits_of-zero : (k : ℕ) → bits_of k 0 ≡ replicate k false
unfolding bits_of odd
bits_of-zero zero = refl
bits_of-zero (suc k) = ap₂ ◌∷◌ (ap odd (zero-div (2 ^ k))) (bits_of-zero k)

pub bits_of_bytes_append : (xs ys : List ℕ) → bits_of_bytes (xs ++ ys) ≡ bits_of_bytes xs ++ bits_of_bytes ys
unfolding bits_of_bytes
bits_of_bytes_append [] ys = refl
bits_of_bytes_append (x ∷ xs) ys =
    ap (λ (bs : List Bool). bits_of 8 x ++ bs) (bits_of_bytes_append xs ys) ∙ sym (append_assoc (bits_of 8 x) (bits_of_bytes xs) (bits_of_bytes ys))

pub bits_mod : (k n : ℕ) → bits_of k (n % 2 ^ k) ≡ bits_of k n
bits_mod k n = sym (ap (bits_of k) (sym (split n k)) ∙ bits_low k (n / 2 ^ k) (n % 2 ^ k))
