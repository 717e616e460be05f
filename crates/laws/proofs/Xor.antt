-- Exclusive or of numbers: a commutative group in which each number is its own opposite, which goes through
-- shifts, remainders by a power of 2 and the last bit. By the kit's laws of `bit_xor`, and associativity by binary digits.
-- Assumes nothing.
use mathlib.Core.Path.{◌≡◌, refl, sym, ap, ap₂, ◌∙◌}
use mathlib.Core.Bool.{xor}
use Prim.Native.Nat.{ℕ, zero, suc, ◌+◌, ◌*◌, ◌/◌, ◌%◌, ◌^◌, ◌<◌}
use native.Mathlib.Nat.{mod-lt, add-zero}
use native.Mathlib.Omega.{arith}
use lib.Arith.{bin_ind, digits_mod}
use lib.Bits.{bit_xor, differ, xor_step, xor_zero_l, xor_zero_r, xor_self, xor_block, xor_shr, xor_mod}
use lib.Bits
use lib.Dec.{eqb}
use lib.Pow.{pow_pos}
use Rattle.laws.specs.Bits.{◌⊕◌, odd}

pub xor_comm : (a b : ℕ) → a ⊕ b ≡ b ⊕ a
unfolding ◌⊕◌
xor_comm a b = lib.Bits.xor_comm a b

pub zero_xor : (a : ℕ) → 0 ⊕ a ≡ a
unfolding ◌⊕◌
zero_xor a = xor_zero_l a

pub xor-zero : (a : ℕ) → a ⊕ 0 ≡ a
unfolding ◌⊕◌
xor-zero a = xor_zero_r a

pub xor_same : (a : ℕ) → a ⊕ a ≡ 0
unfolding ◌⊕◌
xor_same a = xor_self a

pub xor_below : (k : ℕ) {a b : ℕ} → a < 2 ^ k → b < 2 ^ k → a ⊕ b < 2 ^ k
unfolding ◌⊕◌
xor_below k {a} {b} ha hb = lib.Bits.xor_lt k a b ha hb

pub xor-div : (a b k : ℕ) → (a ⊕ b) / 2 ^ k ≡ (a / 2 ^ k) ⊕ (b / 2 ^ k)
unfolding ◌⊕◌
xor-div a b k = xor_shr a b k

pub xor_rem : (a b k : ℕ) → (a ⊕ b) % 2 ^ k ≡ (a % 2 ^ k) ⊕ (b % 2 ^ k)
unfolding ◌⊕◌
xor_rem a b k = xor_mod a b k

-- ---- the last digit, and the rest

differ_lt : (x y : ℕ) → x < 2 → y < 2 → differ x y < 2
differ_lt zero y hx hy = hy
differ_lt (suc zero) zero hx hy = hx
differ_lt (suc zero) (suc zero) hx hy = omega arith
differ_lt (suc zero) (suc (suc y)) hx hy = absurd (omega arith)
differ_lt (suc (suc x)) y hx hy = absurd (omega arith)

differ_assoc : (x y z : ℕ) → x < 2 → y < 2 → z < 2 → differ (differ x y) z ≡ differ x (differ y z)
differ_assoc zero y z hx hy hz = refl
differ_assoc (suc zero) zero z hx hy hz = refl
differ_assoc (suc zero) (suc zero) zero hx hy hz = refl
differ_assoc (suc zero) (suc zero) (suc zero) hx hy hz = refl
differ_assoc (suc zero) (suc zero) (suc (suc z)) hx hy hz = absurd (omega arith)
differ_assoc (suc zero) (suc (suc y)) z hx hy hz = absurd (omega arith)
differ_assoc (suc (suc x)) y z hx hy hz = absurd (omega arith)

halves : (a b : ℕ) → a ⊕ b ≡ ((a / 2) ⊕ (b / 2)) * 2 + differ (a % 2) (b % 2)
unfolding ◌⊕◌
halves a b = xor_step a b

two_pos : 0 < 2
two_pos = omega arith

last-xor : (a b : ℕ) → (a ⊕ b) % 2 ≡ differ (a % 2) (b % 2)
last-xor a b =
    ap (λ (n : ℕ). n % 2) (halves a b)
    ∙ digits_mod ((a / 2) ⊕ (b / 2)) (differ_lt (a % 2) (b % 2) (mod-lt a two_pos) (mod-lt b two_pos))

pub xor_assoc : (a b c : ℕ) → a ⊕ b ⊕ c ≡ a ⊕ (b ⊕ c)
xor_assoc a =
    bin_ind (λ (n : ℕ). (b c : ℕ) → n ⊕ b ⊕ c ≡ n ⊕ (b ⊕ c))
    (λ b c. ap (λ (x : ℕ). x ⊕ c) (zero_xor b) ∙ sym (zero_xor (b ⊕ c)))
    (λ n ih b c.
    halves (n ⊕ b) c
    ∙ ap₂ (λ (x y : ℕ). x * 2 + y)
    (ap (λ (x : ℕ). x ⊕ (c / 2)) (xor-div n b 1) ∙ ih (b / 2) (c / 2) ∙ ap (λ (x : ℕ). (n / 2) ⊕ x) (sym (xor-div b c 1)))
    (ap (λ (x : ℕ). differ x (c % 2)) (last-xor n b)
    ∙ differ_assoc (n % 2) (b % 2) (c % 2) (mod-lt n two_pos) (mod-lt b two_pos) (mod-lt c two_pos)
    ∙ ap (differ (n % 2)) (sym (last-xor b c)))
    ∙ sym (halves n (b ⊕ c)))
    a

-- ---- what follows

pub xor_twice : (a b : ℕ) → a ⊕ b ⊕ b ≡ a
xor_twice a b = xor_assoc a b b ∙ ap (λ (x : ℕ). a ⊕ x) (xor_same b) ∙ xor-zero a

-- (a ⊕ b) ⊕ (c ⊕ d): the two in the middle change places
pub xor-middle : (a b c d : ℕ) → a ⊕ b ⊕ (c ⊕ d) ≡ a ⊕ c ⊕ (b ⊕ d)
xor-middle a b c d =
    xor_assoc a b (c ⊕ d)
    ∙ ap (λ (x : ℕ). a ⊕ x) (sym (xor_assoc b c d) ∙ ap (λ (x : ℕ). x ⊕ d) (xor_comm b c) ∙ xor_assoc c b d)
    ∙ sym (xor_assoc a c (b ⊕ d))

-- the low k places and the rest are added apart
pub xor_blocks : (k a b : ℕ) {r s : ℕ} → r < 2 ^ k → s < 2 ^ k → (a * 2 ^ k + r) ⊕ (b * 2 ^ k + s) ≡ (a ⊕ b) * 2 ^ k + (r ⊕ s)
unfolding ◌⊕◌
xor_blocks k a b {r} {s} hr hs = xor_block k a b r s hr hs

pub xor_shift : (k a b : ℕ) → (a * 2 ^ k) ⊕ (b * 2 ^ k) ≡ (a ⊕ b) * 2 ^ k
xor_shift k a b =
    ap₂ ◌⊕◌ (sym (add-zero (a * 2 ^ k))) (sym (add-zero (b * 2 ^ k)))
    ∙ xor_blocks k a b (pow_pos k) (pow_pos k)
    ∙ ap (λ (x : ℕ). (a ⊕ b) * 2 ^ k + x) (zero_xor 0)
    ∙ add-zero ((a ⊕ b) * 2 ^ k)

odd_digits : (x y : ℕ) → x < 2 → y < 2 → eqb (differ x y) 1 ≡ xor (eqb x 1) (eqb y 1)
unfolding xor
odd_digits zero zero hx hy = refl
odd_digits zero (suc zero) hx hy = refl
odd_digits zero (suc (suc y)) hx hy = absurd (omega arith)
odd_digits (suc zero) zero hx hy = refl
odd_digits (suc zero) (suc zero) hx hy = refl
odd_digits (suc zero) (suc (suc y)) hx hy = absurd (omega arith)
odd_digits (suc (suc x)) y hx hy = absurd (omega arith)

pub odd-xor : (a b : ℕ) → odd (a ⊕ b) ≡ xor (odd a) (odd b)
unfolding odd
odd-xor a b = ap (λ (n : ℕ). eqb n 1) (last-xor a b) ∙ odd_digits (a % 2) (b % 2) (mod-lt a two_pos) (mod-lt b two_pos)
