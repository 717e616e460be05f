-- One bit of a number: of an inclusive or and of an and, so set by the one and cleared by the other; left by the flip of another.
-- Assumes nothing.
use mathlib.Core.Path.{◌≡◌, refl, sym, ap, ◌∙◌}
use mathlib.Core.Bool.{Bool, true, false, xor, ◌&&◌, ◌||◌}
use Prim.Native.Nat.{ℕ, zero, suc, ◌+◌, ◌-◌, ◌/◌, ◌%◌, ◌^◌, ◌≤◌, ◌<◌, min, max}
use native.Mathlib.Nat.{mod-lt, div-eq_of_lt, one-mul, mul-mod_left}
use native.Mathlib.Omega.{arith}
use lib.Arith.{digits_mod}
use lib.Dec.{eqb, ltb}
use lib.Bits.{bit_and, bit_or, and_step, and_shr, or_shr, shifted_even}
use lib.Pow.{pow-add, pow-lt, shl-shr}
use borrow.Author.Tests.{ltb-true, ltb-false}
use Rattle.laws.specs.Bits.{◌⊕◌, odd, bit_at}
use Rattle.laws.proofs.Xor.{xor-zero, xor-div, xor_rem, odd-xor}
use Rattle.laws.proofs.Counts.{and-false}
use Rattle.laws.proofs.Or.{last_or}

min-below : (x y : ℕ) → x < 2 → y < 2 → min x y < 2
min-below x y hx hy = omega arith

last_and : (a b : ℕ) → bit_and a b % 2 ≡ min (a % 2) (b % 2)
last_and a b =
    ap (λ (n : ℕ). n % 2) (and_step a b)
    ∙ digits_mod (bit_and (a / 2) (b / 2)) (min-below (a % 2) (b % 2) (mod-lt a (omega arith)) (mod-lt b (omega arith)))

-- two digits: the greater is 1 where either is, the lesser where both are
either_one : (x y : ℕ) → x < 2 → y < 2 → eqb (max x y) 1 ≡ eqb x 1 || eqb y 1
either_one zero zero hx hy = refl
either_one zero (suc zero) hx hy = refl
either_one (suc zero) zero hx hy = refl
either_one (suc zero) (suc zero) hx hy = refl
either_one (suc (suc x)) y hx hy = absurd (omega arith)
either_one zero (suc (suc y)) hx hy = absurd (omega arith)
either_one (suc zero) (suc (suc y)) hx hy = absurd (omega arith)

both_one : (x y : ℕ) → x < 2 → y < 2 → eqb (min x y) 1 ≡ eqb x 1 && eqb y 1
both_one zero zero hx hy = refl
both_one zero (suc zero) hx hy = refl
both_one (suc zero) zero hx hy = refl
both_one (suc zero) (suc zero) hx hy = refl
both_one (suc (suc x)) y hx hy = absurd (omega arith)
both_one zero (suc (suc y)) hx hy = absurd (omega arith)
both_one (suc zero) (suc (suc y)) hx hy = absurd (omega arith)

or_true : (b : Bool) → b || true ≡ true
or_true true = refl
or_true false = refl

module _ (k a b : ℕ) where
  pub or_bits : bit_at k (bit_or a b) ≡ bit_at k a || bit_at k b
  unfolding bit_at odd
  or_bits =
      ap (λ (n : ℕ). eqb n 1) (ap (λ (n : ℕ). n % 2) (or_shr a b k) ∙ last_or (a / 2 ^ k) (b / 2 ^ k))
      ∙ either_one (a / 2 ^ k % 2) (b / 2 ^ k % 2) (mod-lt (a / 2 ^ k) (omega arith)) (mod-lt (b / 2 ^ k) (omega arith))

  pub and_bits : bit_at k (bit_and a b) ≡ bit_at k a && bit_at k b
  unfolding bit_at odd
  and_bits =
      ap (λ (n : ℕ). eqb n 1) (ap (λ (n : ℕ). n % 2) (and_shr a b k) ∙ last_and (a / 2 ^ k) (b / 2 ^ k))
      ∙ both_one (a / 2 ^ k % 2) (b / 2 ^ k % 2) (mod-lt (a / 2 ^ k) (omega arith)) (mod-lt (b / 2 ^ k) (omega arith))

  pub bit-or : bit_at k b ≡ true → bit_at k (bit_or a b) ≡ true
  bit-or e = or_bits ∙ ap (λ (t : Bool). bit_at k a || t) e ∙ or_true (bit_at k a)

  pub bit-and : bit_at k b ≡ false → bit_at k (bit_and a b) ≡ false
  bit-and e = and_bits ∙ ap (λ (t : Bool). bit_at k a && t) e ∙ and-false (bit_at k a)

-- ---- the flip of a bit

xor-false : (b : Bool) → xor b false ≡ b
unfolding xor
xor-false true = refl
xor-false false = refl

-- a power of 2 has no other bit
lone_bit : (j k : ℕ) → (j ≡ k → ⊥) → odd (2 ^ k / 2 ^ j) ≡ false
unfolding odd
lone_bit j k apart = by (ltb k j) refl
  where
    above : k < j → eqb (2 ^ k / 2 ^ j % 2) 1 ≡ false
    above h = ap (λ (n : ℕ). eqb (n % 2) 1) (div-eq_of_lt (pow-lt h))

    below : j ≤ k → eqb (2 ^ k / 2 ^ j % 2) 1 ≡ false
    below h =
        let d = k - suc j in
        let there : suc d + j ≡ k = omega arith in
        ap (λ (n : ℕ). eqb (2 ^ n / 2 ^ j % 2) 1) (sym there)
        ∙ ap (λ (n : ℕ). eqb (n / 2 ^ j % 2) 1) (pow-add 2 (suc d) j)
        ∙ ap (λ (n : ℕ). eqb (n % 2) 1) (shl-shr (2 ^ suc d) j)
        ∙ ap (λ (n : ℕ). eqb (n % 2) 1) (sym (one-mul (2 ^ suc d)))
        ∙ ap (λ (n : ℕ). eqb n 1) (shifted_even 1 d)

    by : (b : Bool) → ltb k j ≡ b → eqb (2 ^ k / 2 ^ j % 2) 1 ≡ false
    by true e = above (ltb-true k j e)
    by false e = below (ltb-false k j e)

pub bit_flip : (j k n : ℕ) → (j ≡ k → ⊥) → bit_at j (n ⊕ 2 ^ k) ≡ bit_at j n
unfolding bit_at
bit_flip j k n apart =
    ap odd (xor-div n (2 ^ k) j) ∙ odd-xor (n / 2 ^ j) (2 ^ k / 2 ^ j) ∙ ap (xor (odd (n / 2 ^ j))) (lone_bit j k apart) ∙ xor-false (odd (n / 2 ^ j))

-- what lies below a place is left by a flip at it or above, what lies at it or above by a flip below
pub low_flip : (j k n : ℕ) → j ≤ k → (n ⊕ 2 ^ k) % 2 ^ j ≡ n % 2 ^ j
low_flip j k n h =
    let there : (k - j) + j ≡ k = omega arith in
    xor_rem n (2 ^ k) j
    ∙ ap (λ (m : ℕ). (n % 2 ^ j) ⊕ m) (ap (λ (m : ℕ). 2 ^ m % 2 ^ j) (sym there) ∙ ap (λ (m : ℕ). m % 2 ^ j) (pow-add 2 (k - j) j) ∙ mul-mod_left (2 ^ (k - j)) (2 ^ j))
    ∙ xor-zero (n % 2 ^ j)

pub high_flip : (j k n : ℕ) → k < j → (n ⊕ 2 ^ k) / 2 ^ j ≡ n / 2 ^ j
high_flip j k n h = xor-div n (2 ^ k) j ∙ ap (λ (m : ℕ). (n / 2 ^ j) ⊕ m) (div-eq_of_lt (pow-lt h)) ∙ xor-zero (n / 2 ^ j)
