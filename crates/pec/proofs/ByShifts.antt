-- A remainder by shifts. Two linear functions that agree at each power of 2 below 2^k agree at every number of k bits; shifts, sums
-- and the remainder itself are linear, so that one computed test at the k powers shows a formula right for every message. The
-- remainder of each power is that of the one before it, and a zero bit more. Once over the width.
-- Assumes nothing.
use mathlib.Core.Path.{◌≡◌, refl, sym, ap, ap₂, ◌∙◌}
use mathlib.Core.Bool.{true, false}
use mathlib.Core.List.{List, [], ◌∷◌}
use Prim.Native.Nat.{ℕ, zero, suc, ◌+◌, ◌-◌, ◌*◌, ◌/◌, ◌%◌, ◌^◌, ◌<◌}
use native.Mathlib.Nat.{mod-lt, add-zero, zero-add, zero-mul, one-mul, div-add-mod', div-lt_iff_lt-mul}
use native.Mathlib.Omega.{arith}
use lib.Pow.{pow_pos, pow-lt}
use lib.ListN.{get_or, replicate}
use Rattle.laws.specs.Bits.{◌⊕◌, odd, bits_of}
use Rattle.laws.specs.Tables.{tabulate}
use Rattle.laws.proofs.Bits.{bits_top, bits_of-zero}
use Rattle.laws.proofs.Tables.{at_each}
use Rattle.laws.proofs.Xor.{zero_xor, xor-zero, xor_same, xor-div, xor_rem, xor-middle, xor_blocks, xor_shift}
use Rattle.pec.specs.Remainder.{step, remainder}
use Rattle.pec.specs.ByShifts.{with_moved, times_one}
use Rattle.pec.proofs.Remainder.{remainder_bits_linear}
use Rattle.pec.proofs.ManyBits.{zeros_first}

-- ---- linear functions

pub record Linear (f : ℕ → ℕ) : Type 0 where
  pub adds : (a b : ℕ) → f (a ⊕ b) ≡ f a ⊕ f b

module _ {f : ℕ → ℕ} (l : Linear f) where
  at_zero : f 0 ≡ 0
  at_zero = ap f (sym (xor_same 0)) ∙ l.adds 0 0 ∙ xor_same (f 0)

  pub then_linear : {h : ℕ → ℕ} → Linear h → Linear (λ (x : ℕ). h (f x))
  then_linear {h} m = record { adds = λ a b. ap h (l.adds a b) ∙ m.adds (f a) (f b) }

-- the bit above the k low ones, and those
top_and_low : (k x : ℕ) → x ≡ (x / 2 ^ k * 2 ^ k) ⊕ (x % 2 ^ k)
top_and_low k x =
    let t = x / 2 ^ k in
    sym (div-add-mod' x (2 ^ k))
    ∙ sym (ap₂ ◌⊕◌ (sym (add-zero (t * 2 ^ k))) (sym (zero-add (x % 2 ^ k)) ∙ ap (λ (n : ℕ). n + x % 2 ^ k) (sym (zero-mul (2 ^ k))))
    ∙ xor_blocks k t 0 (pow_pos k) (mod-lt x (pow_pos k))
    ∙ ap₂ (λ (a b : ℕ). a * 2 ^ k + b) (xor-zero t) (zero_xor (x % 2 ^ k)))

module _ {f h : ℕ → ℕ} (l : Linear f) (m : Linear h) where
  at_bit : (k t : ℕ) → t < 2 → f (2 ^ k) ≡ h (2 ^ k) → f (t * 2 ^ k) ≡ h (t * 2 ^ k)
  at_bit k zero b e = ap f (zero-mul (2 ^ k)) ∙ at_zero l ∙ sym (at_zero m) ∙ ap h (sym (zero-mul (2 ^ k)))
  at_bit k (suc zero) b e = ap f (one-mul (2 ^ k)) ∙ e ∙ ap h (sym (one-mul (2 ^ k)))
  at_bit k (suc (suc t)) b e = absurd (omega arith)

  pub agree : (k : ℕ) → ((j : ℕ) → j < k → f (2 ^ j) ≡ h (2 ^ j)) → {x : ℕ} → x < 2 ^ k → f x ≡ h x
  agree zero e {x} b =
      let none : x ≡ 0 = omega arith in
      ap f none ∙ at_zero l ∙ sym (at_zero m) ∙ ap h (sym none)
  agree (suc k) e {x} b =
      let t = x / 2 ^ k in
      let y = x % 2 ^ k in
      ap f (top_and_low k x)
      ∙ l.adds (t * 2 ^ k) y
      ∙ ap₂ ◌⊕◌ (at_bit k t ((div-lt_iff_lt-mul (pow_pos k)).1 (omega (arith, b))) (e k (omega arith))) (agree k (λ j i. e j (omega arith)) (mod-lt x (pow_pos k)))
      ∙ sym (ap h (top_and_low k x) ∙ m.adds (t * 2 ^ k) y)

-- ---- shifts and sums are linear

pub same : Linear (λ (x : ℕ). x)
same = record { adds = λ a b. refl }

pub sum : {f h : ℕ → ℕ} → Linear f → Linear h → Linear (λ (x : ℕ). f x ⊕ h x)
sum {f} {h} l m = record { adds = λ a b. ap₂ ◌⊕◌ (l.adds a b) (m.adds a b) ∙ xor-middle (f a) (f b) (h a) (h b) }

pub down : (s : ℕ) → Linear (λ (x : ℕ). x / 2 ^ s)
down s = record { adds = λ a b. xor-div a b s }

pub up : (s : ℕ) → Linear (λ (x : ℕ). x * 2 ^ s)
up s = record { adds = λ a b. sym (xor_shift s a b) }

pub low : (w : ℕ) → Linear (λ (x : ℕ). x % 2 ^ w)
low w = record { adds = λ a b. xor_rem a b w }

-- a, and x moved by each of these places, all added
unfoldable pub sums : (ℕ → ℕ → ℕ) → ℕ → List ℕ → ℕ → ℕ
sums move a [] x = a
sums move a (s ∷ ss) x = sums move (a ⊕ move s x) ss x

sums_linear : (move : ℕ → ℕ → ℕ) → ((s : ℕ) → Linear (move s)) → (ss : List ℕ) (a b x y : ℕ)
    → sums move (a ⊕ b) ss (x ⊕ y) ≡ sums move a ss x ⊕ sums move b ss y
unfolding sums
sums_linear move l [] a b x y = refl
sums_linear move l (s ∷ ss) a b x y =
    ap (λ (n : ℕ). sums move n ss (x ⊕ y)) (ap (λ (n : ℕ). a ⊕ b ⊕ n) ((l s).adds x y) ∙ xor-middle a b (move s x) (move s y))
    ∙ sums_linear move l ss (a ⊕ move s x) (b ⊕ move s y) x y

pub moved_sum : (move : ℕ → ℕ → ℕ) → ((s : ℕ) → Linear (move s)) → (ss : List ℕ) → Linear (λ (x : ℕ). sums move x ss x)
moved_sum move l ss = record { adds = λ a b. sums_linear move l ss a b a b }

pub times_linear : (k : ℕ) → Linear (times_one k)
unfolding times_one with_moved
times_linear k =
    let with : (s : ℕ) → Linear (with_moved s) = λ s. sum same (down s) in
    sum (with (3 * k)) (then_linear (then_linear (down (7 * k)) (with k)) (with (2 * k)))

-- ---- the law

-- the remainders of the powers of 2 in turn: each has one zero more behind its one
unfoldable pub powers : ℕ → ℕ → ℕ → ℕ → List ℕ
powers w g r zero = []
powers w g r (suc k) = r ∷ powers w g (step w g r false) k

power_at : (w g r k j : ℕ) → j < k → get_or (powers w g r k) j 0 ≡ remainder w g r (replicate j false)
unfolding powers remainder
power_at w g r zero j h = absurd (omega arith)
power_at w g r (suc k) zero h = refl
power_at w g r (suc k) (suc j) h = power_at w g (step w g r false) k j (omega arith)

one_bit : (w g k j : ℕ) → j < k → remainder w g 0 (bits_of k (2 ^ j)) ≡ remainder w g (step w g 0 true) (replicate j false)
unfolding remainder odd
one_bit w g k j h =
    let apart : (k - suc j) + suc j ≡ k = omega arith in
    let one : 2 ^ j ≡ 1 * 2 ^ j + 0 = omega arith in
    ap (λ (n : ℕ). remainder w g 0 (bits_of n (2 ^ j))) (sym apart)
    ∙ zeros_first w g (k - suc j) (suc j) (pow-lt (omega arith))
    ∙ ap (λ (n : ℕ). remainder w g 0 (bits_of (suc j) n)) one
    ∙ ap (remainder w g 0) (bits_top j 1 (pow_pos j))
    ∙ ap (remainder w g (step w g 0 true)) (bits_of-zero j)

module _ (w g k : ℕ) (f : ℕ → ℕ) where
  -- the formula and the remainder, at each power of 2 in turn
  unfoldable pub formula : List ℕ
  formula = tabulate (λ (j : ℕ). f (2 ^ j)) 0 k

  unfoldable pub rule : List ℕ
  rule = powers w g (step w g 0 true) k

  pub by_shifts : Linear f → formula ≡ rule → {x : ℕ} → x < 2 ^ k → f x ≡ remainder w g 0 (bits_of k x)
  unfolding formula rule
  by_shifts l e h = agree l rest k at h
    where
      rest : Linear (λ (x : ℕ). remainder w g 0 (bits_of k x))
      rest = record { adds = λ a b. ap (λ (s : ℕ). remainder w g s (bits_of k (a ⊕ b))) (sym (xor-zero 0)) ∙ remainder_bits_linear w g 0 0 k a b }

      at : (j : ℕ) → j < k → f (2 ^ j) ≡ remainder w g 0 (bits_of k (2 ^ j))
      at j b =
          sym (at_each (λ (i : ℕ). f (2 ^ i)) k j b)
          ∙ ap (λ (t : List ℕ). get_or t j 0) e
          ∙ power_at w g (step w g 0 true) k j b
          ∙ sym (one_bit w g k j b)
