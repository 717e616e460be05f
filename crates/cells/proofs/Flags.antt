-- The flags of cells: two bits for each, and what a comparison raises is what the record's thresholds and codes say.
-- Assumes nothing.
use mathlib.Core.Path.{◌≡◌, refl, sym, ap, ap₂, ◌∙◌, subst⁻¹}
use mathlib.Core.Bool.{Bool, true, false, cond}
use mathlib.Core.List.{List}
use Prim.Native.Nat.{ℕ, zero, suc, ◌+◌, ◌*◌, ◌^◌, ◌%◌, ◌≤◌, ◌<◌}
use native.Mathlib.Nat.{add-zero}
use native.Mathlib.Numerals.{add-one}
use native.Mathlib.Omega.{arith}
use lib.IntN.{ℤ, pos, negsuc}
use lib.Signed.{lt_z}
use borrow.Author.Tests.{eq-eqb, eqb-true}
use mir.Val.{bool_byte}
use Rattle.std.specs.Ordering.{is_lt, int_cmp, int_eq}
use Rattle.std.proofs.Common.{Less, Equal, Greater}
use Rattle.std.proofs.lemmas.Bool.Decides.{same_from_decides, Decides-int_eq}
use Rattle.records.specs.Record.{configuration_b, cells, flags, bytes_of, byte_in, anew}
use Rattle.records.proofs.Parts.{before-anew}
use Rattle.thresholds.specs.Thresholds.{lower, upper, vuv, vov, codes_of}
use Rattle.cells.specs.Cells.{code_in, code_at, is_cleared, flags_for, flags_of, flag_byte}

-- ---- two flags as a number

-- a test as a bit that counts n
pub bit_worth : (b : Bool) (n : ℕ) → bool_byte b * n ≡ cond b n 0
bit_worth true n = omega arith
bit_worth false n = omega arith

pub bit_worth_one : (b : Bool) → bool_byte b ≡ cond b 1 0
bit_worth_one true = refl
bit_worth_one false = refl

at_most_three : (s a b : Bool) → cond s 0 (cond a 1 0 + cond b 2 0) ≤ 3
at_most_three true a b = omega arith
at_most_three false true true = omega arith
at_most_three false true false = omega arith
at_most_three false false true = omega arith
at_most_three false false false = omega arith

pub flags-at_most_three : (r : List ℕ) (c : ℕ) → flags_of r c ≤ 3
unfolding flags_of flags_for
flags-at_most_three r c =
    at_most_three (is_cleared (code_at r c).0) (lt_z (code_at r c).0 (codes_of (vuv r)).0) (lt_z (codes_of (vov r)).0 (code_at r c).0)

-- ---- those of four cells, one cell after the other

-- of the first k of the four
unfoldable pub first_flags : List ℕ → ℕ → ℕ → ℕ
first_flags r j zero = 0
first_flags r j (suc k) = first_flags r j k + flags_of r (4 * j + k) * 2 ^ (2 * k)

-- a sum of two bits for each
room : (k sum own : ℕ) → k < 4 → own ≤ 3 → sum < 2 ^ (2 * k)
    → (own * 2 ^ (2 * k) % 256 ≡ own * 2 ^ (2 * k)) × (sum + own * 2 ^ (2 * k) < 2 ^ (2 * (k + 1))) × (sum + own * 2 ^ (2 * k) < 256)
room zero sum own h few s = (omega arith, omega arith, omega arith)
room (suc zero) sum own h few s = (omega arith, omega arith, omega arith)
room (suc (suc zero)) sum own h few s = (omega arith, omega arith, omega arith)
room (suc (suc (suc zero))) sum own h few s = (omega arith, omega arith, omega arith)
room (suc (suc (suc (suc k)))) sum own h few s = absurd (omega arith)

module _ (r : List ℕ) (j : ℕ) where
  pub next_flags : {k sum own : ℕ} → k < 4 → own ≡ flags_of r (4 * j + k) → sum ≡ first_flags r j k → sum < 2 ^ (2 * k)
      → (sum + own * 2 ^ (2 * k) % 256 ≡ first_flags r j (k + 1)) × (sum + own * 2 ^ (2 * k) % 256 < 2 ^ (2 * (k + 1))) × (sum + own * 2 ^ (2 * k) % 256 < 256)
  unfolding first_flags
  next_flags {k} {sum} {own} h o s small =
      let few : own ≤ 3 = subst⁻¹ (λ (n : ℕ). n ≤ 3) o (flags-at_most_three r (4 * j + k)) in
      let fit = room k sum own h few small in (
        ap (λ (n : ℕ). sum + n) fit.0 ∙ ap₂ (λ (m n : ℕ). m + n * 2 ^ (2 * k)) s o ∙ sym (ap (first_flags r j) (add-one k)),
        omega (arith, fit.0, fit.1),
        omega (arith, fit.0, fit.2),
      )

  pub all_flags : first_flags r j 4 ≡ flag_byte r j
  unfolding first_flags flag_byte
  all_flags = omega (arith, ap (flags_of r) (add-zero (4 * j)))

-- ---- the tests of codes, as the library makes them

pub less_is : (x y : ℤ) → is_lt (int_cmp x y) ≡ lt_z x y
less_is x y = by (lt_z x y) (lt_z y x)
  where
    by : (less greater : Bool) → is_lt (cond less Less (cond greater Greater Equal)) ≡ less
    by true greater = refl
    by false true = refl
    by false false = refl

pub cleared_is : (z : ℤ) → int_eq z (negsuc 32767) ≡ is_cleared z
unfolding is_cleared
cleared_is (pos n) = refl
cleared_is (negsuc n) =
    same_from_decides _ _ (Decides-int_eq (negsuc n) (negsuc 32767)) (λ e. ap negsuc (eqb-true n 32767 e), λ e. eq-eqb n 32767 (cc))

-- ---- what is raised depends on configuration B and the cells alone, which the flags' own bytes are no part of

module _ (r s : List ℕ) (same-b : bytes_of configuration_b r ≡ bytes_of configuration_b s) (same-cells : bytes_of cells r ≡ bytes_of cells s) where
  pub flags_of-same : (c : ℕ) → flags_of r c ≡ flags_of s c
  unfolding flags_of code_at code_in vuv vov lower upper byte_in
  flags_of-same c = rw (same-b, same-cells)

  pub flag_byte-same : (j : ℕ) → flag_byte r j ≡ flag_byte s j
  unfolding flag_byte
  flag_byte-same j = simp flags_of-same

pub flag_byte_stays : (f : ℕ → ℕ → ℕ) (n : ℕ) (r : List ℕ) (j : ℕ) → flag_byte (anew f flags.at n r) j ≡ flag_byte r j
flag_byte_stays f n r j =
    flag_byte-same (anew f flags.at n r) r (before-anew configuration_b f flags.at n r (omega arith)) (before-anew cells f flags.at n r (omega arith)) j
