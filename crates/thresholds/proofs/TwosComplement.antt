-- Two's complement: a number of k bits whose first bit is 1 stands for itself less 2^k. Of two bytes, as the library reads them; of the first
-- 12 of their bits, as a shift leaves them. And what the machine reads back from the bits of a number that fits is that number.
-- Assumes nothing.
use mathlib.Core.Path.{◌≡◌, refl, sym, ap, ◌∙◌, subst⁻¹}
use mathlib.Core.Bool.{Bool, true, false, cond}
use Prim.Native.Nat.{ℕ, suc, ◌+◌, ◌-◌, ◌/◌, ◌*◌, ◌^◌, ◌≤◌, ◌<◌}
use native.Mathlib.Omega.{arith}
use lib.Dec.{T, leb, ltb}
use lib.IntN.{ℤ, pos, negsuc, ◌+ℤ◌}
use lib.Signed.{shr_z, mag_shr}
use borrow.Author.Tests.{lt-ltb, le-ltb, ltb-true, ltb-false}
use mir.Syntax.{Width, w16}
use mir.Val.{hbits, SFits, sel, to_z, of_z}
use mir.Facts.{sfits_widen, sfits_to_z, to_z-of_z, of_z-to_z, to_z_pos}
use Rattle.thresholds.specs.Thresholds.{signed}

-- ---- k bits

pub signed_low : (k : ℕ) {n : ℕ} → n < 2 ^ (k - 1) → signed k n ≡ pos n
unfolding signed
signed_low k {n} h = ap (λ (b : Bool). cond b (pos n) (negsuc (2 ^ k - suc n))) (lt-ltb n (2 ^ (k - 1)) h)

pub signed_high : (k : ℕ) {n : ℕ} → 2 ^ (k - 1) ≤ n → signed k n ≡ negsuc (2 ^ k - suc n)
unfolding signed
signed_high k {n} h = ap (λ (b : Bool). cond b (pos n) (negsuc (2 ^ k - suc n))) (le-ltb n (2 ^ (k - 1)) h)

-- a number with a larger one taken away, in a word of w
pub taken_away : (w : Width) {n m : ℕ} → n < 2 ^ hbits w → n ≤ m → to_z w n +ℤ negsuc m ≡ negsuc (suc m - suc n)
taken_away w {n} {m} fits h =
    ap (λ (z : ℤ). z +ℤ negsuc m) (to_z_pos w fits)
    ∙ ap (λ (b : Bool). cond b (negsuc (suc m - suc n)) (pos (n - suc m))) (lt-ltb n (suc m) (omega arith))

-- ---- two bytes as a word of 16 bits, low byte first

-- the word that the library reads
pub word_read : {low high : ℕ} {z : ℤ} → low < 256 → high < 256 → z ≡ to_z w16 (low + high * 256) → of_z w16 z ≡ low + high * 256
word_read f g e = ap (of_z w16) e ∙ of_z-to_z {w = w16} (record { fits = omega arith })

pub word_signed : (n : ℕ) → to_z w16 n ≡ signed 16 n
unfolding signed
word_signed n = by (ltb n 32768)
  where
    by : (low : Bool) → sel low (pos n) (negsuc (65536 - suc n)) ≡ cond low (pos n) (negsuc (65536 - suc n))
    by true = refl
    by false = refl

-- its first 12 bits, by a shift that copies the first of them
pub twelve_read : {n m : ℕ} → n < 65536 → m ≡ n / 16 → to_z w16 (of_z w16 (shr_z (to_z w16 n) 16)) ≡ signed 12 m
twelve_read {n} {m} h e =
    let whole : SFits w16 (to_z w16 n) = sfits_to_z (record { fits = h }) in
    to_z-of_z {w = w16} (record { sfits = omega (arith, mag_shr (to_z w16 n) 16, whole.sfits) }) ∙ by (ltb n 32768) refl
  where
    by : (low : Bool) → ltb n 32768 ≡ low → shr_z (sel low (pos n) (negsuc (65536 - suc n))) 16 ≡ signed 12 m
    by true l = let same : n / 16 ≡ m = omega arith in ap pos same ∙ sym (signed_low 12 (omega (arith, ltb-true n 32768 l)))
    by false l =
        let same : (65536 - suc n) / 16 ≡ 4096 - suc m = omega (arith, ltb-false n 32768 l) in
        ap negsuc same ∙ sym (signed_high 12 (omega (arith, ltb-false n 32768 l)))

-- ---- words of other widths

-- a number of w bits, read, and written in a word of v
module _ {w : Width} (v : Width) {z : ℤ} (wider : T (leb (hbits w) (hbits v))) (fits : SFits w z) where
  pub widens : SFits v (to_z w (of_z w z))
  widens = subst⁻¹ (SFits v) (to_z-of_z fits) (sfits_widen wider fits)

  pub widened : to_z v (of_z v (to_z w (of_z w z))) ≡ z
  widened = ap (λ (y : ℤ). to_z v (of_z v y)) (to_z-of_z fits) ∙ to_z-of_z (sfits_widen wider fits)
