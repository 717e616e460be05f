-- What the machine's shifts give where nothing is lost.
-- Assumes nothing.
use mathlib.Core.Path.{◌≡◌, ap, ◌∙◌, subst⁻¹}
use Prim.Native.Nat.{ℕ, ◌+◌, ◌*◌, ◌%◌, ◌^◌, ◌≤◌, ◌<◌}
use native.Mathlib.Nat.{one-mul, mod-eq_of_lt, lt_of_lt_of_le, div-lt_iff_lt-mul}
use lib.Pow.{pow_pos, pow-add, pow-lt, pow_mono, shl_lt, high}

-- `1 << w` in a word of n bits
pub power : (n : ℕ) {w : ℕ} → w < n → 1 * 2 ^ w % 2 ^ n ≡ 2 ^ w
power n {w} h = ap (λ (x : ℕ). x % 2 ^ n) (one-mul (2 ^ w)) ∙ mod-eq_of_lt (pow-lt h)

-- a number of w bits moved up k places, in a word of n bits
pub up_fits : (w k n : ℕ) {r : ℕ} → w + k ≤ n → r < 2 ^ w → r * 2 ^ k < 2 ^ n
up_fits w k n h hr = lt_of_lt_of_le (shl_lt w k hr) (pow_mono h)

-- and k bits behind it
pub join_below : (w k : ℕ) {a b : ℕ} → a < 2 ^ w → b < 2 ^ k → a * 2 ^ k + b < 2 ^ (w + k)
join_below w k {a} {b} ha hb =
    subst⁻¹ (λ (x : ℕ). a * 2 ^ k + b < x) (pow-add 2 w k)
    ((div-lt_iff_lt-mul (pow_pos k)).0 (subst⁻¹ (λ (x : ℕ). x < 2 ^ w) (high a k hb) ha))
