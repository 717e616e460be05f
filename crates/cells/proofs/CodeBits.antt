-- The 16 bits of a code, and its two bytes: they are those that the machine has of it.
-- Assumes nothing.
use mathlib.Core.Path.{◌≡◌, refl, sym, ap, ap₂, ◌∙◌}
use mathlib.Core.Bool.{cond}
use mathlib.Core.List.{List}
use Prim.Native.Nat.{ℕ, ◌+◌, ◌*◌, ◌/◌, ◌%◌, ◌<◌}
use native.Mathlib.Omega.{arith}
use lib.Dec.{eqb}
use lib.IntN.{ℤ, pos, negsuc}
use lib.ListN.{get_or}
use mir.Syntax.{w16}
use mir.Val.{SFits, to_z, of_z}
use mir.Facts.{to_z-of_z}
use Rattle.cells.specs.Cells.{word, code_byte}

word_below : (z : ℤ) → SFits w16 z → word z < 65536
unfolding word
word_below (pos n) f = omega arith
word_below (negsuc n) f = omega arith

word_of_bits : (z : ℤ) → of_z w16 z ≡ word z
unfolding word
word_of_bits (pos n) = refl
word_of_bits (negsuc n) = omega arith

module _ (codes : List ℤ) (c : ℕ) where
  abbrev pub given : ℤ
  given = get_or codes c (pos 0)

  pub low_byte : code_byte codes (2 * c) ≡ word given % 256
  unfolding code_byte
  low_byte =
      let even : 2 * c % 2 ≡ 0 = omega arith in
      let half : 2 * c / 2 ≡ c = omega arith in
      ap₂ (λ (rest at : ℕ). cond (eqb rest 0) (word (get_or codes at (pos 0)) % 256) (word (get_or codes at (pos 0)) / 256)) even half

  pub high_byte : code_byte codes (2 * c + 1) ≡ word given / 256
  unfolding code_byte
  high_byte =
      let odd : (2 * c + 1) % 2 ≡ 1 = omega arith in
      let half : (2 * c + 1) / 2 ≡ c = omega arith in
      ap₂ (λ (rest at : ℕ). cond (eqb rest 0) (word (get_or codes at (pos 0)) % 256) (word (get_or codes at (pos 0)) / 256)) odd half

  -- as the library's `to_le_bytes` writes them, of a code that the machine reads back
  module _ (fits : SFits w16 given) where
    bits : of_z w16 (to_z w16 (of_z w16 given)) ≡ word given
    bits = ap (of_z w16) (to_z-of_z fits) ∙ word_of_bits given

    pub low_written : of_z w16 (to_z w16 (of_z w16 given)) % 256 ≡ code_byte codes (2 * c)
    low_written = ap (λ (n : ℕ). n % 256) bits ∙ sym low_byte

    pub high_written : of_z w16 (to_z w16 (of_z w16 given)) / 256 % 256 ≡ code_byte codes (2 * c + 1)
    high_written =
        let one : word given / 256 % 256 ≡ word given / 256 = omega (arith, word_below given fits) in
        ap (λ (n : ℕ). n / 256 % 256) bits ∙ one ∙ sym high_byte
