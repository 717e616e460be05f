-- A heartbeat's head is four known bytes. A message is these, and behind them two bytes and their seal.
-- Assumes nothing.
use mathlib.Core.Path.{◌≡◌, refl, sym, ap, ap₂, ◌∙◌}
use mathlib.Core.Bool.{Bool, true, false, xor, ◌&&◌}
use mathlib.Core.List.{List, [], ◌∷◌}
use Prim.Native.Nat.{ℕ, ◌+◌, ◌/◌, ◌%◌}
use native.Mathlib.Omega.{arith}
use lib.Dec.{eqb}
use lib.ListN.{length, take, drop}
use lib.Pointwise.{pointwise}
use Rattle.laws.specs.Bits.{◌⊕◌, odd, bits_of, bits_of_bytes}
use Rattle.laws.specs.Counts.{same}
use Rattle.pec.specs.Remainder.{once, step, remainder}
use Rattle.laws.proofs.Tests.{same_test}
use Rattle.pec.specs.Words.{two_bytes, word_at, pec15, command_check, data_pec, sealed_right}
use Rattle.messages.specs.Messages.{message_size, message_head, message_right}

pub head : message_head ≡ 0x00 ∷ 0x43 ∷ 0x47 ∷ 0xB2 ∷ []
unfolding message_head two_bytes command_check pec15 remainder step once bits_of_bytes bits_of odd ◌⊕◌ xor
head = refl

-- the library compares two lists of numbers as the definition does
pointwise_same : (xs ys : List ℕ) → pointwise eqb xs ys ≡ same xs ys
unfolding same
pointwise_same [] [] = refl
pointwise_same [] (y ∷ ys) = refl
pointwise_same (x ∷ xs) [] = refl
pointwise_same (x ∷ xs) (y ∷ ys) = ap (λ (t : Bool). eqb x y && t) (pointwise_same xs ys)

-- the head as the code has it
abbrev pub head_bytes : List ℕ
head_bytes = 0x00 ∷ 0x43 ∷ 0x47 ∷ 0xB2 ∷ []

headed : (bytes : List ℕ) {answer : Bool} → pointwise eqb (take 4 bytes) head_bytes ≡ answer → same (take 4 bytes) message_head ≡ answer
headed bytes h = ap (same (take 4 bytes)) head ∙ sym (pointwise_same (take 4 bytes) head_bytes) ∙ h

-- bytes that do not begin with the head are no message
pub headless : (bytes : List ℕ) → pointwise eqb (take 4 bytes) head_bytes ≡ false → message_right bytes ≡ false
unfolding message_right
headless bytes h =
    ap (λ (t : Bool). eqb (length bytes) message_size && t && sealed_right 2 (drop 4 bytes)) (headed bytes h)
    ∙ none (eqb (length bytes) message_size) (sealed_right 2 (drop 4 bytes))
  where
    none : (a b : Bool) → a && false && b ≡ false
    none true b = refl
    none false b = refl

-- bytes that do are one where those behind it are two and their seal, and so as many as a message has
module _ (bytes own : List ℕ) (behind : own ≡ drop 4 bytes) (long : length own + 4 ≡ length bytes) where
  as_long : eqb (length bytes) message_size ≡ eqb (length own) (2 + 2)
  as_long = same_test (length bytes) message_size (length own) (2 + 2) (λ e. omega arith) (λ e. omega arith)

  twice : (a b : Bool) → a && true && (a && b) ≡ a && b
  twice true b = refl
  twice false b = refl

  pub headed_right : pointwise eqb (take 4 bytes) head_bytes ≡ true → message_right bytes ≡ sealed_right 2 own
  unfolding message_right sealed_right
  headed_right h =
      ap₂ (λ (t : Bool) (l : List ℕ). eqb (length bytes) message_size && t && sealed_right 2 l) (headed bytes h) (sym behind)
      ∙ ap (λ (t : Bool). t && true && sealed_right 2 own) as_long
      ∙ twice (eqb (length own) (2 + 2)) (eqb (word_at own 2 % 1024) (data_pec (take 2 own) (word_at own 2 / 1024)))
