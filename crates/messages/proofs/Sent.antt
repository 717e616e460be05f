-- What is right of a message, part by part; and of one that is sent: it has eight bytes, is right, and shows its count and its flags.
-- Assumes nothing.
use mathlib.Core.Path.{◌≡◌, refl, sym, ap, ap₂, ◌∙◌}
use mathlib.Core.Bool.{true, ◌&&◌}
use mathlib.Core.List.{List, [], ◌∷◌, ◌++◌}
use Prim.Native.Nat.{ℕ}
use lib.Dec.{eqb}
use lib.ListN.{length, take, drop}
use borrow.Author.Tests.{eq-eqb, eqb-true}
use Rattle.laws.specs.Counts.{same}
use Rattle.laws.proofs.Same.{are_same, same_are}
use Rattle.laws.proofs.Tests.{both_first, both_second}
use Rattle.pec.specs.Words.{two_bytes, seal, sealed_right}
use Rattle.pec.proofs.CheckWords.{own-right}
use Rattle.messages.specs.Messages.{message_head, message_size, message, count_in, flags_in, message_right}
use Rattle.messages.proofs.Heads.{head}

-- ---- a right message's parts

module _ (bytes : List ℕ) where
  pub right-long : message_right bytes ≡ true → length bytes ≡ message_size
  unfolding message_right
  right-long h =
      let tests = both_first (eqb (length bytes) message_size && same (take 4 bytes) message_head) (sealed_right 2 (drop 4 bytes)) h in
      eqb-true (length bytes) message_size (both_first (eqb (length bytes) message_size) (same (take 4 bytes) message_head) tests)

  pub right-head : message_right bytes ≡ true → take 4 bytes ≡ message_head
  unfolding message_right
  right-head h =
      let tests = both_first (eqb (length bytes) message_size && same (take 4 bytes) message_head) (sealed_right 2 (drop 4 bytes)) h in
      same_are (take 4 bytes) message_head (both_second (eqb (length bytes) message_size) (same (take 4 bytes) message_head) tests)

  pub right-own : message_right bytes ≡ true → sealed_right 2 (drop 4 bytes) ≡ true
  unfolding message_right
  right-own h = both_second (eqb (length bytes) message_size && same (take 4 bytes) message_head) (sealed_right 2 (drop 4 bytes)) h

  -- and it is right where they are
  pub right_of_parts : length bytes ≡ message_size → take 4 bytes ≡ message_head → sealed_right 2 (drop 4 bytes) ≡ true → message_right bytes ≡ true
  unfolding message_right
  right_of_parts e h s = ap₂ ◌&&◌ (ap₂ ◌&&◌ (eq-eqb (length bytes) message_size e) (are_same h)) s

-- ---- one that is sent

module _ (count flags : ℕ) where
  abbrev own : List ℕ
  own = (count ∷ flags ∷ []) ++ seal (count ∷ flags ∷ []) 0

  pub message-bytes : message count flags ≡ 0x00 ∷ 0x43 ∷ 0x47 ∷ 0xB2 ∷ own
  unfolding message
  message-bytes = ap (λ (l : List ℕ). l ++ (count ∷ flags ∷ []) ++ seal (count ∷ flags ∷ []) 0) head

  pub message-long : length (message count flags) ≡ message_size
  unfolding seal two_bytes
  message-long = ap length message-bytes

  pub message-right : message_right (message count flags) ≡ true
  message-right =
      right_of_parts (message count flags) message-long (ap (take 4) message-bytes ∙ sym head)
      (ap (λ (l : List ℕ). sealed_right 2 (drop 4 l)) message-bytes ∙ own-right (count ∷ flags ∷ []) 0 2 refl)

  pub message-count : count_in (message count flags) ≡ count
  unfolding count_in
  message-count = ap count_in message-bytes

  pub message-flags : flags_in (message count flags) ≡ flags
  unfolding flags_in
  message-flags = ap flags_in message-bytes
