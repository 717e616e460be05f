-- What is right leaves nothing: a byte string that ends with its own check, as sealed bytes and a command do, leaves the remainder 0, check
-- and all. Of any number of bytes and their seal nothing is left exactly then.
-- Assumes nothing.
use mathlib.Core.Path.{◌≡◌, sym, ap, ◌∙◌}
use mathlib.Core.Bool.{Bool, true}
use mathlib.Core.List.{List, ◌++◌, append_assoc}
use Prim.Native.Nat.{ℕ, ◌+◌, ◌*◌, ◌/◌, ◌%◌}
use native.Mathlib.Nat.{mod-lt, add-zero, div-add-mod'}
use native.Mathlib.Omega.{arith}
use lib.Dec.{eqb, lit<}
use lib.ListN.{length, take}
use lib.Seq.{length-take-le}
use borrow.Author.Tests.{eqb-true}
use Rattle.laws.specs.Bits.{bits_of, bits_of_bytes, Bytes, number_of}
use Rattle.laws.proofs.Bits.{bits_of-zero}
use Rattle.laws.proofs.Numbers.{bits_join, bits_of_string}
use Rattle.laws.proofs.Tests.{both_first, both_second}
use Rattle.pec.specs.Remainder.{remainder}
use Rattle.pec.specs.Words.{word_at, polynomial15, pec15, command_right, polynomial10, data_pec, sealed_right}
use Rattle.pec.proofs.Remainder.{remainder_append}
use Rattle.pec.proofs.ManyBits.{own_bits, remainder_of_zeros}
use Rattle.pec.proofs.Undone.{nothing_left}
use Rattle.pec.proofs.CheckWords.{ends_10, pec15-below, data_pec-below}
use Rattle.pec.proofs.Messages.{bytes_of-take, word_below, last-two}

-- d bytes and two more
module _ (bytes : List ℕ) (h : Bytes bytes) (d : ℕ) (e : length bytes ≡ d + 2) where
  abbrev word : ℕ
  word = word_at bytes d

  -- the last two are the sixteen bits of a number
  last_word : bits_of_bytes bytes ≡ bits_of_bytes (take d bytes) ++ bits_of 16 word
  last_word =
      let front = length-take-le d bytes (omega arith) in
      sym (bits_of_string (8 * d + 16) bytes h (omega arith))
      ∙ ap (bits_of (8 * d + 16)) (last-two bytes d e)
      ∙ bits_join (8 * d) 16 (number_of (take d bytes)) (word_below bytes h d)
      ∙ ap (λ (bs : List Bool). bs ++ bits_of 16 word) (bits_of_string (8 * d) (take d bytes) (bytes_of-take bytes h d) (omega arith))

  -- sealed: six counter bits, and then the check of all before it
  pub sealed-left : eqb (remainder 10 polynomial10 16 (bits_of_bytes bytes)) 0 ≡ eqb (word % 1024) (data_pec (take d bytes) (word / 1024))
  unfolding data_pec
  sealed-left =
      let before = bits_of_bytes (take d bytes) in
      let six = bits_of 6 (word / 1024) in
      let ten = bits_of 10 (word % 1024) in
      let apart : bits_of 16 word ≡ six ++ ten = ap (bits_of 16) (sym (div-add-mod' word 1024)) ∙ bits_join 6 10 (word / 1024) (mod-lt word (lit< tt)) in
      ap (λ (n : ℕ). eqb n 0)
      (ap (remainder 10 polynomial10 16) (last_word ∙ ap (λ (bs : List Bool). before ++ bs) apart ∙ sym (append_assoc before six ten))
      ∙ remainder_append 10 polynomial10 16 (before ++ six) ten)
      ∙ nothing_left 9 polynomial10 (data_pec (take d bytes) (word / 1024)) (word % 1024) ends_10 (lit< tt) (data_pec-below (take d bytes) (word / 1024)) (mod-lt word (lit< tt))

  -- the check of a command, and one 0 after it
  checked-left : word ≡ pec15 (take d bytes) * 2 → remainder 15 polynomial15 16 (bits_of_bytes bytes) ≡ 0
  unfolding pec15
  checked-left is =
      let check = pec15 (take d bytes) in
      let before = bits_of_bytes (take d bytes) in
      let zero_bit = bits_of 1 0 in
      let apart : bits_of 16 word ≡ bits_of 15 check ++ zero_bit = ap (bits_of 16) (is ∙ sym (add-zero (check * 2))) ∙ bits_join 15 1 check (lit< tt) in
      ap (remainder 15 polynomial15 16) (last_word ∙ ap (λ (bs : List Bool). before ++ bs) apart)
      ∙ remainder_append 15 polynomial15 16 before (bits_of 15 check ++ zero_bit)
      ∙ remainder_append 15 polynomial15 check (bits_of 15 check) zero_bit
      ∙ ap (λ (r : ℕ). remainder 15 polynomial15 r zero_bit) (own_bits 15 polynomial15 (pec15-below (take d bytes)))
      ∙ ap (remainder 15 polynomial15 0) (bits_of-zero 1)
      ∙ remainder_of_zeros 15 polynomial15 1

-- ---- sealed bytes, and a command

pub payload_left : (d : ℕ) (own : List ℕ) → Bytes own → sealed_right d own ≡ true → remainder 10 polynomial10 16 (bits_of_bytes own) ≡ 0
unfolding sealed_right
payload_left d own h right =
    let long : length own ≡ d + 2 = eqb-true (length own) (d + 2) (both_first (eqb (length own) (d + 2)) _ right) in
    eqb-true _ 0 (sealed-left own h d long ∙ both_second (eqb (length own) (d + 2)) _ right)

pub command-left : (four : List ℕ) → Bytes four → command_right four ≡ true → remainder 15 polynomial15 16 (bits_of_bytes four) ≡ 0
unfolding command_right
command-left four h right =
    let long : length four ≡ 4 = eqb-true (length four) 4 (both_first (eqb (length four) 4) _ right) in
    checked-left four h 2 long (eqb-true (word_at four 2) (pec15 (take 2 four) * 2) (both_second (eqb (length four) 4) _ right))
