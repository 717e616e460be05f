-- `check_words::words::command_right` meets its contract: the first two of four bytes are the command, and the last two what is sent of its
-- check.
-- Assumes nothing.
use mathlib.Core.Path.{◌≡◌, sym, ap, ap₂, ◌∙◌}
use mathlib.Core.Bool.{Bool, ◌&&◌}
use mathlib.Core.List.{List}
use Prim.Native.Nat.{ℕ, ◌+◌, ◌*◌}
use native.Mathlib.Omega.{arith}
use lib.Dec.{eqb}
use lib.ListN.{length, get_or, take}
use lib.Seq.{length-take-le}
use borrow.Author.Tests.{eq-eqb}
use Rattle.laws.specs.Bits.{bits_of, Bytes, number_from, number_of}
use Rattle.laws.specs.Tables.{tabulate}
use Rattle.laws.proofs.Tables.{rebuilt}
use Rattle.pec.specs.Remainder.{remainder}
use Rattle.pec.specs.Words.{word_at, polynomial15, pec15, command_right}
use Rattle.pec.proofs.Messages.{bytes_of-take, command-message}
use Rattle.check_words.proofs.words.command_right.Goals as goal

-- the first two bytes as a number
abbrev command : List ℕ → ℕ
command four = get_or four 0 0 * 256 + get_or four 1 0

module _ (four : List ℕ) (h : Bytes four) (e : length four ≡ 4) where
  first : command four ≡ number_of (take 2 four)
  unfolding number_of number_from tabulate
  first = omega arith ∙ ap (λ (l : List ℕ). number_of (take 2 l)) (rebuilt four 4 e)

  check : remainder 15 polynomial15 16 (bits_of 16 (command four)) ≡ pec15 (take 2 four)
  check =
      ap (λ (n : ℕ). remainder 15 polynomial15 16 (bits_of 16 n)) first
      ∙ command-message (take 2 four) (bytes_of-take four h 2) (length-take-le 2 four (omega arith))

pub returns : goal.returns
unfolding command_right word_at
returns c =
    let four = c.args.four.now in
    let long : length four ≡ 4 = omega (arith, c.in-len4.len_at_least, c.in-len4.len_below) in
    ap₂ (λ (x y : ℕ). eqb x (y * 2)) (ap₂ (λ (x y : ℕ). x * 256 + y) c.from.ensures c.from-2.ensures)
    (c.from-3.ensures
    ∙ c.of_command-check.ensures
    ∙ ap (λ (n : ℕ). remainder 15 polynomial15 16 (bits_of 16 n)) c.from_be_bytes.ensures
    ∙ check four (λ i. (c.type_inv.four i).fits) long)
    ∙ sym (ap (λ (b : Bool). b && eqb (word_at four 2) (pec15 (take 2 four) * 2)) (eq-eqb (length four) 4 long))
