-- What the check words are taken over, as numbers: a command is 16 bits, six bytes and the counter are 54, and the last two bytes of a
-- string are the 16 low bits of its number.
-- Assumes nothing.
use mathlib.Core.Path.{◌≡◌, refl, sym, ap, ◌∙◌}
use mathlib.Core.Bool.{Bool}
use mathlib.Core.List.{List, [], ◌∷◌, ◌++◌}
use Prim.Native.Nat.{ℕ, zero, suc, ◌+◌, ◌*◌, ◌<◌}
use native.Mathlib.Numerals.{add-one}
use native.Mathlib.Omega.{arith}
use lib.Dec.{lit<}
use lib.ListN.{length, get_or, take, drop, drop_of_length-le, take-append-drop}
use lib.Seq.{drop-cons, get_or-drop}
use Rattle.laws.specs.Bits.{bits_of, Bytes, number_from, number_of}
use Rattle.laws.proofs.Numbers.{bits_join, bits_of_string, number_append}
use Rattle.pec.specs.Remainder.{remainder}
use Rattle.pec.specs.Words.{two_bytes, word_at, polynomial10, polynomial15, pec15, data_pec}

-- the elements of a part of a byte string are bytes
pub bytes_of-take : (bytes : List ℕ) → Bytes bytes → (j : ℕ) → Bytes (take j bytes)
bytes_of-take bytes h zero i = lit< tt
bytes_of-take [] h (suc j) i = lit< tt
bytes_of-take (b ∷ bs) h (suc j) zero = h 0
bytes_of-take (b ∷ bs) h (suc j) (suc i) = bytes_of-take bs (λ k. h (suc k)) j i

pub bytes_of-drop : (bytes : List ℕ) → Bytes bytes → (j : ℕ) → Bytes (drop j bytes)
bytes_of-drop bytes h j i = rw get_or-drop (h (j + i))

pub word_below : (bytes : List ℕ) → Bytes bytes → (j : ℕ) → word_at bytes j < 65536
unfolding word_at
word_below bytes h j = omega (arith, h j, h (j + 1))

pub last-two : (bytes : List ℕ) (j : ℕ) → length bytes ≡ j + 2 → number_of bytes ≡ number_of (take j bytes) * 65536 + word_at bytes j
unfolding number_of number_from word_at
last-two bytes j e =
    ap (number_from 0) (sym (take-append-drop j bytes))
    ∙ number_append 0 (take j bytes) (drop j bytes)
    ∙ ap (number_from (number_from 0 (take j bytes))) two
    ∙ joined (number_from 0 (take j bytes)) (get_or bytes j 0) (get_or bytes (j + 1) 0)
  where
    two : drop j bytes ≡ get_or bytes j 0 ∷ get_or bytes (j + 1) 0 ∷ []
    two =
        drop-cons bytes j 0 (omega arith)
        ∙ ap (λ (l : List ℕ). get_or bytes j 0 ∷ l)
        (ap (λ (n : ℕ). drop n bytes) (sym (add-one j)) ∙ drop-cons bytes (j + 1) 0 (omega arith)
        ∙ ap (λ (l : List ℕ). get_or bytes (j + 1) 0 ∷ l) (drop_of_length-le bytes {i = suc (j + 1)} (omega arith)))

    joined : (n x y : ℕ) → (n * 256 + x) * 256 + y ≡ n * 65536 + (x * 256 + y)
    joined n x y = omega arith

pub command-message : (two : List ℕ) → Bytes two → length two ≡ 2
    → remainder 15 polynomial15 16 (bits_of 16 (number_of two)) ≡ pec15 two
unfolding pec15
command-message two h e = ap (remainder 15 polynomial15 16) (bits_of_string 16 two h (omega arith))

pub data_message : (six : List ℕ) (counter : ℕ) → Bytes six → length six ≡ 6 → counter < 64
    → remainder 10 polynomial10 16 (bits_of 54 (number_of six * 64 + counter)) ≡ data_pec six counter
unfolding data_pec
data_message six counter h e few =
    ap (remainder 10 polynomial10 16)
    (bits_join 48 6 (number_of six) few ∙ ap (λ (bs : List Bool). bs ++ bits_of 6 counter) (bits_of_string 48 six h (omega arith)))

-- a command's code and its two bytes are one message
module _ (code : ℕ) where
  number_of-two : number_of (two_bytes code) ≡ code
  unfolding number_of number_from two_bytes
  number_of-two = omega arith

  two : length (two_bytes code) ≡ 2
  unfolding two_bytes
  two = refl

  bytes_of-two : code < 65536 → Bytes (two_bytes code)
  unfolding two_bytes
  bytes_of-two h zero = omega arith
  bytes_of-two h (suc zero) = omega arith
  bytes_of-two h (suc (suc i)) = lit< tt

  pub code-message : code < 65536 → remainder 15 polynomial15 16 (bits_of 16 code) ≡ pec15 (two_bytes code)
  code-message h =
      ap (λ (n : ℕ). remainder 15 polynomial15 16 (bits_of 16 n)) (sym number_of-two) ∙ command-message (two_bytes code) (bytes_of-two h) two
