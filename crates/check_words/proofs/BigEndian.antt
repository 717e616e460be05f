-- Bytes as the machine's number, the high byte first: the library's number of a byte string is the definition's, and the bytes that it makes
-- of six bytes' number, their counter and their check are the sealed six.
-- Assumes nothing.
use mathlib.Core.Path.{◌≡◌, sym, ap, ◌∙◌}
use mathlib.Core.List.{List, [], ◌∷◌, ◌++◌}
use Prim.Native.Nat.{ℕ, zero, suc, ◌+◌, ◌*◌, ◌/◌, ◌%◌, ◌^◌, ◌<◌}
use native.Mathlib.Nat.{mod-lt}
use native.Mathlib.Omega.{arith}
use lib.Dec.{lit<}
use lib.ListN.{length, length-append, get_or}
use Rattle.std.specs.Int.{w16, w32, w64, to_be_bytes, from_be_bytes}
use Rattle.std.proofs.lemmas.Nat.{be_bytes_8}
use Rattle.laws.specs.Bits.{bits_of, Bytes, number_from, number_of}
use Rattle.laws.specs.Tables.{tabulate}
use Rattle.laws.proofs.Tables.{rebuilt}
use Rattle.laws.proofs.Numbers.{number_append, number-from}
use Rattle.pec.specs.Remainder.{remainder}
use Rattle.pec.specs.Words.{polynomial10, two_bytes, data_pec, seal}
use Rattle.pec.proofs.CheckWords.{data_pec-below, counter_bits}
use Rattle.pec.proofs.Lead.{lead}
use Rattle.pec.proofs.Messages.{data_message}

pub number_of-2 : (bytes : List ℕ) → length bytes ≡ 2 → from_be_bytes w16 bytes ≡ number_of bytes
unfolding number_of number_from tabulate
number_of-2 bytes e = omega arith ∙ ap number_of (rebuilt bytes 2 e)

pub number_of-4 : (bytes : List ℕ) → length bytes ≡ 4 → from_be_bytes w32 bytes ≡ number_of bytes
unfolding number_of number_from tabulate
number_of-4 bytes e = omega arith ∙ ap number_of (rebuilt bytes 4 e)

pub number_of-8 : (bytes : List ℕ) → length bytes ≡ 8 → from_be_bytes w64 bytes ≡ number_of bytes
unfolding number_of number_from tabulate
number_of-8 bytes e = omega arith ∙ ap number_of (rebuilt bytes 8 e)

-- six bytes, behind two zeros
pub number_of-6 : (six : List ℕ) → length six ≡ 6 → from_be_bytes w64 (0 ∷ 0 ∷ six) ≡ number_of six
unfolding number_of number_from
number_of-6 six e = number_of-8 (0 ∷ 0 ∷ six) (omega (arith, e))

-- and in two parts, of four and of two
pub number_of-parts : (six : List ℕ) → length six ≡ 6
    → (((get_or six 0 0 * 256 + get_or six 1 0) * 256 + get_or six 2 0) * 256 + get_or six 3 0) * 65536 + (get_or six 4 0 * 256 + get_or six 5 0) ≡ number_of six
unfolding number_of number_from tabulate
number_of-parts six e = omega arith ∙ ap number_of (rebuilt six 6 e)

-- bytes behind the lead
pub number_of_led : (own : List ℕ) → number_of (lead ++ own) ≡ 0x11A * 2 ^ (8 * length own) + number_of own
unfolding number_of number_from
number_of_led own = number-from 0x11A own

pub bytes_of_led : (own : List ℕ) → Bytes own → Bytes (lead ++ own)
bytes_of_led own h zero = lit< tt
bytes_of_led own h (suc zero) = lit< tt
bytes_of_led own h (suc (suc zero)) = lit< tt
bytes_of_led own h (suc (suc (suc zero))) = lit< tt
bytes_of_led own h (suc (suc (suc (suc i)))) = h i

pub two_high_first : (n : ℕ) → n < 65536 → to_be_bytes w16 n ≡ two_bytes n
unfolding two_bytes
two_high_first n h = ap (λ (x : ℕ). x ∷ n % 256 ∷ []) (omega arith)

-- a number of sixteen bits behind a byte string
module _ (own : List ℕ) (n : ℕ) (h : n < 65536) where
  bytes-after : Bytes own → Bytes (own ++ two_bytes n)
  unfolding two_bytes
  bytes-after = go own
    where
      go : (xs : List ℕ) → Bytes xs → Bytes (xs ++ two_bytes n)
      go [] b zero = omega arith
      go [] b (suc zero) = omega arith
      go [] b (suc (suc i)) = lit< tt
      go (x ∷ xs) b zero = b 0
      go (x ∷ xs) b (suc i) = go xs (λ k. b (suc k)) i

  number-after : number_of (own ++ two_bytes n) ≡ number_of own * 65536 + n
  unfolding number_of number_from two_bytes
  number-after = number_append 0 own (two_bytes n) ∙ joined (number_from 0 own) n
    where
      joined : (a b : ℕ) → (a * 256 + b / 256) * 256 + b % 256 ≡ a * 65536 + b
      joined a b = omega arith

-- a payload as one number, by the number of its six bytes
abbrev pub sealed_number : ℕ → ℕ → ℕ
sealed_number counter six = (six * 64 + counter % 64) * 1024 + remainder 10 polynomial10 16 (bits_of 54 (six * 64 + counter % 64))

-- six bytes and their seal
module _ (six : List ℕ) (counter : ℕ) (h : Bytes six) (e : length six ≡ 6) where
  abbrev message : ℕ
  message = number_of six * 64 + counter % 64

  abbrev word : ℕ
  word = counter % 64 * 1024 + data_pec six counter

  word_below : word < 65536
  word_below = omega (arith, data_pec-below six counter)

  check : remainder 10 polynomial10 16 (bits_of 54 message) ≡ data_pec six counter
  check = data_message six (counter % 64) h e (mod-lt counter (lit< tt)) ∙ counter_bits six counter

  number : sealed_number counter (number_of six) ≡ number_of (six ++ two_bytes word)
  number = ap (λ (n : ℕ). message * 1024 + n) check ∙ omega arith ∙ sym (number-after six word word_below)

  long : length (six ++ two_bytes word) ≡ 8
  unfolding two_bytes
  long = length-append six (two_bytes word) ∙ ap (λ (n : ℕ). n + 2) e

  pub sealed_bytes : to_be_bytes w64 (sealed_number counter (number_of six)) ≡ six ++ seal six counter
  unfolding seal
  sealed_bytes = be_bytes_8 (six ++ two_bytes word) _ long (bytes-after six word word_below h) (number ∙ sym (number_of-8 (six ++ two_bytes word) long))
