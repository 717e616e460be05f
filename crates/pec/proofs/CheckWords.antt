-- The two polynomials end in 1, and the two check words stay below 2^15 and 2^10; what is sent is right; a command whose last bit is 1 is not.
-- Assumes nothing.
use mathlib.Core.Path.{◌≡◌, refl, sym, ap, ap₂, ◌∙◌}
use mathlib.Core.Bool.{Bool, true, false, ◌&&◌}
use mathlib.Core.List.{List, [], ◌∷◌, ◌++◌}
use Prim.Native.Nat.{ℕ, ◌+◌, ◌*◌, ◌/◌, ◌%◌, ◌^◌, ◌<◌}
use native.Mathlib.Nat.{div-add-mod'}
use native.Mathlib.Omega.{arith}
use lib.Arith.{digits_div, digits_mod}
use lib.Dec.{eqb, lit<}
use lib.ListN.{length, length-append, take, get_or}
use lib.Seq.{take_at, get_or-append-add, get_or-append_seam}
use borrow.Author.Tests.{eq-eqb, ne_eqb, eqb-true}
use Rattle.laws.specs.Bits.{odd, bits_of, bits_of_bytes}
use Rattle.laws.proofs.Bits.{bits_mod}
use Rattle.pec.specs.Words.{two_bytes, word_at, polynomial15, polynomial10, pec15, command_check, command_right, data_pec, seal, counter_of, sealed_right, payload_right}
use Rattle.pec.specs.Remainder.{remainder}
use Rattle.pec.proofs.Remainder.{remainder-below}

pub ends_15 : odd polynomial15 ≡ true
unfolding odd
ends_15 = refl

pub ends_10 : odd polynomial10 ≡ true
unfolding odd
ends_10 = refl

pub pec15-below : (bytes : List ℕ) → pec15 bytes < 2 ^ 15
unfolding pec15
pec15-below bytes = remainder-below 15 (bits_of_bytes bytes) (lit< tt) (lit< tt)

pub data_pec-below : (bytes : List ℕ) (counter : ℕ) → data_pec bytes counter < 2 ^ 10
unfolding data_pec
data_pec-below bytes counter = remainder-below 10 (bits_of_bytes bytes ++ bits_of 6 counter) (lit< tt) (lit< tt)

-- the six bits of a counter are those of its remainder by 64
pub counter_bits : (bytes : List ℕ) (counter : ℕ) → data_pec bytes (counter % 64) ≡ data_pec bytes counter
unfolding data_pec
counter_bits bytes counter = ap (λ (bs : List Bool). remainder 10 polynomial10 16 (bits_of_bytes bytes ++ bs)) (bits_mod 6 counter)

-- ---- what is sent is right

-- a 16-bit number that was sent after a byte string stands there
word_after : (xs : List ℕ) (n : ℕ) → word_at (xs ++ two_bytes n) (length xs) ≡ n
unfolding word_at two_bytes
word_after xs n =
    ap₂ (λ (a b : ℕ). a * 256 + b) (get_or-append_seam xs (n / 256) (n % 256 ∷ []) 0) (get_or-append-add xs (n / 256 ∷ n % 256 ∷ []) 1 0)
    ∙ div-add-mod' n 256

length_two : (xs : List ℕ) (n : ℕ) → length (xs ++ two_bytes n) ≡ length xs + 2
unfolding two_bytes
length_two xs n = length-append xs (n / 256 ∷ n % 256 ∷ [])

pub command_check-right : (code : ℕ) → command_right (two_bytes code ++ command_check code) ≡ true
unfolding command_right command_check
command_check-right code =
    ap₂ ◌&&◌ (eq-eqb _ 4 (length_two (two_bytes code) check ∙ ap (λ (n : ℕ). n + 2) two))
    (eq-eqb _ _ (ap (word_at (two_bytes code ++ two_bytes check)) (sym two) ∙ word_after (two_bytes code) check
    ∙ ap (λ (bytes : List ℕ). pec15 bytes * 2) (sym (take_at (two_bytes code) (two_bytes check) 2 two))))
  where
    check : ℕ
    check = pec15 (two_bytes code) * 2

    two : length (two_bytes code) ≡ 2
    two = length_two [] code

-- d bytes and the two that seal them
module _ (own : List ℕ) (counter d : ℕ) (h : length own ≡ d) where
  sent : ℕ
  sent = counter % 64 * 1024 + data_pec own counter

  word : word_at (own ++ seal own counter) d ≡ sent
  unfolding seal sent
  word = ap (word_at (own ++ two_bytes sent)) (sym h) ∙ word_after own sent

  counted : word_at (own ++ seal own counter) d / 1024 ≡ counter % 64
  unfolding sent
  counted = ap (λ (n : ℕ). n / 1024) word ∙ digits_div (counter % 64) (data_pec-below own counter)

  check : word_at (own ++ seal own counter) d % 1024 ≡ data_pec own counter
  unfolding sent
  check = ap (λ (n : ℕ). n % 1024) word ∙ digits_mod (counter % 64) (data_pec-below own counter)

  pub own-right : sealed_right d (own ++ seal own counter) ≡ true
  unfolding sealed_right seal sent
  own-right =
      ap₂ ◌&&◌ (eq-eqb _ (d + 2) (length_two own sent ∙ ap (λ (n : ℕ). n + 2) h))
      (eq-eqb _ _ (check ∙ sym (ap₂ data_pec (take_at own (seal own counter) d h) counted ∙ counter_bits own counter)))

-- of six bytes
module _ (six : List ℕ) (counter : ℕ) (h : length six ≡ 6) where
  pub seal-counter : counter_of (six ++ seal six counter) ≡ counter % 64
  unfolding counter_of
  seal-counter = counted six counter 6 h

  pub seal-right : payload_right (six ++ seal six counter) ≡ true
  unfolding payload_right
  seal-right = own-right six counter 6 h

-- ---- a 1 in the last place

pub last_place_wrong : (four : List ℕ) → odd (get_or four 3 0) ≡ true → command_right four ≡ false
unfolding command_right word_at odd
last_place_wrong four h =
    let ends : get_or four 3 0 % 2 ≡ 1 = eqb-true _ _ h in
    ap (λ (b : Bool). eqb (length four) 4 && b) (ne_eqb _ _ (apart (get_or four 2 0) (get_or four 3 0) (pec15 (take 2 four)) ends))
    ∙ none (eqb (length four) 4)
  where
    apart : (a b n : ℕ) → b % 2 ≡ 1 → a * 256 + b ≡ n * 2 → ⊥
    apart a b n o e = omega arith

    none : (b : Bool) → b && false ≡ false
    none true = refl
    none false = refl
