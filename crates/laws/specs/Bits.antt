-- Bits: of a number, of a byte string, and exclusive or. A bit is a Bool, true for 1.
-- Assumes nothing.
use Rattle.std.specs.Prelude.{Bool, List, [], ◌∷◌, ◌++◌, ℕ, zero, suc, ◌+◌, ◌*◌, ◌/◌, ◌%◌, ◌^◌, ◌<◌, eqb, get_or}
use Rattle.std.specs.Bool.{xor}
use Rattle.std.specs.Int.Bits.{bit_xor}

infixl 60 ◌⊕◌
-- exclusive or, place by place: what the code's `^` does
unfoldable pub ◌⊕◌ : ℕ → ℕ → ℕ
a ⊕ b = bit_xor a b

-- the last bit of a number
unfoldable pub odd : ℕ → Bool
odd n = eqb (n % 2) 1

-- the bit of a number at a place, the lowest at 0
unfoldable pub bit_at : ℕ → ℕ → Bool
bit_at k n = odd (n / 2 ^ k)

-- the k low bits of a number, most significant first
unfoldable pub bits_of : ℕ → ℕ → List Bool
bits_of zero n = []
bits_of (suc k) n = odd (n / 2 ^ k) ∷ bits_of k n

-- each number of a list is a byte
abbrev pub Bytes : List ℕ → Type 0
Bytes bytes = (i : ℕ) → get_or bytes i 0 < 256

-- the bits of a byte string: eight for each byte, the first byte's first
unfoldable pub bits_of_bytes : List ℕ → List Bool
bits_of_bytes [] = []
bits_of_bytes (b ∷ bs) = bits_of 8 b ++ bits_of_bytes bs

-- a byte string after the number n, as one number: the first byte stands highest
unfoldable pub number_from : ℕ → List ℕ → ℕ
number_from n [] = n
number_from n (b ∷ bs) = number_from (n * 256 + b) bs

-- a byte string as one number
unfoldable pub number_of : List ℕ → ℕ
number_of bs = number_from 0 bs

-- two strings of bits, of one length, added place by place
unfoldable pub xor_bits : List Bool → List Bool → List Bool
xor_bits [] cs = []
xor_bits (b ∷ bs) [] = []
xor_bits (b ∷ bs) (c ∷ cs) = xor b c ∷ xor_bits bs cs
