-- The two check words of document 01, "Check words", and what is sent of them.
-- Assumes nothing.
use Rattle.std.specs.Prelude.{Bool, cond, ◌&&◌, List, [], ◌∷◌, ◌++◌, ℕ, ◌+◌, ◌*◌, ◌/◌, ◌%◌, eqb, length, take, get_or}
use Rattle.laws.specs.Bits.{bits_of, bits_of_bytes, number_of}
use Rattle.pec.specs.Remainder.{remainder}

-- ---- how sixteen bits are sent

-- the two bytes of a 16-bit number, the high byte first
unfoldable pub two_bytes : ℕ → List ℕ
two_bytes n = n / 256 ∷ n % 256 ∷ []

-- the 16-bit number that stands at a place of a byte string, the high byte first
unfoldable pub word_at : List ℕ → ℕ → ℕ
word_at bytes i = get_or bytes i 0 * 256 + get_or bytes (i + 1) 0

-- ---- the command's check: 15 bits, x^15+x^14+x^10+x^8+x^7+x^4+x^3+1, start 16

abbrev pub polynomial15 : ℕ
polynomial15 = 0b100_0101_1001_1001

unfoldable pub pec15 : List ℕ → ℕ
pec15 bytes = remainder 15 polynomial15 16 (bits_of_bytes bytes)

-- the two bytes sent after a command code: the 15 bits, and one 0 bit after them
unfoldable pub command_check : ℕ → List ℕ
command_check code = two_bytes (pec15 (two_bytes code) * 2)

-- a command and its check are right: the last two of the four bytes are the check of the first two. That check ends in
-- 0, so a 1 in the last place is wrong
unfoldable pub command_right : List ℕ → Bool
command_right four = eqb (length four) 4 && eqb (word_at four 2) (pec15 (take 2 four) * 2)

-- ---- the data's check: 10 bits, x^10+x^7+x^3+x^2+x+1, start 16

abbrev pub polynomial10 : ℕ
polynomial10 = 0b00_1000_1111

unfoldable pub pec10 : List ℕ → ℕ
pec10 bytes = remainder 10 polynomial10 16 (bits_of_bytes bytes)

-- over the data's bits and then the six bits of the counter
unfoldable pub data_pec : List ℕ → ℕ → ℕ
data_pec bytes counter = remainder 10 polynomial10 16 (bits_of_bytes bytes ++ bits_of 6 counter)

-- bytes seven and eight of a payload: the six counter bits, and then the ten of the check
unfoldable pub seal : List ℕ → ℕ → List ℕ
seal bytes counter = two_bytes (counter % 64 * 1024 + data_pec bytes counter)

-- the six counter bits of a payload, as they stand
unfoldable pub counter_of : List ℕ → ℕ
counter_of eight = word_at eight 6 / 1024

-- d data bytes and the two that seal them are right: their ten last bits are the check of the d bytes and of the six counter bits as they stand
unfoldable pub sealed_right : ℕ → List ℕ → Bool
sealed_right d own = eqb (length own) (d + 2) && eqb (word_at own d % 1024) (data_pec (take d own) (word_at own d / 1024))

-- a payload of six bytes is right
unfoldable pub payload_right : List ℕ → Bool
payload_right eight = sealed_right 6 eight

-- ---- a payload as one number of 64 bits

-- 0 where there are not eight bytes
unfoldable pub number_in : List ℕ → ℕ
number_in eight = cond (eqb (length eight) 8) (number_of eight) 0

-- nothing is left of it, its own check being its last ten bits
unfoldable pub number_right : ℕ → Bool
number_right n = eqb (remainder 10 polynomial10 16 (bits_of 64 n)) 0
