-- Document 01, "Readings and thresholds", and document 02, L1: sixteen codes stored in one monitor, its stored cells compared with its
-- thresholds, and the load, which is both.
-- Cells are counted from 0 here: cell c of the paper is c - 1.
-- Assumes nothing.
use Rattle.std.specs.Prelude.{Bool, false, cond, List, ℕ, ◌+◌, ◌-◌, ◌*◌, ◌/◌, ◌%◌, ◌^◌, eqb, ℤ, pos, negsuc, get_or}
use Rattle.std.specs.Int.Bits.{bit_or}
use Rattle.std.specs.Int.Signed.{lt_z}
use Rattle.records.specs.declared.record.Part.{Part}
use Rattle.records.specs.Record.{cells, flags, bytes_of, byte_in, on_bytes}
use Rattle.thresholds.specs.declared.thresholds.ResultCode.{ResultCode}
use Rattle.thresholds.specs.Thresholds.{signed, vuv, vov, codes_of}

-- ---- store

-- the 16 bits of a code, two's complement
unfoldable pub word : ℤ → ℕ
word (pos n) = n
word (negsuc n) = 65535 - n

-- byte i of the cells is of code i / 2: its low byte where i is even, its high byte where i is odd
unfoldable pub code_byte : List ℤ → ℕ → ℕ
code_byte codes i = cond (eqb (i % 2) 0) (word (get_or codes (i / 2) (pos 0)) % 256) (word (get_or codes (i / 2) (pos 0)) / 256)

unfoldable pub store : List ℤ → List ℕ → List ℕ
store codes r = on_bytes cells (λ i old. code_byte codes i) r

-- ---- compare

-- code c of a part that holds cells, low byte first
unfoldable pub code_in : Part → List ℕ → ℕ → ResultCode
code_in p r c = record { 0 = signed 16 (byte_in p r (2 * c) + byte_in p r (2 * c + 1) * 256) }

-- the code of a stored cell
unfoldable pub code_at : List ℕ → ℕ → ResultCode
code_at r c = code_in cells r c

-- CLRCELL leaves the code -32768
unfoldable pub is_cleared : ℤ → Bool
is_cleared (pos n) = false
is_cleared (negsuc n) = eqb n 32767

-- a cell's two flags, UV counting 1 and OV counting 2: UV when the code is below the lower threshold, OV when it is above
-- the upper one
unfoldable pub flags_for : ResultCode → ResultCode → ResultCode → ℕ
flags_for code lower upper = cond (lt_z code.0 lower.0) 1 0 + cond (lt_z upper.0 code.0) 2 0

-- a comparison skips a cleared cell
unfoldable pub flags_of : List ℕ → ℕ → ℕ
flags_of r c = cond (is_cleared (code_at r c).0) 0 (flags_for (code_at r c) (codes_of (vuv r)) (codes_of (vov r)))

-- byte j of the flags holds four cells: UV of cell c at bit 2 (c mod 4), OV one above
unfoldable pub flag_byte : List ℕ → ℕ → ℕ
flag_byte r j = flags_of r (4 * j) + flags_of r (4 * j + 1) * 4 + flags_of r (4 * j + 2) * 16 + flags_of r (4 * j + 3) * 64

-- flags are only ever set, and both may be set
unfoldable pub compare : List ℕ → List ℕ
compare r = on_bytes flags (λ j old. bit_or old (flag_byte r j)) r

-- the two flags of a cell as they stand
unfoldable pub flags_in : List ℕ → ℕ → ℕ
flags_in r c = get_or (bytes_of flags r) (c / 4) 0 / 2 ^ (2 * (c % 4)) % 4

-- ---- load

unfoldable pub load : List ℤ → List ℕ → List ℕ
load codes r = compare (store codes r)
