-- The same remainder through a table of 256 remainders, one for each byte value.
-- Assumes nothing.
use Rattle.std.specs.Prelude.{List, [], ◌∷◌, ℕ, ◌*◌, ◌/◌, ◌%◌, ◌^◌, get_or}
use Rattle.laws.specs.Bits.{◌⊕◌, bits_of}
use Rattle.laws.specs.Tables.{tabulate}
use Rattle.pec.specs.Remainder.{remainder}

-- the entry for the byte j: the remainder of its eight bits alone, from 0
unfoldable pub entry : ℕ → ℕ → ℕ → ℕ
entry w g j = remainder w g 0 (bits_of 8 j)

-- the table: entries 0 to 255 in their order
unfoldable pub table_of : ℕ → ℕ → List ℕ
table_of w g = tabulate (entry w g) 0 256

-- k bits x at once: the remainder moves up k places, and the k bits that pass out, with those that come, name the entry
-- that is added
unfoldable pub table_step : ℕ → List ℕ → ℕ → ℕ → ℕ → ℕ
table_step w table k r x = (r * 2 ^ k % 2 ^ w) ⊕ get_or table ((r * 2 ^ k / 2 ^ w) ⊕ x) 0

-- byte after byte
unfoldable pub by_table : ℕ → List ℕ → ℕ → List ℕ → ℕ
by_table w table r [] = r
by_table w table r (b ∷ bs) = by_table w table (table_step w table 8 r b) bs
