-- Document 01, "Commands", and document 02, L6: what one monitor replies to a read.
-- Assumes nothing.
use Rattle.std.specs.Prelude.{List, ◌++◌, ℕ, ◌-◌, take, drop, get_or}
use Rattle.laws.specs.Tables.{tabulate}
use Rattle.pec.specs.Words.{seal}
use Rattle.records.specs.declared.record.Part.{Part}
use Rattle.records.specs.Record.{cells, counter, bytes_of, byte_of}
use Rattle.reads.specs.Shown.{shown_part}

-- six bytes of a part: the record's as they lie, and FF past the end of a shorter part (RDCVF)
unfoldable pub six_bytes : Part → List ℕ → List ℕ
six_bytes part r = tabulate (λ i. get_or (bytes_of part r) i 0xFF) 0 6

-- six bytes of a part of the cells, out of 32 that stand for the cells
unfoldable pub six_in : Part → List ℕ → List ℕ
six_in part bytes = tabulate (λ i. get_or (take part.size (drop (part.at - cells.at) bytes)) i 0xFF) 0 6

-- the six bytes of a register
unfoldable pub register : Part → List ℕ → List ℕ
register part r = six_bytes (shown_part part r) r

-- the register, the counter as it stands, and the check over both
unfoldable pub reply : Part → List ℕ → List ℕ
reply part r = register part r ++ seal (register part r) (byte_of counter r)
