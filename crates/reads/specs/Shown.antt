-- Document 02, L6: which part of a record a read shows. It is the part that the read names, but for the cell reads while a snapshot is on: these show
-- the copy. Status C and D stay live.
-- Assumes nothing.
use Rattle.std.specs.Prelude.{Bool, cond, ◌&&◌, List, [], ◌∷◌, ℕ, ◌+◌, ◌-◌, leb}
use Rattle.records.specs.declared.record.Part.{Part}
use Rattle.records.specs.Record.{cells, snapshot, snapped, bytes_of}
use Rattle.records.specs.Commands.{rdcva, rdcvb, rdcvc, rdcvd, rdcve, rdcvf}

-- the cell reads, in the order of the cells
abbrev pub cell_reads : List Part
cell_reads = rdcva ∷ rdcvb ∷ rdcvc ∷ rdcvd ∷ rdcve ∷ rdcvf ∷ []

-- a part of the cells
abbrev pub of_cells : Part → Bool
of_cells p = leb cells.at p.at && leb (p.at + p.size) (cells.at + cells.size)

-- the same part of their copy
abbrev pub copy_of : Part → Part
copy_of p = record { at = snapshot.at + (p.at - cells.at); size = p.size }

-- the part that is shown: of the cells, while a snapshot is on, the copy's
unfoldable pub shown_part : Part → List ℕ → Part
shown_part p r = cond (of_cells p && snapped r) (copy_of p) p

-- the cells that the cell reads show
unfoldable pub shown_cells : List ℕ → List ℕ
shown_cells r = cond (snapped r) (bytes_of snapshot r) (bytes_of cells r)
