-- Document 01, "The table": records of monitors end to end, nearest monitor first.
-- Assumes nothing.
use Rattle.std.specs.Prelude.{Bool, ◌&&◌, List, ◌++◌, ◌⊎◌, ℕ, ◌+◌, ◌*◌, ◌/◌, ◌≤◌, ◌<◌, eqb, leb, length, take, drop, cond, Option, Some, None}
use Rattle.std.specs.declared.ops.Range.{Range}
use Rattle.laws.specs.Counts.{all}
use Rattle.laws.specs.Rows.{rows, row_at}
use Rattle.records.specs.declared.record.Part.{Part}
use Rattle.records.specs.Record.{record_size, record_sound}
use Rattle.records.specs.Commands.{most_monitors}

-- how many records a table holds
unfoldable pub monitors : List ℕ → ℕ
monitors table = length table / record_size

-- n whole records, and no more than a chain has
unfoldable pub whole_table : ℕ → List ℕ → Bool
whole_table n table = leb n most_monitors && eqb (length table) (n * record_size)

-- whole records, 1 to 32 of them, each of them sound
unfoldable pub sound : List ℕ → Bool
sound table =
    eqb (length table) (monitors table * record_size) && leb 1 (monitors table) && leb (monitors table) most_monitors
    && all record_sound (rows record_size (monitors table) table)

-- ---- one monitor of it

-- the table with the record at k, counted from 0, as f makes it, and every other as it was
abbrev pub changed_at : ℕ → (List ℕ → List ℕ) → List ℕ → List ℕ
changed_at k f table = take (k * record_size) table ++ f (row_at record_size k table) ++ drop (k * record_size + record_size) table

-- byte i of the table is none of a part of the record at k
abbrev pub Beside : Part → ℕ → ℕ → Type 0
Beside p k i = (i < k * record_size + p.at) ⊎ (k * record_size + p.at + p.size ≤ i)

-- where the record at k lies in a table, from its first byte up to the one behind its last, and none where it does not lie whole in it
abbrev pub place_at : ℕ → List ℕ → Option (ℕ × ℕ)
place_at k table = cond (leb (k * record_size + record_size) (length table)) (Some (k * record_size, k * record_size + record_size)) None

-- where a range begins and where it ends
abbrev pub ends : Option (Range ℕ) → Option (ℕ × ℕ)
ends None = None
ends (Some lies) = Some (lies.start, lies.end)
