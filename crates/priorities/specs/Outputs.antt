-- Document 02, L2: the sixteen outputs of one monitor, as bytes, and how many of them are on.
-- Assumes nothing.
use Rattle.std.specs.Prelude.{cond, List, ℕ, ◌+◌}
use Rattle.laws.specs.Counts.{count}
use Rattle.laws.specs.Tables.{tabulate}
use Rattle.records.specs.Record.{cell_count}
use Rattle.priorities.specs.declared.outputs.Events.{Events}
use Rattle.priorities.specs.declared.outputs.Output.{Output}
use Rattle.priorities.specs.Table27.{output_of}

-- an output as a byte: its row, and 80 (hex) added where it is on
unfoldable pub shown : Output → ℕ
shown o = o.row + cond o.on 0x80 0

-- cells 1 to 16
unfoldable pub the_cells : List ℕ
the_cells = tabulate (λ c. c) 1 cell_count

-- the bytes of the sixteen outputs, cell 1's first
unfoldable pub outputs : Events → ℕ → List ℕ → List ℕ
outputs events phase r = tabulate (λ c. shown (output_of events phase r c)) 1 cell_count

-- how many of them are on
unfoldable pub count_on : Events → ℕ → List ℕ → ℕ
count_on events phase r = count (λ c. (output_of events phase r c).on) the_cells
