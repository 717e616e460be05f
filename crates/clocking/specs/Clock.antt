-- Document 01, "The clocked engine": what one byte does. All monitors see the first four bytes; what the later ones do is up to
-- the command that the four hold. Nothing here knows a whole frame.
-- Assumes nothing.
use Rattle.std.specs.Prelude.{cond, List, [], ◌∷◌, map, ℕ, ◌+◌, ◌*◌, eqb, ltb, set}
use Rattle.laws.specs.Rows.{rows}
use Rattle.wire.specs.Windows.{empty, enter, leaves, draw}
use Rattle.refusals.specs.Order.{decide}
use Rattle.records.specs.declared.commands.Command.{Command}
use Rattle.records.specs.declared.commands.Command.TheVariants.{Reads, Writes, Bares, Unlisted}
use Rattle.records.specs.Record.{record_size}
use Rattle.records.specs.Commands.{most_monitors, payload_size, width_of}
use Rattle.reads.specs.Reply.{reply}
use Rattle.judging.specs.Table.{monitors, sound}
use Rattle.judging.specs.Refusals.{command_in, table_row, command_row, listed_row}
use Rattle.clock_state.specs.declared.state.Kind.{Kind}
use Rattle.clock_state.specs.declared.state.Kind.TheVariants.{Fills, Drains, Still}

-- a frame as far as it has come
pub record Clock : Type 0 where
  -- how many bytes came
  pub seen : ℕ
  -- the first four of them; 0 where none came yet
  pub head : List ℕ
  -- N of the table that was lent with byte four: 0 before, and where that table was not sound
  pub chained : ℕ
  -- what the later bytes do
  pub kind : Kind
  -- the monitors' windows, nearest monitor first, each oldest byte first
  pub windows : List (List ℕ)

-- before a frame. No N is known yet, so there are no windows
unfoldable pub start : Clock
start = record { seen = 0; head = 0 ∷ 0 ∷ 0 ∷ 0 ∷ []; chained = 0; kind = Still; windows = [] }

-- FF: what the last window draws, and the answer where nothing leaves monitor 1
abbrev pub far : ℕ
far = 0xFF

-- ---- the first four bytes

-- a command is known when refusals 1, 3 and 4 do not hold; else it is `Unlisted`
unfoldable pub known : List ℕ → List ℕ → Command
known table head = decide (table_row table ∷ command_row head ∷ listed_row head ∷ []) (λ r. Unlisted) (command_in head)

-- a known write's bytes fill windows of the write's width, a known read's drain them; in any other frame they stay empty
abbrev pub kind_of : Command → Kind
kind_of (Writes c) = Fills (width_of (Writes c))
kind_of (Reads part) = Drains
kind_of (Bares c) = Still
kind_of Unlisted = Still

-- the windows after byte four: of a known read each has its own monitor's eight reply bytes
unfoldable pub filled_for : Command → ℕ → List ℕ → List (List ℕ)
filled_for (Reads part) n table = map (reply part) (rows record_size n table)
filled_for (Writes c) n table = empty n
filled_for (Bares c) n table = empty n
filled_for Unlisted n table = empty n

-- N of a sound table
unfoldable pub chained_by : List ℕ → ℕ
chained_by table = cond (sound table) (monitors table) 0

unfoldable pub fourth : List ℕ → ℕ → Clock → Clock
fourth table byte c =
    let head = set c.head 3 byte in
    record { seen = 4; head = head; chained = chained_by table; kind = kind_of (known table head); windows = filled_for (known table head) (chained_by table) table }

unfoldable pub early : ℕ → Clock → Clock
early byte c = record { seen = c.seen + 1; head = set c.head c.seen byte; chained = c.chained; kind = c.kind; windows = c.windows }

-- ---- the later bytes

-- one byte more than any frame has
abbrev pub most_seen : ℕ
most_seen = 4 + payload_size * most_monitors + 1

-- bytes are counted up to there: no frame of more is accepted, however many come
unfoldable pub one_more : ℕ → ℕ
one_more k = cond (ltb k most_seen) (k + 1) k

-- a write's byte enters monitor 1's window, and full windows pass their oldest on; in a read every window draws from the next
unfoldable pub moved : Kind → ℕ → List (List ℕ) → List (List ℕ)
moved (Fills w) byte windows = enter w byte windows
moved Drains byte windows = draw far windows
moved Still byte windows = windows

unfoldable pub later : ℕ → Clock → Clock
later byte c = record { seen = one_more c.seen; head = c.head; chained = c.chained; kind = c.kind; windows = moved c.kind byte c.windows }

-- ---- any byte

unfoldable pub clocked : List ℕ → ℕ → Clock → Clock
clocked table byte c = cond (ltb c.seen 3) (early byte c) (cond (eqb c.seen 3) (fourth table byte c) (later byte c))

-- the byte that comes back: what leaves monitor 1 in a known read
unfoldable pub leaving : Kind → List (List ℕ) → ℕ
leaving (Fills w) windows = far
leaving Drains windows = leaves far windows
leaving Still windows = far

unfoldable pub answered : Clock → ℕ
answered c = cond (ltb c.seen 4) far (leaving c.kind c.windows)
