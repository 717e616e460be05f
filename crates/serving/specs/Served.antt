-- What the monitors make of a command, with no frame judged: each acts on its own record and its own bytes, which the data of a
-- write hands out by the order on the wire. Document 01, "The table", "Commands" and "Numbers that come back".
-- Assumes nothing.
use Rattle.std.specs.Prelude.{◌≡◌, Bool, false, not, List, ℕ, ◌+◌, ◌*◌, ◌<◌, leb, length, drop}
use Rattle.laws.specs.Counts.{count}
use Rattle.laws.specs.Rows.{rows, row_at, joined, along}
use Rattle.wire.specs.Order.{write_payloads}
use Rattle.records.specs.declared.commands.Command.{Command}
use Rattle.records.specs.Record.{record_size, in_lpcm}
use Rattle.records.specs.Commands.{width_of}
use Rattle.monitor.specs.Effects.{takes, keeps}
use Rattle.judging.specs.Table.{changed_at}

-- ---- one monitor

-- the table has a whole record at k, counted from 0
abbrev pub has_record : ℕ → List ℕ → Bool
has_record k table = leb (k * record_size + record_size) (length table)

-- the table with the record at k as its monitor keeps it
unfoldable pub served_at : ℕ → Command → List ℕ → List ℕ → List ℕ
served_at k c own table = changed_at k (keeps c own) table

-- the monitor at k takes the command
unfoldable pub takes_at : ℕ → Command → List ℕ → List ℕ → Bool
takes_at k c own table = takes c own (row_at record_size k table)

-- ---- all of them, each by its own record and its own bytes

-- how many take it
unfoldable pub takers : Command → List (List ℕ) → List (List ℕ) → ℕ
takers c records owns = count (λ took. took) (along (λ r own. takes c own r) records owns)

-- ---- which of n monitors are in LPCM

-- none of them
abbrev pub Awake : ℕ → List ℕ → Type 0
Awake n table = (k : ℕ) → k < n → in_lpcm (row_at record_size k table) ≡ false

-- how many are not
unfoldable pub awake_of : ℕ → List ℕ → ℕ
awake_of n table = count (λ r. not (in_lpcm r)) (rows record_size n table)

-- ---- by a frame

-- each monitor's own bytes, nearest monitor first
unfoldable pub payloads_in : Command → List ℕ → ℕ → List (List ℕ)
payloads_in c frame n = write_payloads (width_of c) n (drop 4 frame)

-- how many monitors took it
unfoldable pub taken_by : Command → ℕ → List ℕ → List ℕ → ℕ
taken_by c n table frame = takers c (rows record_size n table) (payloads_in c frame n)

-- what each monitor keeps of the command, its own record and its own bytes
unfoldable pub kept : Command → ℕ → List ℕ → List ℕ → List ℕ
kept c n table frame = joined (along (λ r own. keeps c own r) (rows record_size n table) (payloads_in c frame n))
