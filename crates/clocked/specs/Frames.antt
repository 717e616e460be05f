-- A whole frame clocked a byte at a time, over one table: what the clock then is, and the bytes that came back. And what is made
-- of them where a reply buffer is lent too: refusal 6 comes last, as for a whole frame.
-- Assumes nothing.
use Rattle.std.specs.Prelude.{cond, ◌&&◌, List, [], ◌∷◌, ◌++◌, ℕ, ◌-◌, leb, ltb, length, set, take, drop, Result, Ok, Err}
use Rattle.refusals.specs.Order.{Row, decide}
use Rattle.records.specs.Commands.{most_monitors, reply_length}
use Rattle.chain.specs.declared.frames.Answer.{Answer}
use Rattle.judging.specs.declared.heads.Judged.{Judged}
use Rattle.judging.specs.Table.{monitors}
use Rattle.judging.specs.Refusals.{command_in, room_row}
use Rattle.clocking.specs.Clock.{Clock, clocked, answered}
use Rattle.releasing.specs.Release.{release_refusals, taken_of, kept_of}
use Rattle.refusals.specs.declared.Refusal.{Refusal}
use Rattle.chain.specs.Frame.{took}

-- ---- byte after byte

unfoldable pub clocked_all : List ℕ → List ℕ → Clock → Clock
clocked_all table [] c = c
clocked_all table (byte ∷ bytes) c = clocked_all table bytes (clocked table byte c)

unfoldable pub answered_all : List ℕ → List ℕ → Clock → List ℕ
answered_all table [] c = []
answered_all table (byte ∷ bytes) c = answered c ∷ answered_all table bytes (clocked table byte c)

-- the byte that came back with the i-th byte, counted from 0, at its place of a buffer: those after the fourth, as far as there is
-- room
unfoldable pub kept_one : ℕ → ℕ → List ℕ → List ℕ
kept_one i byte buffer = cond (leb 4 i && ltb (i - 4) (length buffer)) (set buffer (i - 4) byte) buffer

-- all of them
unfoldable pub kept_back : List ℕ → List ℕ → List ℕ
kept_back back buffer = take (length buffer) (drop 4 back) ++ drop (length (drop 4 back)) buffer

-- ---- the end of it, with a reply buffer

-- the length of the reply where a release is so judged: a refusal has none, nor have more monitors than a chain has
abbrev pub reply_of : Result Judged Refusal → ℕ
reply_of (Err r) = 0
reply_of (Ok j) = cond (leb j.monitors most_monitors) (reply_length j.command j.monitors) 0

unfoldable pub settle_refusals : Clock → List ℕ → ℕ → List Row
settle_refusals c table room = release_refusals c table ++ room_row room (command_in c.head) (monitors table) ∷ []

unfoldable pub settled : Clock → List ℕ → ℕ → Result Answer Refusal
settled c table room = decide (settle_refusals c table room) Err (took (taken_of c table) (reply_length (command_in c.head) (monitors table)))

unfoldable pub table_settled : Clock → List ℕ → ℕ → List ℕ
table_settled c table room = decide (settle_refusals c table room) (λ r. table) (kept_of c table)

-- the reply is what came back, as it was kept; bytes past it stay
unfoldable pub buffer_settled : Clock → List ℕ → List ℕ → List ℕ → List ℕ
buffer_settled c table own buffer =
    decide (settle_refusals c table (length buffer)) (λ r. buffer)
    (take (reply_length (command_in c.head) (monitors table)) own ++ drop (reply_length (command_in c.head) (monitors table)) buffer)
