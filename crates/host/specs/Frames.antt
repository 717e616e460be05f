-- Document 01: the frames that our host writes. Values are nearest monitor first; on the wire the farthest comes first.
-- Assumes nothing.
use Rattle.std.specs.Prelude.{not, ◌&&◌, List, [], ◌∷◌, ◌++◌, map, ℕ, ◌*◌, eqb, leb, ltb, length, drop, replicate, Result, Ok, Err}
use Rattle.laws.specs.Rows.{rows}
use Rattle.pec.specs.Words.{two_bytes, command_check, seal}
use Rattle.wire.specs.Order.{write_data}
use Rattle.refusals.specs.declared.Refusal.TheVariants.{CodeNotListed, NoRoom, PositionWrong, CountWrong}
use Rattle.refusals.specs.Order.{Row, ◌gives◌, decide}
use Rattle.records.specs.declared.commands.Command.{Command}
use Rattle.records.specs.declared.commands.Command.TheVariants.{Reads, Writes, Bares, Unlisted}
use Rattle.records.specs.Commands.{commands, command_of, is_listed, most_monitors, data_size, payload_size, frame_length}
use Rattle.refusals.specs.declared.Refusal.{Refusal}

-- the bytes of a command and its check
abbrev pub head_size : ℕ
head_size = 4

-- a monitor's data bytes as a write sends them: with the counter 0, and the check over both
unfoldable pub sealed : List ℕ → List ℕ
sealed own = own ++ seal own 0

-- what follows the command and its check
unfoldable pub body : Command → ℕ → List ℕ → List ℕ
body (Reads part) n values = replicate (payload_size * n) 0xFF
body (Writes c) n values = write_data (map sealed (rows (data_size c) n values))
body (Bares c) n values = []
body Unlisted n values = []

-- the frame for a code, n monitors and values
unfoldable pub frame_for : ℕ → ℕ → List ℕ → List ℕ
frame_for code n values = two_bytes code ++ command_check code ++ body (command_of code commands) n values

-- the value bytes that a command wants: in a write each monitor's data bytes, none otherwise
abbrev pub value_count : Command → ℕ → ℕ
value_count (Reads part) n = 0
value_count (Writes c) n = data_size c * n
value_count (Bares c) n = 0
value_count Unlisted n = 0

-- the refusals of a request for a command's frame, with so many value bytes and so much room
abbrev pub request_refusals : Command → ℕ → ℕ → ℕ → List Row
request_refusals command n given room =
    (not (is_listed command) gives CodeNotListed)
    ∷ (not (leb 1 n && leb n most_monitors) gives PositionWrong)
    ∷ (not (eqb given (value_count command n)) gives CountWrong)
    ∷ (ltb room (frame_length command n) gives NoRoom)
    ∷ []

-- what such a request comes to: a refusal, or the frame's length
unfoldable pub judged : Command → ℕ → ℕ → ℕ → Result ℕ Refusal
judged command n given room = decide (request_refusals command n given room) Err (Ok (frame_length command n))

unfoldable pub build_refusals : ℕ → ℕ → List ℕ → ℕ → List Row
build_refusals code n values room = request_refusals (command_of code commands) n (length values) room

-- what comes of building: the frame at the start of the buffer, and its length; bytes past it stay. A refusal changes nothing
unfoldable pub built : ℕ → ℕ → List ℕ → ℕ → Result ℕ Refusal
built code n values room = decide (build_refusals code n values room) Err (Ok (frame_length (command_of code commands) n))

unfoldable pub buffer_after : ℕ → ℕ → List ℕ → List ℕ → List ℕ
buffer_after code n values buffer =
    decide (build_refusals code n values (length buffer)) (λ r. buffer)
    (frame_for code n values ++ drop (frame_length (command_of code commands) n) buffer)
