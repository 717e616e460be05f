-- Document 01, "Commands" and "Numbers that come back": what a frame's refusals are judged by, one row for each. Both engines go by
-- the first five, and an engine that knows the room for a reply by the sixth too. What is asked of one monitor of the table, or done to it,
-- is judged by the first and by its position.
-- Assumes nothing.
use Rattle.std.specs.Prelude.{not, ◌&&◌, List, ℕ, eqb, ltb, leb}
use Rattle.pec.specs.Words.{word_at, command_right}
use Rattle.refusals.specs.declared.Refusal.TheVariants.{TableNotSound, FrameShort, CommandWrong, CodeNotListed, LengthWrong, NoRoom, PositionWrong}
use Rattle.refusals.specs.Order.{Row, ◌gives◌}
use Rattle.records.specs.declared.commands.Command.{Command}
use Rattle.records.specs.Commands.{commands, command_of, is_listed, frame_length, reply_length}
use Rattle.judging.specs.Table.{monitors, sound}

-- the command of a frame: its first two bytes, compared as a 16-bit number
unfoldable pub command_in : List ℕ → Command
command_in frame = command_of (word_at frame 0) commands

-- ---- the refusals, in their order

-- 1: of the table
abbrev pub table_row : List ℕ → Row
table_row table = not (sound table) gives TableNotSound

-- 2: of how many bytes came
abbrev pub short_row : ℕ → Row
short_row bytes = ltb bytes 4 gives FrameShort

-- 3: of the first four bytes
abbrev pub command_row : List ℕ → Row
command_row four = not (command_right four) gives CommandWrong

-- 4: of the frame
abbrev pub listed_row : List ℕ → Row
listed_row frame = not (is_listed (command_in frame)) gives CodeNotListed

-- 5: of how many bytes came, the command and the number of monitors
abbrev pub length_row : ℕ → Command → ℕ → Row
length_row bytes c n = not (eqb bytes (frame_length c n)) gives LengthWrong

-- 6: of the room for a reply, the command and the number of monitors
abbrev pub room_row : ℕ → Command → ℕ → Row
room_row room c n = ltb room (reply_length c n) gives NoRoom

-- 7: of the position of one monitor, counted from 1
abbrev pub position_row : List ℕ → ℕ → Row
position_row table position = not (leb 1 position && leb position (monitors table)) gives PositionWrong
