-- What the monitors reply to a command, with no frame judged, and when the reply is written. Document 01, "The table" and "Numbers that
-- come back".
-- Assumes nothing.
use Rattle.std.specs.Prelude.{Bool, ◌&&◌, List, ◌++◌, map, ℕ, ◌*◌, leb, drop}
use Rattle.laws.specs.Rows.{rows}
use Rattle.wire.specs.Order.{reply_data}
use Rattle.records.specs.declared.commands.Command.{Command}
use Rattle.records.specs.declared.commands.Command.TheVariants.{Reads, Writes, Bares, Unlisted}
use Rattle.records.specs.Record.{record_size}
use Rattle.records.specs.Commands.{payload_size, reply_length}
use Rattle.reads.specs.Reply.{reply}
use Rattle.judging.specs.Table.{monitors, whole_table, sound}

-- the reply at the start of a buffer, nearest monitor first; bytes past it stay
unfoldable pub replied : Command → ℕ → List ℕ → List ℕ → List ℕ
replied (Reads part) n table buffer = reply_data (map (reply part) (rows record_size n table)) ++ drop (payload_size * n) buffer
replied (Writes c) n table buffer = buffer
replied (Bares c) n table buffer = buffer
replied Unlisted n table buffer = buffer

-- the table holds n whole records, and their reply fits the room
unfoldable pub replies_fit : Command → ℕ → List ℕ → ℕ → Bool
replies_fit c n table room = whole_table n table && leb (reply_length c n) room

-- the table is sound, and its reply fits the room
unfoldable pub replies_into : Command → List ℕ → ℕ → Bool
replies_into c table room = sound table && leb (reply_length c (monitors table)) room
