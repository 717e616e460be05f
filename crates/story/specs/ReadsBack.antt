-- A group of six bytes a monitor, written by our host and read back: what comes back of each monitor's six.
-- Assumes nothing.
use Rattle.std.specs.Prelude.{◌≡◌, true, false, List, [], ◌∷◌, ℕ, ◌*◌, ◌%◌, ◌≤◌, ◌<◌, length, get_or, take}
use Rattle.laws.specs.Rows.{row_at}
use Rattle.records.specs.declared.commands.Command.TheVariants.{Reads, Writes}
use Rattle.records.specs.declared.commands.Write.{Write}
use Rattle.records.specs.declared.record.Part.{Part}
use Rattle.records.specs.Record.{record_size, in_lpcm}
use Rattle.records.specs.Commands.{commands, command_of, data_size, register_size, payload_size}
use Rattle.judging.specs.Table.{monitors, sound}
use Rattle.chain.specs.Frame.{table_after, reply_after}
use Rattle.host.specs.Frames.{frame_for}

-- as they were written
abbrev pub as_written : List ℕ → List ℕ
as_written six = six

-- the first two as they were written, and four of FF
abbrev pub fixed_behind-two : List ℕ → List ℕ
fixed_behind-two six = get_or six 0 0 ∷ get_or six 1 0 ∷ 0xFF ∷ 0xFF ∷ 0xFF ∷ 0xFF ∷ []

-- the bits of three thresholds of 12 bits as they were written, and 0 in the others
abbrev pub three_thresholds : List ℕ → List ℕ
three_thresholds six = get_or six 0 0 ∷ get_or six 1 0 ∷ get_or six 2 0 ∷ get_or six 3 0 ∷ get_or six 4 0 % 16 ∷ 0 ∷ []

-- our host's write and then its read, at a monitor that is not in LPCM: what the write makes of each six comes back
abbrev pub ReadsBack : Write → Part → (List ℕ → List ℕ) → Type 0
ReadsBack c p becomes =
    (table values buffer replies : List ℕ) (write read : ℕ) → command_of write commands ≡ Writes c → command_of read commands ≡ Reads p
    → sound table ≡ true → length values ≡ data_size c * monitors table → ((i : ℕ) → get_or values i 0 < 256) → payload_size * monitors table ≤ length replies
    → (k : ℕ) → k < monitors table → in_lpcm (row_at record_size k table) ≡ false
    → take register_size (row_at payload_size k (reply_after (table_after table (frame_for write (monitors table) values) (length buffer)) (frame_for read (monitors table) []) replies))
    ≡ becomes (row_at (data_size c) k values)
