-- Document 01, "Effects" and "Counter", and document 02, L3, L6 and L8: what one monitor keeps of an accepted frame. It depends on the command,
-- on the monitor's own record and on its own bytes.
-- Assumes nothing.
use Rattle.std.specs.Prelude.{Bool, true, false, cond, not, ◌&&◌, List, ℕ, ◌+◌, ◌%◌, eqb, ltb, length, get_or}
use Rattle.std.specs.Int.Bits.{bit_and, bit_or}
use Rattle.pec.specs.Words.{sealed_right}
use Rattle.records.specs.declared.commands.Bare.{Bare}
use Rattle.records.specs.declared.commands.Bare.TheVariants.{Mute, Unmute, Rstcc, Ulrr, Clrcell, Snap, Unsnap, Cmen, Cmdis}
use Rattle.records.specs.declared.commands.Command.{Command}
use Rattle.records.specs.declared.commands.Command.TheVariants.{Reads, Writes, Bares, Unlisted}
use Rattle.records.specs.declared.commands.Write.{Write}
use Rattle.records.specs.declared.record.Part.{Part}
use Rattle.records.specs.Record.{cells, counter, unlocked, snapshot, status_bits, cmf1, last_cells, most_count, snapped, in_lpcm, bytes_of, byte_of, on_bytes}
use Rattle.records.specs.Commands.{data_size, width_of}
use Rattle.writes.specs.Writes.{rules_of, written}

-- ---- what every accepted command does

-- the retention is locked
unfoldable pub locked : List ℕ → List ℕ
locked r = on_bytes unlocked (λ i old. 0) r

-- after 63 comes 1
unfoldable pub next_count : ℕ → ℕ
next_count n = cond (ltb n most_count) (n + 1) 1

unfoldable pub counted : List ℕ → List ℕ
counted r = on_bytes counter (λ i old. next_count old) r

-- ---- what a bare command does

-- the code -32768, low byte first
unfoldable pub cleared_byte : ℕ → ℕ
cleared_byte i = cond (eqb (i % 2) 0) 0x00 0x80

-- a part becomes what the cells are
unfoldable pub cells_to : Part → List ℕ → List ℕ
cells_to p r = on_bytes p (λ i old. get_or (bytes_of cells r) i 0) r

-- a snapshot begins: the copy becomes what the cells are, and SNAP_ST is set
unfoldable pub copied : List ℕ → List ℕ
copied r = on_bytes status_bits (λ i old. bit_or old 0x20) (cells_to snapshot r)

-- LPCM begins: the last measurement becomes what the cells are, and CMC_EN is set, as are the two flags of a timeout monitor, which stand until
-- the first heartbeat that passes
unfoldable pub enabled : List ℕ → List ℕ
enabled r = on_bytes cmf1 (λ i old. 0x83) (cells_to last_cells r)

unfoldable pub done : Bare → List ℕ → List ℕ
done Mute r = on_bytes status_bits (λ i old. bit_or old 0x10) r
done Unmute r = on_bytes status_bits (λ i old. bit_and old 0xEF) r
done Rstcc r = on_bytes counter (λ i old. 0) r
done Ulrr r = on_bytes unlocked (λ i old. 1) r
done Clrcell r = on_bytes cells (λ i old. cleared_byte i) r
done Snap r = cond (snapped r) r (copied r)
done Unsnap r = on_bytes status_bits (λ i old. bit_and old 0xDF) r
done Cmen r = cond (in_lpcm r) r (enabled r)
done Cmdis r = on_bytes cmf1 (λ i old. bit_and old 0x7F) r

-- ---- one monitor

-- its own bytes are good for a write: right, or, where the write does not need its check right, whatever bytes they are, if as many
unfoldable pub good_for : Write → List ℕ → Bool
good_for c own = cond (rules_of c).needs_check (sealed_right (data_size c) own) (eqb (length own) (width_of (Writes c)))

-- it accepts a write: its own bytes are good for it, and it is not in LPCM
unfoldable pub accepts : Write → List ℕ → List ℕ → Bool
accepts c own r = not (in_lpcm r) && good_for c own

-- the monitor takes the command: a write only if it accepts it
abbrev pub takes : Command → List ℕ → List ℕ → Bool
takes (Reads c) own r = true
takes (Writes c) own r = accepts c own r
takes (Bares c) own r = true
takes Unlisted own r = false

-- what it then has: every accepted command locks the retention first; one that is taken and is no read counts
unfoldable pub keeps : Command → List ℕ → List ℕ → List ℕ
keeps (Reads c) own r = locked r
keeps (Writes c) own r = cond (accepts c own r) (written c (byte_of unlocked r) own (counted (locked r))) (locked r)
keeps (Bares c) own r = done c (counted (locked r))
keeps Unlisted own r = r
