-- Document 02, L2, and the sheet's Tables 55 (MUTE_ST), 56 (DCC), 95 and 96 (PWM): what a record holds of the discharge of its cells.
-- Cells are counted from 1, as the paper counts them.
-- Assumes nothing.
use Rattle.std.specs.Prelude.{Bool, cond, List, ℕ, ◌-◌, ◌/◌, ◌%◌, leb, get_or}
use Rattle.laws.specs.Bits.{odd, bit_at}
use Rattle.records.specs.Record.{status_bits, dcc_bits, pwm_a, pwm_b, bytes_of, byte_of}

-- MUTE_ST
unfoldable pub muted : List ℕ → Bool
muted r = bit_at 4 (byte_of status_bits r)

-- the cell's own DCC bit: eight cells a byte, the first of them lowest
unfoldable pub dcc : List ℕ → ℕ → Bool
dcc r c = bit_at ((c - 1) % 8) (get_or (bytes_of dcc_bits r) ((c - 1) / 8) 0)

-- the byte that holds the cell's duty: two cells a byte, those of cells 1 to 12 in group A, those of cells 13 to 16 in group B
unfoldable pub duty_byte : List ℕ → ℕ → ℕ
duty_byte r c = cond (leb c 12) (get_or (bytes_of pwm_a r) ((c - 1) / 2) 0) (get_or (bytes_of pwm_b r) ((c - 13) / 2) 0)

-- the cell's duty, 0 to 15: the low half of that byte where c is odd, the high half where it is even
unfoldable pub duty : List ℕ → ℕ → ℕ
duty r c = cond (odd c) (duty_byte r c % 16) (duty_byte r c / 16 % 16)
