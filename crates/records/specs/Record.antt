-- Document 01, "The table", and document 02, L2, L6 and L8: one monitor's record, its parts by name. Sizes and offsets stand here and nowhere else.
-- Assumes nothing.
use Rattle.std.specs.Prelude.{Bool, ◌&&◌, List, ◌⊎◌, ℕ, zero, suc, ◌+◌, ◌*◌, ◌≤◌, eqb, leb, length, take, drop, get_or, set}
use Rattle.laws.specs.Bits.{bit_at}
use Rattle.records.specs.declared.record.Part.{Part}

-- a part is the code's struct: where it begins, and how many bytes it has
abbrev part : ℕ → ℕ → Part
part a n = record { at = a; size = n }

abbrev pub configuration_a : Part
configuration_a = part 0 6

abbrev pub configuration_b : Part
configuration_b = part 6 6

-- the cells of a monitor
abbrev pub cell_count : ℕ
cell_count = 16

-- cells 1 to 16, two bytes each, low byte first
abbrev pub cells : Part
cells = part 12 32

abbrev pub status_c : Part
status_c = part 44 6

abbrev pub status_d : Part
status_d = part 50 6

abbrev pub retention : Part
retention = part 56 6

abbrev pub serial_id : Part
serial_id = part 62 6

abbrev pub counter : Part
counter = part 68 1

abbrev pub unlocked : Part
unlocked = part 69 1

-- the duties of cells 1 to 12
abbrev pub pwm_a : Part
pwm_a = part 70 6

-- the duties of cells 13 to 16
abbrev pub pwm_b : Part
pwm_b = part 76 6

-- the copy of the cells that SNAP takes
abbrev pub snapshot : Part
snapshot = part 82 32

-- low power cell monitoring (LPCM): its configuration, the thresholds of the cells and of the GPIOs, and the flags CMF0 to CMF5
abbrev pub lpcm_configuration : Part
lpcm_configuration = part 114 6

abbrev pub lpcm_cell_thresholds : Part
lpcm_cell_thresholds = part 120 6

abbrev pub lpcm_gpio_thresholds : Part
lpcm_gpio_thresholds = part 126 6

abbrev pub lpcm_flags : Part
lpcm_flags = part 132 6

-- the cells of the last measurement in LPCM
abbrev pub last_cells : Part
last_cells = part 138 32

abbrev pub record_size : ℕ
record_size = 170

-- ---- parts of parts

-- byte 5 of configuration A, with SNAP_ST at bit 5 and MUTE_ST at bit 4
abbrev pub status_bits : Part
status_bits = part (configuration_a.at + 5) 1

-- bytes 4 and 5 of configuration B, with the DCC bits of cells 1 to 8 and of cells 9 to 16
abbrev pub dcc_bits : Part
dcc_bits = part (configuration_b.at + 4) 2

-- the bytes of status D that hold the cells' flags
abbrev pub flags : Part
flags = part status_d.at 4

-- CMF0, with a bit for each kind of violation
abbrev pub cmf0 : Part
cmf0 = part lpcm_flags.at 1

-- CMF1, with CMC_EN at bit 7
abbrev pub cmf1 : Part
cmf1 = part (lpcm_flags.at + 1) 1

-- three cells, as the sheet's registers A to E hold them; g counts from 0
abbrev pub three_cells : ℕ → Part
three_cells g = part (cells.at + 6 * g) 6

-- cell 16 alone, of register F
abbrev pub cell16 : Part
cell16 = part (cells.at + 30) 2

-- ---- what a part holds, and changing it

unfoldable pub bytes_of : Part → List ℕ → List ℕ
bytes_of p r = take p.size (drop p.at r)

-- byte i of a part, and 0 past its end
unfoldable pub byte_in : Part → List ℕ → ℕ → ℕ
byte_in p r i = get_or (bytes_of p r) i 0

-- the byte of a part that has one
unfoldable pub byte_of : Part → List ℕ → ℕ
byte_of p r = get_or r p.at 0

-- SNAP_ST: a snapshot is on
unfoldable pub snapped : List ℕ → Bool
snapped r = bit_at 5 (byte_of status_bits r)

-- CMC_EN: the monitor is in LPCM
unfoldable pub in_lpcm : List ℕ → Bool
in_lpcm r = bit_at 7 (byte_of cmf1 r)

-- n bytes from a place on are none of a part's
abbrev pub Outside : Part → ℕ → ℕ → Type 0
Outside p at n = (at + n ≤ p.at) ⊎ (p.at + p.size ≤ at)

-- n bytes from a place on, each anew: from its place among them, and what it was
unfoldable pub anew : (ℕ → ℕ → ℕ) → ℕ → ℕ → List ℕ → List ℕ
anew f at zero r = r
anew f at (suc n) r = set (anew f at n r) (at + n) (f n (get_or r (at + n) 0))

-- the bytes of a part, each anew
unfoldable pub on_bytes : Part → (ℕ → ℕ → ℕ) → List ℕ → List ℕ
on_bytes p f r = anew f p.at p.size r

-- ---- a record that is one

unfoldable pub is_record : List ℕ → Bool
is_record r = eqb (length r) record_size

-- a command counter is 0 to 63
abbrev pub most_count : ℕ
most_count = 63

-- the counter is at most that, and the retention byte 0 or 1; other bytes are free
unfoldable pub record_sound : List ℕ → Bool
record_sound r = leb (byte_of counter r) most_count && leb (byte_of unlocked r) 1
