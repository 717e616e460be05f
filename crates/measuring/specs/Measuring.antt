-- Document 02, L8, by the sheet's "LPCM thresholds" and Tables 97, 98, 100 and 115: one monitor's measurement in LPCM. What it compares, which kinds of
-- violation it finds, and what its record then is. All comparisons are strict. A cleared cell is the code -32768 like any other here. GPIOs are never
-- measured. Cells are counted from 0 here: cell c of the paper is c - 1.
-- Assumes nothing.
use Rattle.std.specs.Prelude.{Bool, false, cond, not, ◌||◌, List, ℕ, zero, suc, ◌+◌, ◌*◌, ◌/◌, ◌%◌, eqb, ℤ, pos, ◌-ℤ◌}
use Rattle.std.specs.Int.Bits.{bit_and, bit_or}
use Rattle.std.specs.Int.Signed.{lt_z}
use Rattle.laws.specs.Bits.{bit_at}
use Rattle.records.specs.Record.{cell_count, cells, status_c, cmf0, lpcm_configuration, lpcm_cell_thresholds, last_cells, byte_in, byte_of, on_bytes}
use Rattle.thresholds.specs.declared.thresholds.ThresholdStep.{ThresholdStep}
use Rattle.thresholds.specs.Thresholds.{lower, upper, codes_of}
use Rattle.cells.specs.Cells.{code_in}
use Rattle.monitor.specs.Effects.{cells_to}

-- ---- the settings

-- CUV and COV lie as VUV and VOV do, in steps of 16 codes
unfoldable pub cuv : List ℕ → ThresholdStep
cuv r = lower lpcm_cell_thresholds r

unfoldable pub cov : List ℕ → ThresholdStep
cov r = upper lpcm_cell_thresholds r

-- CDV: byte 3 with the low half of byte 4 above it, unsigned, in steps of 8 codes
unfoldable pub cdv : List ℕ → ℕ
cdv r = byte_in lpcm_cell_thresholds r 3 + byte_in lpcm_cell_thresholds r 4 % 16 * 256

-- CMM_C: the cell is left out. Cells 1 to 8 have the bits of byte 2, cells 9 to 16 those of byte 3
unfoldable pub masked : List ℕ → ℕ → Bool
masked r c = bit_at (c % 8) (byte_in lpcm_configuration r (2 + c / 8))

-- ---- what is found

-- the kinds that a code violates, at their bits of CMF0: CUV below the lower limit, COV above the upper one, CDVN where it has fallen and CDVP where it has
-- risen by more than the step since the last
unfoldable pub kinds : ℤ → ℤ → ℤ → ℤ → ℤ → ℕ
kinds code last low high step =
    cond (lt_z code low) 0x01 0 + cond (lt_z high code) 0x02 0 + cond (lt_z step (last -ℤ code)) 0x04 0 + cond (lt_z step (code -ℤ last)) 0x08 0

-- those of a cell that is not left out
unfoldable pub kinds_of : List ℕ → ℕ → ℕ
kinds_of r c =
    cond (masked r c) 0
    (kinds (code_in cells r c).0 (code_in last_cells r c).0 (codes_of (cuv r)).0 (codes_of (cov r)).0 (pos (8 * cdv r)))

-- those of the first n cells
unfoldable pub kinds_in : List ℕ → ℕ → ℕ
kinds_in r zero = 0
kinds_in r (suc n) = bit_or (kinds_in r n) (kinds_of r n)

-- a diagnostic is pending in status C: VA_OV, VA_UV, VD_OV, VD_UV, VDE, VDEL, SPIFLT, TMODCHK or OSCCHK
unfoldable pub pending : List ℕ → Bool
pending r = not (eqb (bit_and (byte_in status_c r 4) 0xF0) 0) || not (eqb (bit_and (byte_in status_c r 5) 0xD3) 0)

-- it makes all eight
unfoldable pub found : List ℕ → ℕ
found r = cond (pending r) 0xFF (kinds_in r cell_count)

-- ---- what the record becomes

-- what is found joins CMF0, and the live cells, those left out too, become the last measurement
unfoldable pub measured : List ℕ → List ℕ
measured r = on_bytes cmf0 (λ i old. bit_or old (found r)) (cells_to last_cells r)

-- the monitor passes: no flag stands then, of this measurement or an earlier one
unfoldable pub passes : List ℕ → Bool
passes r = eqb (byte_of cmf0 (measured r)) 0

-- ---- by cell and kind

-- a cell violates the kind whose bit of CMF0 is k: below the lower limit, above the upper one, fallen or risen by more than the step
unfoldable pub violates : ℕ → List ℕ → ℕ → Bool
violates zero r c = lt_z (code_in cells r c).0 (codes_of (cuv r)).0
violates (suc zero) r c = lt_z (codes_of (cov r)).0 (code_in cells r c).0
violates (suc (suc zero)) r c = lt_z (pos (8 * cdv r)) ((code_in last_cells r c).0 -ℤ (code_in cells r c).0)
violates (suc (suc (suc zero))) r c = lt_z (pos (8 * cdv r)) ((code_in cells r c).0 -ℤ (code_in last_cells r c).0)
violates (suc (suc (suc (suc k)))) r c = false
