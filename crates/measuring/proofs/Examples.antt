-- Worked examples of a measurement, by computation: the sheet's two settings, each limit one code inside and one outside, and what is pending.
-- Assumes nothing.
use mathlib.Core.Path.{◌≡◌, refl}
use mathlib.Core.Bool.{true, false}
use mathlib.Core.List.{List, [], ◌∷◌, ◌++◌}
use Prim.Native.Nat.{ℕ, ◌+◌, ◌-◌, ◌/◌, ◌%◌}
use lib.IntN.{pos}
use lib.ListN.{length, replicate}
use Rattle.laws.specs.Bits.{odd, bit_at}
use Rattle.records.specs.Record.{cmf0, status_c, record_size, bytes_of, byte_in, byte_of, anew, on_bytes}
use Rattle.thresholds.specs.Thresholds.{signed, lower, upper, codes_of}
use Rattle.cells.specs.Cells.{code_in}
use Rattle.monitor.specs.Effects.{cells_to}
use Rattle.measuring.specs.Measuring.{cuv, cov, cdv, masked, kinds, kinds_of, kinds_in, pending, found, measured, passes}

-- a record with a cell of two codes, given as 16 bits, the live one and the last, which the mask may leave alone; and the limits
abbrev cell : List ℕ → List ℕ → ℕ → ℕ → List ℕ
cell mask limits live last =
    replicate 12 0 ++ (live % 256 ∷ live / 256 ∷ []) ++ replicate 100 0 ++ (0 ∷ 0 ∷ []) ++ mask ++ (0 ∷ 0 ∷ []) ++ limits ++ replicate 12 0 ++ (last % 256 ∷ last / 256 ∷ []) ++ replicate 30 0

-- cell 1 alone is measured, and none
abbrev cell1 : List ℕ
cell1 = 0xFE ∷ 0xFF ∷ []

abbrev no_cell : List ℕ
no_cell = 0xFF ∷ 0xFF ∷ []

-- all of them
abbrev every_cell : List ℕ
every_cell = 0x00 ∷ 0x00 ∷ []

-- CUV and COV 1, 16 codes; and the widest, -2048 and 2047, with a CDV of 1, 8 codes
abbrev sixteen : List ℕ
sixteen = 0x01 ∷ 0x10 ∷ 0x00 ∷ 0 ∷ 0 ∷ 0 ∷ []

abbrev widest : List ℕ
widest = 0x00 ∷ 0xF8 ∷ 0x7F ∷ 1 ∷ 0 ∷ 0 ∷ []

-- a record of zeros but for two bytes of status C
abbrev status : ℕ → ℕ → List ℕ
status four five = replicate (status_c.at + 4) 0 ++ (four ∷ five ∷ []) ++ replicate (record_size - 50) 0

pub record Measurements : Type 0 where
  -- the sheet: 2.5 V is CUV 1A1, the nearest step of 2.4 mV above 1.5 V, and 0.2 V is CDV 0A7, the nearest step of 1.2 mV
  cuv_rounds : (2_500_000 - 1_500_000 + 1_200) / 2_400 ≡ 0x1A1
  cuv_lies : cuv (cell cell1 (0xA1 ∷ 0x01 ∷ 0 ∷ 0 ∷ 0 ∷ 0 ∷ []) 0 0) ≡ record { 0 = pos 0x1A1 }
  cdv_rounds : (200_000 + 600) / 1_200 ≡ 0x0A7
  cdv_lies : cdv (cell cell1 (0 ∷ 0 ∷ 0 ∷ 0xA7 ∷ 0x00 ∷ 0 ∷ []) 0 0) ≡ 0x0A7
  cdv_unsigned : cdv (cell cell1 (0 ∷ 0 ∷ 0 ∷ 0xFF ∷ 0x0F ∷ 0 ∷ []) 0 0) ≡ 4_095
  -- a record: every example has as many bytes
  is_long : length (cell cell1 sixteen 16 16) ≡ record_size
  -- nothing is set and nothing stored: it passes
  zeros_pass : passes (status 0 0) ≡ true
  -- a cell at -32768, among cells at 0: CUV, and CDVN where the last was 0
  cleared_found : found (cell every_cell (replicate 6 0) 0x8000 0x8000) ≡ 0x01
  cleared_fails : passes (cell every_cell (replicate 6 0) 0x8000 0x8000) ≡ false
  cleared_fell : byte_of cmf0 (measured (cell every_cell (replicate 6 0) 0x8000 0)) ≡ 0x05
  -- but for a CUV of -2048
  lowest_passes : passes (cell every_cell widest 0x8000 0x8000) ≡ true
  -- a code at 16 CUV and 16 COV passes, one below is CUV, one above COV
  at_both : passes (cell cell1 sixteen 16 16) ≡ true
  below : found (cell cell1 sixteen 15 15) ≡ 0x01
  above : found (cell cell1 sixteen 17 17) ≡ 0x02
  -- a rise of 8 CDV passes, one more is CDVP; a fall of 8 CDV passes, one more is CDVN
  rise : passes (cell cell1 widest 8 0) ≡ true
  rose : found (cell cell1 widest 9 0) ≡ 0x08
  fall : passes (cell cell1 widest 0xFFF8 0) ≡ true
  fell : found (cell cell1 widest 0xFFF7 0) ≡ 0x04
  -- the widest jump between the limits
  jump : found (cell cell1 widest 0x7FF0 0x8000) ≡ 0x08
  -- a cell that is left out
  left_out : passes (cell no_cell sixteen 0x8000 0x7FFF) ≡ true
  -- VD_UV is pending, and makes all eight; COMP, SLEEP and THSD are no such diagnostics, nor are CED, CMED, SED and SMED
  vd_uv : byte_of cmf0 (measured (status 0x10 0)) ≡ 0xFF
  others : passes (status 0x0F 0x2C) ≡ true

pub measurements : Measurements
unfolding bit_at odd bytes_of byte_in byte_of anew on_bytes signed lower upper codes_of code_in cells_to cuv cov cdv masked kinds kinds_of kinds_in pending found measured passes
measurements =
    record {
      cuv_rounds = refl;
      cuv_lies = refl;
      cdv_rounds = refl;
      cdv_lies = refl;
      cdv_unsigned = refl;
      is_long = refl;
      zeros_pass = refl;
      cleared_found = refl;
      cleared_fails = refl;
      cleared_fell = refl;
      lowest_passes = refl;
      at_both = refl;
      below = refl;
      above = refl;
      rise = refl;
      rose = refl;
      fall = refl;
      fell = refl;
      jump = refl;
      left_out = refl;
      vd_uv = refl;
      others = refl;
    }
