-- Bits of the sheet's tables, worked out by hand: in a record of zeros with one byte set, whose they are.
-- Assumes nothing.
use mathlib.Core.Path.{◌≡◌, refl}
use mathlib.Core.Bool.{true, false}
use mathlib.Core.List.{List}
use Prim.Native.Nat.{ℕ, ◌+◌}
use lib.ListN.{set, replicate}
use Rattle.laws.specs.Bits.{odd, bit_at}
use Rattle.records.specs.Record.{configuration_a, configuration_b, pwm_a, pwm_b, record_size, bytes_of, byte_of}
use Rattle.priorities.specs.Switches.{muted, dcc, duty_byte, duty}

-- a record of zeros with one byte of a group set
abbrev pub with : ℕ → ℕ → List ℕ
with at byte = set (replicate record_size 0) at byte

pub record SheetBits : Type 0 where
  -- Table 95: PWMR0 2F has 15 for cell 1 and 2 for cell 2, PWMR5 D4 has 4 for cell 11 and 13 for cell 12
  pwmr0 : (duty (with pwm_a.at 0x2F) 1 ≡ 15) × (duty (with pwm_a.at 0x2F) 2 ≡ 2)
  pwmr5 : (duty (with (pwm_a.at + 5) 0xD4) 11 ≡ 4) × (duty (with (pwm_a.at + 5) 0xD4) 12 ≡ 13)
  -- Table 96: PSR0 43 has 3 for cell 13 and 4 for cell 14, PSR1 F1 has 1 for cell 15 and 15 for cell 16
  psr0 : (duty (with pwm_b.at 0x43) 13 ≡ 3) × (duty (with pwm_b.at 0x43) 14 ≡ 4)
  psr1 : (duty (with (pwm_b.at + 1) 0xF1) 15 ≡ 1) × (duty (with (pwm_b.at + 1) 0xF1) 16 ≡ 15)
  -- Table 56: CFGBR4 80 is cell 8's DCC and not cell 1's, CFGBR5 01 is cell 9's and not cell 16's
  cfgbr4 : (dcc (with (configuration_b.at + 4) 0x80) 8 ≡ true) × (dcc (with (configuration_b.at + 4) 0x80) 1 ≡ false)
  cfgbr5 : (dcc (with (configuration_b.at + 5) 0x01) 9 ≡ true) × (dcc (with (configuration_b.at + 5) 0x01) 16 ≡ false)
  -- Table 55: CFGAR5 10 is MUTE_ST, 20 is SNAP_ST
  cfgar5 : (muted (with (configuration_a.at + 5) 0x10) ≡ true) × (muted (with (configuration_a.at + 5) 0x20) ≡ false)

pub sheet_bits : SheetBits
unfolding muted dcc duty duty_byte bit_at odd bytes_of byte_of
sheet_bits =
    record {
      pwmr0 = (refl, refl);
      pwmr5 = (refl, refl);
      psr0 = (refl, refl);
      psr1 = (refl, refl);
      cfgbr4 = (refl, refl);
      cfgbr5 = (refl, refl);
      cfgar5 = (refl, refl);
    }
