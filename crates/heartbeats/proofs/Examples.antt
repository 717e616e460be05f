-- Worked examples of a turn, by computation: the sheet's chain of six monitors, whose manager starts at 48 (hex).
-- Assumes nothing.
use mathlib.Core.Path.{◌≡◌, refl}
use mathlib.Core.Bool.{xor}
use mathlib.Core.List.{List, [], ◌∷◌, ◌++◌}
use Prim.Native.Nat.{ℕ}
use lib.ListN.{length, replicate}
use Rattle.laws.specs.Bits.{◌⊕◌, odd, bit_at, bits_of, bits_of_bytes}
use Rattle.laws.specs.Counts.{same}
use Rattle.pec.specs.Remainder.{once, step, remainder}
use Rattle.pec.specs.Words.{two_bytes, word_at, pec15, command_check, data_pec, seal, sealed_right}
use Rattle.records.specs.Record.{cmf1, record_size, in_lpcm, bytes_of, byte_in, byte_of, anew, on_bytes}
use Rattle.thresholds.specs.Thresholds.{signed, lower, upper, codes_of}
use Rattle.cells.specs.Cells.{code_in}
use Rattle.monitor.specs.Effects.{cells_to}
use Rattle.measuring.specs.Measuring.{cuv, cov, cdv, masked, kinds, kinds_of, kinds_in, pending, found, measured, passes}
use Rattle.messages.specs.Messages.{message_head, message, count_in, flags_in, message_right, is_pass}
use Rattle.heartbeats.specs.Steps.{manages, is_manager, is_timeout, ndev, counted_down, joined_to, woken, wakes, hears, judged, reached, answers, late}
use Rattle.std.specs.Prelude.{None}
use Rattle.heartbeats.specs.Steps.{sends}

-- a monitor that leaves out all of its cells, by byte 0 of its configuration, CMC_NDEV, CMF0 and CMF1
abbrev monitor : ℕ → ℕ → ℕ → ℕ → List ℕ
monitor kind n flags state = replicate 114 0 ++ (kind ∷ n ∷ 0xFF ∷ 0xFF ∷ 0 ∷ 0 ∷ []) ++ replicate 12 0 ++ (flags ∷ state ∷ []) ++ replicate 36 0

-- as they were enabled: the manager; one in the middle that passes; one with CMF_COV; a timeout monitor
abbrev manager : List ℕ
manager = monitor 0x80 0x48 0x00 0x83

abbrev good : List ℕ
good = monitor 0x00 0x00 0x00 0x83

abbrev bad : List ℕ
bad = monitor 0x00 0x00 0x02 0x83

abbrev last : List ℕ
last = monitor 0x08 0x00 0x00 0x83

pub record Turns : Type 0 where
  is_long : length manager ≡ record_size
  -- 48 is 47 after the manager, 46 after the next; the third fails, and leaves the count and joins its flag to those that came
  starts : wakes manager ≡ sends 0x47 0x00
  passes_on : answers (message 0x47 0x00) good ≡ sends 0x46 0x00
  fails : answers (message 0x46 0x00) bad ≡ sends 0x46 0x02
  joins : answers (message 0x46 0x08) bad ≡ sends 0x46 0x0A
  -- in eight bits
  wraps : answers (message 0x00 0x00) good ≡ sends 0xFF 0x00
  -- a timeout monitor judges after its own step and sends nothing: 43 is then 42, a pass, which clears both flags
  passed : byte_of cmf1 (reached (message 0x43 0x00) last) ≡ 0x80
  ends : answers (message 0x43 0x00) last ≡ None
  -- anything else sets CMF_BTMCMP and leaves CMF_BTMWD
  flagged : byte_of cmf1 (reached (message 0x43 0x01) (monitor 0x08 0x00 0x00 0x80)) ≡ 0x81
  missing : byte_of cmf1 (reached (message 0x42 0x00) (monitor 0x08 0x00 0x00 0x82)) ≡ 0x83
  -- the time runs out
  ran_out_lem : byte_of cmf1 (late (monitor 0x08 0x00 0x00 0x80)) ≡ 0x82
  -- one bit of the check flipped; a monitor not in LPCM; a manager
  damaged : answers (0x00 ∷ 0x43 ∷ 0x47 ∷ 0xB2 ∷ 0x47 ∷ 0x00 ∷ 0x01 ∷ 0x4F ∷ []) good ≡ None
  asleep : answers (message 0x47 0x00) (monitor 0x00 0x00 0x00 0x03) ≡ None
  taken_by-none : answers (message 0x47 0x00) manager ≡ None

pub turns : Turns
unfolding bit_at bytes_of byte_in byte_of in_lpcm anew on_bytes signed lower upper codes_of code_in cells_to cuv cov cdv masked kinds kinds_of kinds_in pending found measured passes message message_right message_head same seal sealed_right word_at two_bytes command_check pec15 data_pec remainder step once bits_of_bytes bits_of odd ◌⊕◌ xor is_pass count_in flags_in manages is_manager is_timeout ndev counted_down joined_to woken wakes hears judged reached answers late
turns =
    record {
      is_long = refl;
      starts = refl;
      passes_on = refl;
      fails = refl;
      joins = refl;
      wraps = refl;
      passed = refl;
      ends = refl;
      flagged = refl;
      missing = refl;
      ran_out_lem = refl;
      damaged = refl;
      asleep = refl;
      taken_by-none = refl;
    }
