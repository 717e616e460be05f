-- Document 01, "On either side of the line": the fourteen worked examples, as one table under a single statement (`either_side`). By
-- computation, but for the two refusals, which hold of every sound table.
-- Assumes nothing.
use mathlib.Core.Path.{◌≡◌, refl, ap, ap₂}
use mathlib.Core.Bool.{Bool, true, false, not, xor, cond}
use mathlib.Core.List.{List, [], ◌∷◌, ◌++◌}
use Prim.Native.Nat.{ℕ}
use lib.Dec.{eqb, ltb}
use lib.IntN.{pos, negsuc}
use lib.ListN.{replicate, take}
use Rattle.laws.specs.Bits.{◌⊕◌, odd, bits_of, bits_of_bytes}
use Rattle.laws.specs.Tables.{tabulate}
use Rattle.refusals.specs.declared.Refusal.TheVariants.{TableNotSound, CommandWrong, LengthWrong, NoRoom}
use Rattle.refusals.specs.Order.{◌gives◌, decide}
use Rattle.pec.specs.Remainder.{once, step, remainder}
use Rattle.pec.specs.Words.{two_bytes, word_at, pec15, command_check, command_right, polynomial10, pec10, data_pec, seal}
use Rattle.records.specs.declared.commands.Command.TheVariants.{Bares, Writes}
use Rattle.records.specs.declared.commands.Bare.TheVariants.{Mute}
use Rattle.records.specs.declared.commands.Write.TheVariants.{Wrcfga}
use Rattle.records.specs.declared.record.Part.{Part}
use Rattle.records.specs.Commands.{commands, command_of, frame_length}
use Rattle.records.specs.Record.{configuration_a, configuration_b, counter, record_size, bytes_of, byte_in, byte_of, anew, on_bytes}
use Rattle.monitor.specs.Effects.{locked, next_count, counted, done, keeps}
use Rattle.reads.specs.Shown.{shown_part}
use Rattle.reads.specs.Reply.{six_bytes, register, reply}
use Rattle.judging.specs.Table.{monitors, sound}
use Rattle.judging.specs.Refusals.{command_in}
use Rattle.serving.specs.Served.{taken_by}
use Rattle.chain.specs.Frame.{frame_refusals, answer}
use Rattle.thresholds.specs.Thresholds.{signed, lower, upper, vuv, vov, codes_of}
use Rattle.cells.specs.Cells.{flags_for}
use Rattle.readings.specs.Readings.{microvolts}
use Rattle.std.specs.Prelude.{Err}
use Rattle.chain.specs.Frame.{took}

-- a record of zeros but for some bytes at the start of a part
abbrev pub with : Part → List ℕ → List ℕ
with p bytes = take record_size (replicate p.at 0 ++ bytes ++ replicate record_size 0)

-- a sound table, and a 1 in the last place of a command's check
abbrev pub wrong_check : List ℕ
wrong_check = 0x00 ∷ 0x02 ∷ 0x2B ∷ 0x0B ∷ []

check_refused : (table : List ℕ) (room : ℕ) → sound table ≡ true → answer table wrong_check room ≡ Err CommandWrong
unfolding answer frame_refusals decide command_right word_at pec15 once step remainder bits_of bits_of_bytes ◌⊕◌ xor odd
check_refused table room s = ap (λ (b : Bool). cond (not b) (Err TableNotSound) (Err CommandWrong)) s

-- one monitor, and a write that has no payload
abbrev pub no_payload : List ℕ
no_payload = 0x00 ∷ 0x01 ∷ 0x3D ∷ 0x6E ∷ []

length-refused : (table : List ℕ) (room : ℕ) → sound table ≡ true → monitors table ≡ 1 → answer table no_payload room ≡ Err LengthWrong
unfolding answer frame_refusals decide command_right command_in command_of commands word_at pec15 once step remainder bits_of bits_of_bytes ◌⊕◌ xor odd
length-refused table room s one =
    ap₂ (λ (b : Bool) (n : ℕ).
    decide
    ((not b gives TableNotSound) ∷ (not (eqb 4 (frame_length (Writes Wrcfga) n)) gives LengthWrong) ∷ (ltb room 0 gives NoRoom) ∷ [])
    Err
    (took (taken_by (Writes Wrcfga) n table no_payload) 0)) s one

pub record EitherSide : Type 0 where
  -- 1 and 2: what is sent after a command code
  command_0001 : command_check 0x0001 ≡ 0x3D ∷ 0x6E ∷ []
  command_0002 : command_check 0x0002 ≡ 0x2B ∷ 0x0A ∷ []
  -- 3 to 6: data remainders
  byte_00 : pec10 (0x00 ∷ []) ≡ 0x23C
  byte_01 : pec10 (0x01 ∷ []) ≡ 0x2B3
  zeros_48 : remainder 10 polynomial10 16 (replicate 48 false) ≡ 0x331
  zeros_54 : remainder 10 polynomial10 16 (replicate 54 false) ≡ 0x3E3
  -- 7: the reply for six zero bytes and the counter 0
  reply_of_zeros : reply configuration_a (replicate record_size 0) ≡ 0 ∷ 0 ∷ 0 ∷ 0 ∷ 0 ∷ 0 ∷ 0x03 ∷ 0xE3 ∷ []
  -- 8 and 9: refusals
  check_is_refused : (table : List ℕ) (room : ℕ) → sound table ≡ true → answer table wrong_check room ≡ Err CommandWrong
  length_is_refused : (table : List ℕ) (room : ℕ) → sound table ≡ true → monitors table ≡ 1 → answer table no_payload room ≡ Err LengthWrong
  -- 10: configuration B's thresholds
  lowest_step : vuv (with configuration_b (0x00 ∷ 0x48 ∷ 0x06 ∷ [])) ≡ record { 0 = negsuc 2047 }
  hundred_steps : vov (with configuration_b (0x00 ∷ 0x48 ∷ 0x06 ∷ [])) ≡ record { 0 = pos 100 }
  -- 11 and 12: a code at a threshold raises no flag, one past it does (UV counts 1, OV 2)
  at_the_upper : flags_for (record { 0 = pos 1600 }) (codes_of (record { 0 = pos 0 })) (codes_of (record { 0 = pos 100 })) ≡ 0
  above_the_upper : flags_for (record { 0 = pos 1601 }) (codes_of (record { 0 = pos 0 })) (codes_of (record { 0 = pos 100 })) ≡ 2
  at_the_lower : flags_for (record { 0 = negsuc 15 }) (codes_of (record { 0 = negsuc 0 })) (codes_of (record { 0 = pos 0 })) ≡ 0
  below_the_lower : flags_for (record { 0 = negsuc 16 }) (codes_of (record { 0 = negsuc 0 })) (codes_of (record { 0 = pos 0 })) ≡ 1
  -- 13: the counter at 63, and MUTE
  after_63 : byte_of counter (keeps (Bares Mute) [] (with counter (63 ∷ []))) ≡ 1
  -- 14: microvolts
  no_volts : microvolts (record { 0 = negsuc 9_999 }) ≡ pos 0
  most_volts : microvolts (record { 0 = pos 32_767 }) ≡ pos 6_415_050
  least-volts : microvolts (record { 0 = negsuc 32_766 }) ≡ negsuc 3_415_049

pub either_side : EitherSide
unfolding once step remainder bits_of bits_of_bytes tabulate two_bytes pec15 command_check pec10 data_pec seal bytes_of byte_of anew on_bytes signed vuv vov codes_of flags_for locked next_count counted done keeps shown_part six_bytes register reply microvolts ◌⊕◌ xor odd lower upper byte_in
either_side =
    record {
      command_0001 = refl;
      command_0002 = refl;
      byte_00 = refl;
      byte_01 = refl;
      zeros_48 = refl;
      zeros_54 = refl;
      reply_of_zeros = refl;
      check_is_refused = check_refused;
      length_is_refused = length-refused;
      lowest_step = refl;
      hundred_steps = refl;
      at_the_upper = refl;
      above_the_upper = refl;
      at_the_lower = refl;
      below_the_lower = refl;
      after_63 = refl;
      no_volts = refl;
      most_volts = refl;
      least-volts = refl;
    }
