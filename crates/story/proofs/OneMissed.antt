-- A missed write by its bytes (L5): the write of Sharp to two monitors, of which one bit of the near one's payload came turned over, and a table of two monitors with the
-- counter 63. Against 1, the next counter, the near one is seen with 63 and the far one right. By computation, and by the laws of a missed write.
-- Assumes nothing.
use mathlib.Core.Path.{◌≡◌, refl, sym}
use mathlib.Core.Bool.{true, false, false≢true}
use mathlib.Core.List.{List, [], ◌∷◌, ◌++◌}
use Prim.Native.Nat.{ℕ, zero, suc}
use native.Mathlib.Omega.{arith}
use lib.Dec.{lit≤}
use Rattle.laws.specs.Bits.{odd, bit_at, bits_of, bits_of_bytes}
use Rattle.laws.specs.Counts.{all, same}
use Rattle.laws.specs.Rows.{rows, row_at}
use Rattle.laws.proofs.BitStrings.{are_bytes}
use Rattle.pec.proofs.Spikes.{spike_of_parts}
use Rattle.records.specs.declared.commands.Command.TheVariants.{Writes}
use Rattle.records.specs.declared.commands.Write.TheVariants.{Wrcfgb}
use Rattle.records.specs.declared.record.Part.{Part}
use Rattle.records.specs.Record.{counter, in_lpcm, bytes_of, byte_in, byte_of, record_sound}
use Rattle.monitor.specs.Effects.{next_count}
use Rattle.judging.specs.Table.{monitors, sound}
use Rattle.serving.specs.Served.{Awake}
use Rattle.chain.specs.Frame.{table_after}
use Rattle.story.specs.Spikes.{StruckData, own_in, unhit}
use Rattle.story.specs.Missed.{OneCounter, SeenAs}
use Rattle.story.proofs.EitherSide.{with}
use Rattle.story.proofs.Spikes.{struck_spoilt}
use Rattle.story.proofs.Missed.{missed_seen}
use Rattle.story.proofs.Sharp.{write_sent, eleven_is_ours, not_wrrr}

-- the near one's VOV 16 higher
abbrev pub write_one : List ℕ
write_one =
    0x00 ∷ 0x24 ∷ 0xB1 ∷ 0x9E
    ∷ 0xF4 ∷ 0x51 ∷ 0x46 ∷ 0x00 ∷ 0x00 ∷ 0x10 ∷ 0x03 ∷ 0x2A
    ∷ 0xFA ∷ 0xB0 ∷ 0x37 ∷ 0x00 ∷ 0x00 ∷ 0x00 ∷ 0x02 ∷ 0x8A ∷ []

abbrev pub two63 : List ℕ
two63 = with counter (63 ∷ []) ++ with counter (63 ∷ [])

pub record OneMissed : Type 0 where
  struck : StruckData (Writes Wrcfgb) 2 write_sent write_one
  table : (sound two63 ≡ true) × (monitors two63 ≡ 2)
  one_counter : OneCounter 2 two63 63
  awake : Awake 2 two63
  near : (room : ℕ) (part : Part) → SeenAs part 2 (table_after two63 write_one room) 1 1 false 63
  far : (room : ℕ) (part : Part) → SeenAs part 2 (table_after two63 write_one room) 2 1 true 63

is_struck : StruckData (Writes Wrcfgb) 2 write_sent write_one
unfolding all bits_of_bytes bits_of odd
is_struck =
    record {
      ours = eleven_is_ours;
      spike = spike_of_parts 10 119 (are_bytes write_sent refl) (are_bytes write_one refl) refl refl (λ e. false≢true (sym e)) refl;
      same_head = refl;
    }

is_sound : sound two63 ≡ true
unfolding sound monitors record_sound rows row_at all byte_of byte_in bytes_of
is_sound = refl

are_two : monitors two63 ≡ 2
unfolding monitors
are_two = refl

have_63 : OneCounter 2 two63 63
unfolding byte_of byte_in bytes_of row_at
have_63 zero h = refl
have_63 (suc zero) h = refl
have_63 (suc (suc k)) h = absurd (omega arith)

are_awake : Awake 2 two63
unfolding in_lpcm bit_at odd byte_of byte_in bytes_of row_at
are_awake zero h = refl
are_awake (suc zero) h = refl
are_awake (suc (suc k)) h = absurd (omega arith)

pub one_missed : OneMissed
unfolding monitors unhit own_in row_at same next_count
one_missed =
    record {
      struck = is_struck;
      table = (is_sound, are_two);
      one_counter = have_63;
      awake = are_awake;
      near = λ room part. missed_seen two63 is_sound Wrcfgb (struck_spoilt is_struck) room not_wrrr 63 have_63 are_awake part 1 (lit≤ tt) (lit≤ tt);
      far = λ room part. missed_seen two63 is_sound Wrcfgb (struck_spoilt is_struck) room not_wrrr 63 have_63 are_awake part 2 (lit≤ tt) (lit≤ tt);
    }
