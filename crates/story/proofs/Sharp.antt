-- On either side of what the check words see (L7), by frames of our host as they were sent and as they came: ten places behind a command that
-- are seen and eleven that are not, the last place of a command that is seen and sixteen places that are not, each with what comes of it.
-- Those that are not seen are the places of the check's own polynomial, which leaves nothing. By computation; what comes of it holds of
-- every sound table, of two monitors where the frame is for two.
-- Assumes nothing.
use mathlib.Core.Path.{◌≡◌, refl, sym, ap, ap₂, ◌∙◌, subst⁻¹}
use mathlib.Core.Bool.{Bool, true, false, cond, not, xor, ◌&&◌, false≢true}
use mathlib.Core.List.{List, [], ◌∷◌}
use Prim.Native.Nat.{ℕ, ◌+◌, ◌-◌, ◌≤◌, ◌<◌}
use native.Mathlib.Omega.{arith}
use lib.Dec.{lit≤}
use lib.IntN.{pos}
use lib.ListN.{get_or, take, drop}
use borrow.Author.Tests.{le-ltb, le-leb}
use Rattle.laws.specs.Bits.{◌⊕◌, odd, bits_of, bits_of_bytes}
use Rattle.laws.specs.Counts.{all, count, same}
use Rattle.laws.specs.Rows.{rows, row_at, joined}
use Rattle.laws.specs.Tables.{tabulate}
use Rattle.laws.proofs.BitStrings.{are_bytes}
use Rattle.laws.proofs.Counts.{and-false}
use Rattle.pec.specs.Remainder.{once, step, remainder}
use Rattle.pec.specs.Spikes.{Spike}
use Rattle.pec.specs.Words.{two_bytes, word_at, pec15, command_check, command_right, data_pec, seal, sealed_right}
use Rattle.pec.proofs.Spikes.{spike_of_parts}
use Rattle.wire.specs.Order.{farthest_first, write_data, write_payloads}
use Rattle.refusals.specs.declared.Refusal.TheVariants.{CommandWrong}
use Rattle.refusals.specs.Order.{Passed}
use Rattle.records.specs.declared.commands.Bare.TheVariants.{Mute, Unmute}
use Rattle.records.specs.declared.commands.Command.TheVariants.{Writes, Bares}
use Rattle.records.specs.declared.commands.Write.TheVariants.{Wrcfgb, Wrrr}
use Rattle.records.specs.Record.{configuration_b, unlocked, record_size, in_lpcm, bytes_of, byte_in, byte_of, on_bytes}
use Rattle.records.specs.Commands.{commands, command_of, most_monitors, register_size, payload_size}
use Rattle.writes.specs.Writes.{rules_of}
use Rattle.writes.proofs.Written.{opens_always}
use Rattle.monitor.specs.Effects.{locked, counted, done, keeps}
use Rattle.monitor.proofs.Keeping.{right-good, accepts_awake}
use Rattle.judging.specs.Table.{monitors, sound}
use Rattle.judging.specs.Refusals.{command_in}
use Rattle.serving.specs.Served.{Awake, payloads_in}
use Rattle.chain.specs.Frame.{frame_refusals, answer, table_after}
use Rattle.thresholds.specs.Thresholds.{signed, upper, vov}
use Rattle.host.specs.Frames.{head_size, sealed, body, frame_for, build_refusals}
use Rattle.story.specs.Spikes.{Ours, StruckData, StruckCommand, own_in, unhit, unhit_awake}
use Rattle.story.proofs.Accepted.{write_answer_awake, bare_answer, kept_at}
use Rattle.story.proofs.ReadBack.{stores-whole}
use Rattle.story.proofs.EitherSide.{with}
use Rattle.story.proofs.Spoilt.{came-passes, came-command, struck_answer}
use Rattle.story.proofs.Spikes.{struck_spoilt, struck_refused_any}
use Rattle.std.specs.Prelude.{Err}
use Rattle.chain.specs.Frame.{took}

-- WRCFGB to two monitors: the near one is to get VUV 250 and VOV 875, steps of 2.4 mV above 1.5 V: 2.1 V and 3.6 V
abbrev pub write_sent : List ℕ
write_sent =
    0x00 ∷ 0x24 ∷ 0xB1 ∷ 0x9E
    ∷ 0xF4 ∷ 0x51 ∷ 0x46 ∷ 0x00 ∷ 0x00 ∷ 0x10 ∷ 0x03 ∷ 0x2A
    ∷ 0xFA ∷ 0xB0 ∷ 0x36 ∷ 0x00 ∷ 0x00 ∷ 0x00 ∷ 0x02 ∷ 0x8A ∷ []

abbrev pub near_sent : List ℕ
near_sent = 0xFA ∷ 0xB0 ∷ 0x36 ∷ 0x00 ∷ 0x00 ∷ 0x00 ∷ 0x02 ∷ 0x8A ∷ []

-- all of ten bits in a row turned over, the last five of the far payload and the first five of the near one
abbrev pub write_ten : List ℕ
write_ten =
    0x00 ∷ 0x24 ∷ 0xB1 ∷ 0x9E
    ∷ 0xF4 ∷ 0x51 ∷ 0x46 ∷ 0x00 ∷ 0x00 ∷ 0x10 ∷ 0x03 ∷ 0x35
    ∷ 0x02 ∷ 0xB0 ∷ 0x36 ∷ 0x00 ∷ 0x00 ∷ 0x00 ∷ 0x02 ∷ 0x8A ∷ []

-- six of eleven bits in a row turned over, all in the near payload: its VOV is 2027, 6.36 V, and its byte of the discharge timer F0
abbrev pub write_came : List ℕ
write_came =
    0x00 ∷ 0x24 ∷ 0xB1 ∷ 0x9E
    ∷ 0xF4 ∷ 0x51 ∷ 0x46 ∷ 0x00 ∷ 0x00 ∷ 0x10 ∷ 0x03 ∷ 0x2A
    ∷ 0xFA ∷ 0xB0 ∷ 0x7E ∷ 0xF0 ∷ 0x00 ∷ 0x00 ∷ 0x02 ∷ 0x8A ∷ []

abbrev pub near_came : List ℕ
near_came = 0xFA ∷ 0xB0 ∷ 0x7E ∷ 0xF0 ∷ 0x00 ∷ 0x00 ∷ 0x02 ∷ 0x8A ∷ []

-- MUTE; the 0 after its check turned over; and eight of sixteen bits in a row turned over: UNMUTE
abbrev pub mute_sent : List ℕ
mute_sent = 0x00 ∷ 0x28 ∷ 0xE8 ∷ 0x0E ∷ []

abbrev pub mute_last : List ℕ
mute_last = 0x00 ∷ 0x28 ∷ 0xE8 ∷ 0x0F ∷ []

abbrev pub mute_came : List ℕ
mute_came = 0x00 ∷ 0x29 ∷ 0x63 ∷ 0x3C ∷ []

pub record Sharp : Type 0 where
  -- ten places over the border of the two payloads: it is a struck write, and neither monitor takes it
  ten : StruckData (Writes Wrcfgb) 2 write_sent write_ten
  ten_taken : (table : List ℕ) (room : ℕ) → sound table ≡ true → monitors table ≡ 2 → answer table write_ten room ≡ took 0 0
  -- eleven places behind the command of the same frame: both monitors take it, where neither is in LPCM
  eleven_ours : Ours (Writes Wrcfgb) 2 write_sent
  eleven : Spike 11 write_sent write_came
  eleven_head : take head_size write_came ≡ take head_size write_sent
  eleven_taken : (table : List ℕ) (room : ℕ) → sound table ≡ true → monitors table ≡ 2 → Awake 2 table → answer table write_came room ≡ took 2 0
  -- the near one stores what came, and counts: another VOV; the far one does as with the frame that was sent
  eleven_stored : (table : List ℕ) (room : ℕ) → sound table ≡ true → monitors table ≡ 2 → in_lpcm (row_at record_size 0 table) ≡ false
      → row_at record_size 0 (table_after table write_came room) ≡ on_bytes configuration_b (λ i old. get_or near_came i 0) (counted (locked (row_at record_size 0 table)))
  eleven_vov : (vov (with configuration_b (take register_size near_sent)) ≡ record { 0 = pos 875 }) × (vov (with configuration_b (take register_size near_came)) ≡ record { 0 = pos 2027 })
  eleven_far : (table : List ℕ) (room : ℕ) → sound table ≡ true → monitors table ≡ 2
      → row_at record_size 1 (table_after table write_came room) ≡ row_at record_size 1 (table_after table write_sent room)
  -- the last place of a command alone: it is a struck command, for any number of monitors, and it is refused
  last_place : (n : ℕ) → 1 ≤ n → n ≤ most_monitors → StruckCommand (Bares Mute) n mute_sent mute_last
  last-refused : (table : List ℕ) (room : ℕ) → sound table ≡ true → answer table mute_last room ≡ Err CommandWrong
  -- sixteen places of the same command: all take it, and each ends its mute
  sixteen-ours : (n : ℕ) → 1 ≤ n → n ≤ most_monitors → Ours (Bares Mute) n mute_sent
  sixteen : Spike 16 mute_sent mute_came
  sixteen-taken : (table : List ℕ) (room : ℕ) → sound table ≡ true → answer table mute_came room ≡ took (monitors table) 0
  sixteen_unmutes : (table : List ℕ) (room : ℕ) → sound table ≡ true → (k : ℕ) → k < monitors table
      → row_at record_size k (table_after table mute_came room) ≡ done Unmute (counted (locked (row_at record_size k table)))

-- ---- the write

pub eleven_is_ours : Ours (Writes Wrcfgb) 2 write_sent
unfolding command_of commands build_refusals frame_for body sealed seal two_bytes command_check pec15 data_pec write_data farthest_first joined rows once step remainder bits_of bits_of_bytes ◌⊕◌ xor odd
eleven_is_ours =
    record {
      code = 0x0024;
      values = 0xFA ∷ 0xB0 ∷ 0x36 ∷ 0x00 ∷ 0x00 ∷ 0x00 ∷ 0xF4 ∷ 0x51 ∷ 0x46 ∷ 0x00 ∷ 0x00 ∷ 0x10 ∷ [];
      its = refl;
      passed = (refl, (refl, (refl, (refl, tt))));
      built = refl;
    }

ten_struck : StruckData (Writes Wrcfgb) 2 write_sent write_ten
unfolding all bits_of_bytes bits_of odd
ten_struck =
    record {
      ours = eleven_is_ours;
      spike = spike_of_parts 10 91 (are_bytes write_sent refl) (are_bytes write_ten refl) refl refl (λ e. false≢true (sym e)) refl;
      same_head = refl;
    }

both_hit : (table : List ℕ) → unhit_awake (Writes Wrcfgb) 2 table write_sent write_ten ≡ 0
unfolding unhit_awake unhit own_in row_at same count tabulate
both_hit table =
    ap₂ (λ (near far : Bool). cond near 1 0 + (cond far 1 0 + 0)) (and-false (not (in_lpcm (row_at record_size 0 table)))) (and-false (not (in_lpcm (row_at record_size 1 table))))

pub not_wrrr : Wrcfgb ≡ Wrrr → ⊥
not_wrrr e = let z : ◌≡◌ {A = ℕ} 0 1 = cc in omega arith

eleven_spike : Spike 11 write_sent write_came
unfolding all bits_of_bytes bits_of odd
eleven_spike = spike_of_parts 11 113 (are_bytes write_sent refl) (are_bytes write_came refl) refl refl (λ e. false≢true (sym e)) refl

module _ (table : List ℕ) (room : ℕ) (s : sound table ≡ true) (two : monitors table ≡ 2) where
  ten_is_taken : answer table write_ten room ≡ took 0 0
  ten_is_taken =
      struck_answer table s Wrcfgb (struck_spoilt (subst⁻¹ (λ (n : ℕ). StruckData (Writes Wrcfgb) n write_sent write_ten) two ten_struck)) not_wrrr room
      ∙ ap (λ (n : ℕ). took (unhit_awake (Writes Wrcfgb) n table write_sent write_ten) 0) two
      ∙ ap (λ (taken : ℕ). took taken 0) (both_hit table)

  ours_here : Ours (Writes Wrcfgb) (monitors table) write_sent
  ours_here = subst⁻¹ (λ (n : ℕ). Ours (Writes Wrcfgb) n write_sent) two eleven_is_ours

  eleven_passes : Passed (frame_refusals table write_came room)
  eleven_passes = came-passes table write_sent write_came s ours_here refl refl room

  eleven_its : command_in write_came ≡ Writes Wrcfgb
  eleven_its = came-command table write_sent write_came s ours_here refl refl

  both_right : count (sealed_right 6) (payloads_in (Writes Wrcfgb) write_came 2) ≡ 2
  unfolding payloads_in write_payloads farthest_first rows count sealed_right word_at data_pec once step remainder bits_of bits_of_bytes ◌⊕◌ xor odd
  both_right = refl

  eleven_is_taken : Awake 2 table → answer table write_came room ≡ took 2 0
  eleven_is_taken awake =
      write_answer_awake table write_came room eleven_passes Wrcfgb not_wrrr eleven_its (λ k h. awake k (omega (arith, two)))
      ∙ ap (λ (n : ℕ). took (count (sealed_right 6) (payloads_in (Writes Wrcfgb) write_came n)) 0) two
      ∙ ap (λ (taken : ℕ). took taken 0) both_right

  near_right : sealed_right 6 (row_at payload_size 1 (drop head_size write_came)) ≡ true
  unfolding row_at sealed_right word_at data_pec once step remainder bits_of bits_of_bytes ◌⊕◌ xor odd
  near_right = refl

  eleven_is_stored : in_lpcm (row_at record_size 0 table) ≡ false
      → row_at record_size 0 (table_after table write_came room) ≡ on_bytes configuration_b (λ i old. get_or near_came i 0) (counted (locked (row_at record_size 0 table)))
  unfolding row_at
  eleven_is_stored awake =
      let r = row_at record_size 0 table in
      let own = row_at payload_size 1 (drop head_size write_came) in
      kept_at table write_came room eleven_passes eleven_its 0 (omega arith)
      ∙ ap (λ (n : ℕ). keeps (Writes Wrcfgb) (row_at payload_size (n - 1) (drop head_size write_came)) r) two
      ∙ stores-whole Wrcfgb refl refl refl own r (accepts_awake Wrcfgb own r awake ∙ right-good Wrcfgb own near_right) (opens_always (rules_of Wrcfgb) (byte_of unlocked r) refl)
      (λ i h. are_bytes own (unfold all in refl) i)

  eleven_far_as_sent : row_at record_size 1 (table_after table write_came room) ≡ row_at record_size 1 (table_after table write_sent room)
  unfolding row_at
  eleven_far_as_sent =
      let r = row_at record_size 1 table in
      kept_at table write_came room eleven_passes eleven_its 1 (omega arith)
      ∙ ap (λ (n : ℕ). keeps (Writes Wrcfgb) (row_at payload_size (n - 2) (drop head_size write_came)) r) two
      ∙ ap (λ (n : ℕ). keeps (Writes Wrcfgb) (row_at payload_size (n - 2) (drop head_size write_sent)) r) (sym two)
      ∙ sym (kept_at table write_sent room (came-passes table write_sent write_sent s ours_here refl refl room) (came-command table write_sent write_sent s ours_here refl refl) 1 (omega arith))

-- ---- the command

sixteen_is_ours : (n : ℕ) → 1 ≤ n → n ≤ most_monitors → Ours (Bares Mute) n mute_sent
unfolding command_of commands build_refusals frame_for body two_bytes command_check pec15 once step remainder bits_of bits_of_bytes ◌⊕◌ xor odd
sixteen_is_ours n some few =
    record {
      code = 0x0028;
      values = [];
      its = refl;
      passed = (refl, (ap₂ (λ (a b : Bool). not (a && b)) (le-leb 1 n some) (le-leb n most_monitors few), (refl, (refl, tt))));
      built = refl;
    }

sixteen-spike : Spike 16 mute_sent mute_came
unfolding all bits_of_bytes bits_of odd
sixteen-spike = spike_of_parts 16 15 (are_bytes mute_sent refl) (are_bytes mute_came refl) refl refl (λ e. false≢true (sym e)) refl

last_struck : (n : ℕ) → 1 ≤ n → n ≤ most_monitors → StruckCommand (Bares Mute) n mute_sent mute_last
unfolding all bits_of_bytes bits_of odd
last_struck n some few =
    record {
      ours = sixteen_is_ours n some few;
      spike = spike_of_parts 15 31 (are_bytes mute_sent refl) (are_bytes mute_last refl) refl refl (λ e. false≢true (sym e)) refl;
      hit_head = λ e. let there = ap (λ (bs : List ℕ). get_or bs 3 0) e in omega (arith, there);
    }

module _ (table : List ℕ) (room : ℕ) (s : sound table ≡ true) where
  last_is_refused : answer table mute_last room ≡ Err CommandWrong
  last_is_refused = struck_refused_any (last_struck 1 (lit≤ tt) (lit≤ tt)) table room s

  sixteen-its : command_in mute_came ≡ Bares Unmute
  unfolding command_in command_of commands word_at
  sixteen-its = refl

  sixteen-passes : Passed (frame_refusals table mute_came room)
  unfolding frame_refusals command_in command_of commands command_right word_at pec15 once step remainder bits_of bits_of_bytes ◌⊕◌ xor odd
  sixteen-passes = (ap not s, (refl, (refl, (refl, (refl, (le-ltb room 0 (omega arith), tt))))))

  sixteen_is_taken : answer table mute_came room ≡ took (monitors table) 0
  sixteen_is_taken = bare_answer table mute_came room sixteen-passes Unmute sixteen-its

  sixteen_ends_it : (k : ℕ) → k < monitors table → row_at record_size k (table_after table mute_came room) ≡ done Unmute (counted (locked (row_at record_size k table)))
  unfolding keeps
  sixteen_ends_it k h = kept_at table mute_came room sixteen-passes sixteen-its k h

pub sharp : Sharp
unfolding signed vov upper byte_in bytes_of
sharp =
    record {
      ten = ten_struck;
      ten_taken = ten_is_taken;
      eleven_ours = eleven_is_ours;
      eleven = eleven_spike;
      eleven_head = refl;
      eleven_taken = eleven_is_taken;
      eleven_stored = eleven_is_stored;
      eleven_vov = (refl, refl);
      eleven_far = eleven_far_as_sent;
      last_place = last_struck;
      last-refused = last_is_refused;
      sixteen-ours = sixteen_is_ours;
      sixteen = sixteen-spike;
      sixteen-taken = sixteen_is_taken;
      sixteen_unmutes = sixteen_ends_it;
    }
