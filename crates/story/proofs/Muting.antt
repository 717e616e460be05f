-- MUTE and UNMUTE, through a frame: after MUTE every output of every monitor is off by row 6, where there is no shutdown; and MUTE and then UNMUTE
-- leave every answer as it was, of a monitor whose MUTE_ST was clear. By one monitor: both leave its DCC bits and its PWM groups, MUTE sets
-- MUTE_ST and UNMUTE clears it.
-- Assumes nothing.
use mathlib.Core.Path.{◌≡◌, refl, sym, ap, ap₂, ◌∙◌, subst}
use mathlib.Core.Bool.{Bool, true, false, cond, not, ◌&&◌}
use mathlib.Core.List.{List, [], ◌∷◌, ◌++◌}
use mathlib.Core.Logic.{inl, inr}
use Prim.Native.Nat.{ℕ, ◌-◌, ◌/◌, ◌%◌, ◌≤◌}
use native.Mathlib.Omega.{arith}
use lib.Bits.{bit_and, bit_or}
use lib.Dec.{leb, lit<, lit≤}
use lib.ListN.{length, get_or, drop, replicate}
use Rattle.laws.specs.Bits.{odd, bit_at}
use Rattle.laws.specs.Counts.{count}
use Rattle.laws.specs.Rows.{row_at}
use Rattle.laws.specs.Tables.{tabulate}
use Rattle.laws.proofs.BitAt.{bit-or, bit-and}
use Rattle.refusals.specs.declared.Refusal.TheVariants.{TableNotSound, PositionWrong}
use Rattle.refusals.specs.Order.{Row, ◌gives◌, decide, Passed}
use Rattle.refusals.proofs.Deciding.{passed_agree}
use Rattle.records.specs.declared.commands.Bare.TheVariants.{Mute, Unmute}
use Rattle.records.specs.declared.commands.Command.TheVariants.{Bares}
use Rattle.records.specs.Record.{cell_count, status_bits, dcc_bits, pwm_a, pwm_b, record_size, bytes_of, byte_of, on_bytes}
use Rattle.records.proofs.Anew.{anew_inside}
use Rattle.monitor.specs.Effects.{locked, counted, done, keeps}
use Rattle.monitor.proofs.Sound.{length-locked, length-counted, length-keeps}
use Rattle.monitor.proofs.Spares.{keeps_spares}
use Rattle.judging.specs.Table.{monitors, sound}
use Rattle.judging.specs.Refusals.{command_in}
use Rattle.judging.specs.Places.{place_refusals}
use Rattle.judging.proofs.Keeps.{Keeps}
use Rattle.judging.proofs.Place.{Place, place, there, fits, kept_place}
use Rattle.judging.proofs.Lent.{lent_length}
use Rattle.chain.specs.Frame.{frame_refusals, table_after}
use Rattle.priorities.specs.declared.outputs.Events.{Events}
use Rattle.priorities.specs.Switches.{muted, dcc, duty_byte, duty}
use Rattle.priorities.specs.Table27.{output_of}
use Rattle.priorities.specs.Outputs.{shown, the_cells, outputs, count_on}
use Rattle.priorities.proofs.Rows.{past_7, by_6}
use Rattle.priorities.proofs.Deciding.{by_switches}
use Rattle.priorities.proofs.Shown.{mute_none}
use Rattle.discharge.specs.Question.{phase_row, out_row, discharge_refusals, discharged, outputs_after}
use Rattle.story.proofs.Accepted.{frame-sound, kept_table, own_at, kept_at, discharge_answer}
use Rattle.std.specs.Prelude.{Ok, Err}

-- ---- one monitor

module _ (eight r : List ℕ) (whole : length r ≡ record_size) where
  base-length : length (counted (locked r)) ≡ record_size
  base-length = length-counted (locked r) ∙ length-locked r ∙ whole

  muted-by_mute : muted (keeps (Bares Mute) eight r) ≡ true
  unfolding keeps done on_bytes muted byte_of bit_at odd
  muted-by_mute =
      ap (bit_at 4) (anew_inside (λ i old. bit_or old 0x10) status_bits.at 1 (counted (locked r)) 0 (lit< tt) (omega (arith, base-length)))
      ∙ bit-or 4 (get_or (counted (locked r)) status_bits.at 0) 0x10 refl

  clear_by_unmute : muted (keeps (Bares Unmute) eight r) ≡ false
  unfolding keeps done on_bytes muted byte_of bit_at odd
  clear_by_unmute =
      ap (bit_at 4) (anew_inside (λ i old. bit_and old 0xEF) status_bits.at 1 (counted (locked r)) 0 (lit< tt) (omega (arith, base-length)))
      ∙ bit-and 4 (get_or (counted (locked r)) status_bits.at 0) 0xEF refl

-- the parts that hold what the outputs go by, but for MUTE_ST
record Alike (r s : List ℕ) : Type 0 where
  dccs : bytes_of dcc_bits r ≡ bytes_of dcc_bits s
  duties_a : bytes_of pwm_a r ≡ bytes_of pwm_a s
  duties_b : bytes_of pwm_b r ≡ bytes_of pwm_b s

alike_mute : (eight r : List ℕ) → Alike (keeps (Bares Mute) eight r) r
alike_mute eight r =
    record {
      dccs = keeps_spares dcc_bits (Bares Mute) eight r (inr (lit≤ tt), (inr (lit≤ tt), (inl (lit≤ tt), tt)));
      duties_a = keeps_spares pwm_a (Bares Mute) eight r (inl (lit≤ tt), (inl (lit≤ tt), (inl (lit≤ tt), tt)));
      duties_b = keeps_spares pwm_b (Bares Mute) eight r (inl (lit≤ tt), (inl (lit≤ tt), (inl (lit≤ tt), tt)));
    }

alike_unmute : (eight r : List ℕ) → Alike (keeps (Bares Unmute) eight r) r
alike_unmute eight r =
    record {
      dccs = keeps_spares dcc_bits (Bares Unmute) eight r (inr (lit≤ tt), (inr (lit≤ tt), (inl (lit≤ tt), tt)));
      duties_a = keeps_spares pwm_a (Bares Unmute) eight r (inl (lit≤ tt), (inl (lit≤ tt), (inl (lit≤ tt), tt)));
      duties_b = keeps_spares pwm_b (Bares Unmute) eight r (inl (lit≤ tt), (inl (lit≤ tt), (inl (lit≤ tt), tt)));
    }

module _ (events : Events) (phase : ℕ) (r s : List ℕ) (m : muted r ≡ muted s) (a : Alike r s) where
  same-dcc : (c : ℕ) → dcc r c ≡ dcc s c
  unfolding dcc
  same-dcc c = ap (λ (bytes : List ℕ). bit_at ((c - 1) % 8) (get_or bytes ((c - 1) / 8) 0)) a.dccs

  same-duty : (c : ℕ) → duty r c ≡ duty s c
  unfolding duty duty_byte
  same-duty c =
      ap₂ (λ (xs ys : List ℕ). let byte = cond (leb c 12) (get_or xs ((c - 1) / 2) 0) (get_or ys ((c - 13) / 2) 0) in cond (odd c) (byte % 16) (byte / 16 % 16))
      a.duties_a a.duties_b

  each : (c : ℕ) → output_of events phase r c ≡ output_of events phase s c
  each c = by_switches events phase r s c m (same-dcc c) (same-duty c)

  same-outputs : outputs events phase r ≡ outputs events phase s
  unfolding outputs
  same-outputs j = tabulate (λ c. shown (each c j)) 1 cell_count

  same_count : count_on events phase r ≡ count_on events phase s
  unfolding count_on
  same_count j = count (λ c. (each c j).on) the_cells

-- ---- of a muted record: sixteen outputs off by row 6

all-six : (events : Events) (phase : ℕ) (r : List ℕ) → events.shutdown ≡ false → muted r ≡ true → outputs events phase r ≡ replicate cell_count 6
unfolding outputs tabulate shown
all-six events phase r up m j = tabulate (λ c. shown ((past_7 events phase r c up ∙ by_6 events phase r c m) j)) 1 cell_count

-- ---- a position of a table

-- a place in a table that was kept
place_before : {table after : List ℕ} {position : ℕ} → Keeps table after → sound table ≡ true → Place after position → Place table position
place_before {position = position} kept s p =
    record { its-sound = s; first = p.first; last = subst (λ (n : ℕ). position ≤ n) kept.monitors-after p.last }

module _ (table : List ℕ) (position phase room : ℕ) (none : Passed (discharge_refusals table position phase room)) where
  its_place : Place table position
  unfolding discharge_refusals place_refusals
  its_place = place table position (none.0, (none.1.0, tt))

-- ---- MUTE

pub mute_answers : (table frame : List ℕ) (room : ℕ) → Passed (frame_refusals table frame room) → command_in frame ≡ Bares Mute
    → (position : ℕ) (events : Events) (phase : ℕ) (out : List ℕ) → events.shutdown ≡ false
    → Passed (discharge_refusals (table_after table frame room) position phase (length out))
    → (discharged (table_after table frame room) position events phase (length out) ≡ Ok 0)
    × (outputs_after (table_after table frame room) position events phase out ≡ replicate cell_count 6 ++ drop cell_count out)
mute_answers table frame room passed its position events phase out up none =
    let after = table_after table frame room in
    let k = position - 1 in
    let own : Place table position = place_before (kept_table table frame room passed) (frame-sound table frame room passed) (its_place after position phase (length out) none) in
    let is-muted : muted (row_at record_size k after) ≡ true =
    ap muted (kept_at table frame room passed its k (there table position own))
    ∙ muted-by_mute (own_at table frame room passed (Bares Mute) k) (row_at record_size k table) (lent_length k table (fits table position own)) in
    let told = discharge_answer after position events phase out none in (
      told.0 ∙ ap Ok (mute_none events phase (row_at record_size k after) is-muted),
      told.1 ∙ ap (λ (bytes : List ℕ). bytes ++ drop cell_count out) (all-six events phase (row_at record_size k after) up is-muted),
    )

-- ---- MUTE and then UNMUTE

-- two tables that are judged alike
same_refusals : (one other : List ℕ) (position phase room : ℕ) → sound one ≡ sound other → monitors one ≡ monitors other
    → discharge_refusals one position phase room ≡ discharge_refusals other position phase room
unfolding discharge_refusals
same_refusals one other position phase room s n =
    ap₂ (λ (b : Bool) (m : ℕ). (not b gives TableNotSound) ∷ (not (leb 1 position && leb position m) gives PositionWrong) ∷ phase_row phase ∷ out_row room ∷ []) s n

module _ (table mute unmute : List ℕ) (room other : ℕ) (first : Passed (frame_refusals table mute room)) (its : command_in mute ≡ Bares Mute)
    (second : Passed (frame_refusals (table_after table mute room) unmute other)) (its-too : command_in unmute ≡ Bares Unmute) where
  abbrev between : List ℕ
  between = table_after table mute room

  abbrev pub after : List ℕ
  after = table_after between unmute other

  kept-first : Keeps table between
  kept-first = kept_table table mute room first

  kept_second : Keeps between after
  kept_second = kept_table between unmute other second

  module _ (position : ℕ) (was : muted (row_at record_size (position - 1) table) ≡ false) (own : Place table position) where
    abbrev k : ℕ
    k = position - 1

    abbrev start : List ℕ
    start = row_at record_size k table

    abbrev middle : List ℕ
    middle = keeps (Bares Mute) (own_at table mute room first (Bares Mute) k) start

    at_the_end : row_at record_size k after ≡ keeps (Bares Unmute) (own_at between unmute other second (Bares Unmute) k) middle
    at_the_end =
        kept_at between unmute other second its-too k (there between position (kept_place position kept-first own))
        ∙ ap (keeps (Bares Unmute) (own_at between unmute other second (Bares Unmute) k)) (kept_at table mute room first its k (there table position own))

    same_mute : muted (row_at record_size k after) ≡ muted start
    same_mute =
        ap muted at_the_end
        ∙ clear_by_unmute (own_at between unmute other second (Bares Unmute) k) middle
        (length-keeps (Bares Mute) (own_at table mute room first (Bares Mute) k) start ∙ lent_length k table (fits table position own))
        ∙ sym was

    both_alike : Alike (row_at record_size k after) start
    both_alike =
        let up = alike_unmute (own_at between unmute other second (Bares Unmute) k) middle in
        let down = alike_mute (own_at table mute room first (Bares Mute) k) start in
        record {
          dccs = ap (bytes_of dcc_bits) at_the_end ∙ up.dccs ∙ down.dccs;
          duties_a = ap (bytes_of pwm_a) at_the_end ∙ up.duties_a ∙ down.duties_a;
          duties_b = ap (bytes_of pwm_b) at_the_end ∙ up.duties_b ∙ down.duties_b;
        }

  pub unmute_answers : (position : ℕ) (events : Events) (phase : ℕ) (out : List ℕ) → muted (row_at record_size (position - 1) table) ≡ false
      → (discharged after position events phase (length out) ≡ discharged table position events phase (length out))
      × (outputs_after after position events phase out ≡ outputs_after table position events phase out)
  unfolding discharged outputs_after
  unmute_answers position events phase out was =
      let rows = discharge_refusals table position phase (length out) in
      let judged : discharge_refusals after position phase (length out) ≡ rows =
      same_refusals after table position phase (length out) (kept_second.sound-after ∙ sym (frame-sound table mute room first))
      (kept_second.monitors-after ∙ kept-first.monitors-after) in
      let own : Passed rows → Place table position = its_place table position phase (length out) in
      let now = row_at record_size (position - 1) after in
      let start = row_at record_size (position - 1) table in (
        ap (λ (rs : List Row). decide rs Err (Ok (count_on events phase now))) judged
            ∙ passed_agree rows Err (Ok (count_on events phase now)) (Ok (count_on events phase start))
            (λ none. ap Ok (same_count events phase now start (same_mute position was (own none)) (both_alike position was (own none)))),
        ap (λ (rs : List Row). decide rs (λ r. out) (outputs events phase now ++ drop cell_count out)) judged
            ∙ passed_agree rows (λ r. out) (outputs events phase now ++ drop cell_count out) (outputs events phase start ++ drop cell_count out)
            (λ none.
            ap (λ (bytes : List ℕ). bytes ++ drop cell_count out) (same-outputs events phase now start (same_mute position was (own none)) (both_alike position was (own none)))),
      )
