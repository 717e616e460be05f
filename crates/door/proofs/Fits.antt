-- The parts of every answer of the host fit their bits: a chain has at most 32 monitors, so no frame has more than 260 bytes and no reply
-- more than 256, and a summary has at most 512 cells.
-- Each is shown where no refusal holds, by what the refusals then say.
-- Assumes nothing.
use mathlib.Core.Path.{◌≡◌, refl}
use mathlib.Core.Bool.{Bool, true, false, cond, not}
use mathlib.Core.List.{List, [], ◌∷◌}
use Prim.Native.Nat.{ℕ, ◌+◌, ◌*◌, ◌<◌, ◌≤◌}
use native.Mathlib.Nat.{mul-le-mul_right}
use native.Mathlib.Omega.{arith}
use lib.Dec.{leb}
use lib.IntN.{ℤ}
use lib.ListN.{length, get_or}
use borrow.Author.Tests.{leb-true, not-false}
use Rattle.laws.proofs.Tests.{both_second}
use Rattle.pec.specs.Words.{counter_of}
use Rattle.pec.proofs.Messages.{word_below}
use Rattle.refusals.proofs.Decided.{by-passing}
use Rattle.records.specs.declared.commands.Command.{Command}
use Rattle.records.specs.declared.commands.Command.TheVariants.{Reads, Writes, Bares, Unlisted}
use Rattle.records.specs.Commands.{commands, command_of, payload_size, frame_length}
use Rattle.records.proofs.Widths.{width_most}
use Rattle.host.specs.Frames.{build_refusals, built}
use Rattle.host.proofs.Judging.{chain-test}
use Rattle.ports.specs.declared.checks.Checked.TheVariants.{Right, CounterDiffers, Damaged}
use Rattle.ports.specs.declared.ports.Port.{Port}
use Rattle.ports.specs.declared.ports.Port.TheVariants.{A, B}
use Rattle.messages.specs.declared.verdicts.Verdict.TheVariants.{Passed, Failed, Damaged as MessageDamaged, TimedOut}
use Rattle.messages.specs.Messages.{count_in, flags_in, message_right, is_pass}
use Rattle.messages.specs.Verdicts.{verdict_refusals, verdict_of, verdict}
use Rattle.ports.specs.Verdicts.{is_damaged, counter_differs}
use Rattle.ports.specs.Check.{check_refusals, checked}
use Rattle.ports.specs.Ports.{place_a, place_b, port_of}
use Rattle.ports.proofs.TwoPorts.{asked-a, asked-b}
use Rattle.readings.specs.Readings.{most_codes, measured, whole_of, summary_of}
use Rattle.readings.proofs.Sizes.{cells-at-most_codes}
use Rattle.readings.proofs.Summaries.{cells_of}
use Rattle.packing.specs.Packed.{Fit, refused}
use Rattle.packing.proofs.Packed.{accepted-fits, refused-fits}
use Rattle.door.specs.Answers.{built_parts, checked_parts, port_parts, verdict_parts}
use Rattle.door.specs.Volts.{room_row, summary_parts}
use Rattle.std.specs.Prelude.{Option, None, Result, Ok, Err, Some}
use Rattle.refusals.specs.declared.Refusal.{Refusal}
use Rattle.readings.specs.declared.pack_summary.Summary.{Summary}

-- ---- the host

long : (c : Command) (n : ℕ) → frame_length c n ≤ 4 + payload_size * n
long (Reads part) n = omega arith
long (Writes c) n = omega (arith, mul-le-mul_right n (width_most (Writes c)))
long (Bares c) n = omega arith
long Unlisted n = omega arith

pub built-fits : (code n : ℕ) (values : List ℕ) (room : ℕ) → Fit (built_parts (built code n values room))
unfolding built build_refusals
built-fits code n values room =
    by-passing (λ x. Fit (built_parts x)) (build_refusals code n values room) Err _ refused-fits
    (λ none. let few = (chain-test n (not-false _ none.1.0)).1 in
    accepted-fits 0 _ (omega arith) (omega (arith, few, long (command_of code commands) n)))

-- a verdict on bytes
pub verdict-fits : (bytes : List ℕ) (late : Bool) → ((k : ℕ) → get_or bytes k 0 < 256) → Fit (verdict_parts (verdict bytes late))
unfolding verdict verdict_of count_in flags_in
verdict-fits bytes late small =
    by-passing (λ x. Fit (verdict_parts x)) (verdict_refusals bytes late) Err _ refused-fits (λ none. each late (message_right bytes) (is_pass (get_or bytes 4 0) (get_or bytes 5 0)))
  where
    each : (l r p : Bool) → Fit (verdict_parts (Ok (cond l TimedOut (cond (not r) MessageDamaged (cond p Passed (Failed (get_or bytes 4 0) (get_or bytes 5 0)))))))
    each true r p = accepted-fits 4 0 (omega arith) (omega arith)
    each false false p = accepted-fits 3 0 (omega arith) (omega arith)
    each false true true = accepted-fits 1 0 (omega arith) (omega arith)
    each false true false = accepted-fits 2 (256 * get_or bytes 4 0 + get_or bytes 5 0) (omega arith) (omega (arith, small 4, small 5))

-- a check of bytes: a counter received has six bits
pub checked-fits : (payload : List ℕ) (expected : ℕ) → ((k : ℕ) → get_or payload k 0 < 256) → Fit (checked_parts (checked payload expected))
unfolding checked counter_of
checked-fits payload expected small =
    by-passing (λ x. Fit (checked_parts x)) (check_refusals payload expected) Err _ refused-fits (λ none. each (is_damaged payload) (counter_differs payload expected))
  where
    each : (d c : Bool) → Fit (checked_parts (Ok (cond d Damaged (cond c (CounterDiffers (counter_of payload)) Right))))
    each true c = accepted-fits 2 0 (omega arith) (omega arith)
    each false true = accepted-fits 3 (counter_of payload) (omega arith) (omega (arith, word_below payload small 6))
    each false false = accepted-fits 1 0 (omega arith) (omega arith)

pub port_fits : (a b : List ℕ) (n k expected : ℕ) → Fit (port_parts n k (port_of a b n k expected))
unfolding place_a place_b
port_fits a b n k expected = by (port_of a b n k expected) refl
  where
    few : (d : Bool) {x y : ℕ} → x < 256 → y < 256 → cond d x y < 256
    few true h l = h
    few false h l = l

    by : (port : Result Port Refusal) → port_of a b n k expected ≡ port → Fit (port_parts n k port)
    by (Err r) e = refused-fits r
    by (Ok (A differs)) e = let asked = asked-a a b n k expected differs e in accepted-fits _ _ (few differs (omega arith) (omega arith)) (omega (arith, asked.most, asked.last))
    by (Ok (B differs)) e = let asked = asked-b a b n k expected differs e in accepted-fits _ _ (few differs (omega arith) (omega arith)) (omega (arith, asked.most, asked.last))

-- ---- a summary

-- the cells of whole_of are those measured
whole_cells : (ms : List ℤ) → cells_of (Ok (whole_of ms)) ≡ length ms
unfolding whole_of
whole_cells [] = refl
whole_cells (m ∷ ms) = refl

pub few-cells : (codes : List ℤ) → cells_of (summary_of codes) ≤ most_codes
unfolding summary_of
few-cells codes =
    by-passing (λ p. cells_of p ≤ most_codes) _ Err _ (λ r. omega arith)
    (λ none. let few = leb-true (length codes) most_codes (both_second (leb 1 (length codes)) _ (not-false _ none.0)) in
    omega (arith, few, cells-at-most_codes codes, whole_cells (measured codes)))

pub summary_fits : (codes : List ℤ) (room : ℕ) → Fit (summary_parts (summary_of codes) room)
summary_fits codes room = by (summary_of codes) (few-cells codes)
  where
    by : (p : Result (Option Summary) Refusal) → cells_of p ≤ most_codes → Fit (summary_parts p room)
    by (Err r) few = refused-fits r
    by (Ok None) few = by-passing Fit (room_row room ∷ []) refused _ refused-fits (λ none. accepted-fits 0 0 (omega arith) (omega arith))
    by (Ok (Some s)) few = by-passing Fit (room_row room ∷ []) refused _ refused-fits (λ none. accepted-fits 1 s.cells (omega arith) (omega arith))
