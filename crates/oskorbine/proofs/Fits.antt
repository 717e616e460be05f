-- The parts of every answer of the chain fit their bits: a chain has at most 32 monitors, so at most 32 take a frame, and no reply has more
-- than 256 bytes; a window has at most 8, and a monitor 16 outputs. What a byte clocked answers is FF or a byte of the state.
-- Each is shown where no refusal holds, by what the refusals then say.
-- Assumes nothing.
use mathlib.Core.Path.{◌≡◌, refl, ap, ◌∙◌, subst⁻¹}
use mathlib.Core.Bool.{Bool, true, false, cond, ◌||◌}
use mathlib.Core.List.{List, [], ◌∷◌}
use Prim.Native.Nat.{ℕ, zero, suc, ◌+◌, ◌-◌, ◌*◌, ◌<◌, ◌≤◌}
use native.Mathlib.Omega.{arith}
use lib.Dec.{leb, ltb}
use lib.ListN.{length, get_or, take, drop, length-take}
use lib.Seq.{get_or-drop}
use borrow.Author.Tests.{leb-true, not-false}
use Rattle.laws.specs.Rows.{rows, row_at}
use Rattle.laws.specs.Tables.{tabulate}
use Rattle.laws.proofs.Counts.{count_most}
use Rattle.laws.proofs.CountsAlong.{count-along_most}
use Rattle.laws.proofs.Rows.{length-rows}
use Rattle.records.specs.declared.commands.Command.{Command}
use Rattle.records.specs.Record.{record_size}
use Rattle.records.specs.Commands.{payload_size}
use Rattle.monitor.specs.Effects.{takes}
use Rattle.judging.specs.Table.{monitors, sound}
use Rattle.judging.specs.Refusals.{command_in}
use Rattle.serving.specs.Served.{takers, payloads_in, taken_by}
use Rattle.chain.specs.Frame.{frame_refusals, answer}
use Rattle.judging.proofs.Soundness.{both, is_sound}
use Rattle.refusals.proofs.Decided.{by-passing}
use Rattle.priorities.specs.declared.outputs.Events.{Events}
use Rattle.priorities.specs.Outputs.{the_cells, count_on}
use Rattle.discharge.specs.Question.{discharge_refusals, discharged}
use Rattle.clock_state.specs.declared.state.Kind.{Kind}
use Rattle.clock_state.specs.declared.state.Kind.TheVariants.{Fills, Drains, Still}
use Rattle.clocking.specs.Clock.{far, leaving, answered}
use Rattle.releasing.specs.Release.{release_refusals, taken_of, released}
use Rattle.releasing.specs.Look.{window_of, look_refusals, looked}
use Rattle.clock_state.specs.State.{windows_at, seen_in, kind_in, chained_in, width_in, register_in}
use Rattle.clock_state.proofs.Widths.{Wide, wide_in}
use Rattle.clocking.specs.Bytes.{windows_in, clock_of}
use Rattle.clocking.proofs.Known.{reply_short}
use Rattle.clocking.proofs.Register.{come, leaves-first, fills_at, drains_at, still_at}
use Rattle.messages.specs.Messages.{message_size}
use Rattle.passing.specs.declared.operations.Relayed.{Relayed}
use Rattle.passing.specs.declared.operations.Relayed.TheVariants.{Stopped, SentOn}
use Rattle.passing.specs.declared.operations.TimedOut.{TimedOut as Timed}
use Rattle.passing.specs.declared.operations.TimedOut.TheVariants.{NoTimeoutMonitor, RanOut}
use Rattle.packing.specs.Packed.{Fit, accepted}
use Rattle.packing.proofs.Packed.{accepted-fits, refused-fits}
use Rattle.oskorbine.specs.Answers.{frame_parts, load_parts, discharged_parts, sent_parts, relayed_parts, timed_parts, looked_parts}
use Rattle.std.specs.Prelude.{Option, Some, None, Result, Ok, Err}
use Rattle.refusals.specs.declared.Refusal.{Refusal}
use Rattle.passing.specs.declared.operations.End.{End}
use Rattle.passing.specs.declared.operations.End.TheVariants.{A, B}

-- ---- a frame and a release

few-taken : (c : Command) (n : ℕ) (table frame : List ℕ) → taken_by c n table frame ≤ n
unfolding taken_by takers
few-taken c n table frame = omega (arith, count-along_most (λ r own. takes c own r) (rows record_size n table) (payloads_in c frame n), length-rows record_size n table)

pub frame-fits : (table frame : List ℕ) (room : ℕ) → Fit (frame_parts (answer table frame room))
unfolding answer frame_refusals
frame-fits table frame room =
    by-passing (λ x. Fit (frame_parts x)) (frame_refusals table frame room) Err _ refused-fits
    (λ none. let few = (is_sound table (not-false (sound table) none.0)).few in
    accepted-fits _ _ (omega (arith, few, few-taken (command_in frame) (monitors table) table frame)) (omega (arith, few, reply_short (command_in frame) (monitors table))))

-- ---- the discharge outputs

few_on : (events : Events) (phase : ℕ) (r : List ℕ) → count_on events phase r ≤ 16
unfolding count_on the_cells tabulate
few_on events phase r = count_most _ the_cells

pub discharge_fits : (table : List ℕ) (position : ℕ) (events : Events) (phase room : ℕ) → Fit (discharged_parts (discharged table position events phase room))
unfolding discharged
discharge_fits table position events phase room =
    by-passing (λ x. Fit (discharged_parts x)) (discharge_refusals table position phase room) Err _ refused-fits
    (λ none. accepted-fits _ _ (omega (arith, few_on events phase (row_at record_size (position - 1) table))) (omega arith))

-- neither of the two holds
neither : (a b : Bool) → a || b ≡ false → a ≡ false
neither true b e = e
neither false b e = refl

pub release_fits : (s table : List ℕ) → Fit (frame_parts (released (clock_of s) table))
unfolding released release_refusals taken_of takers
release_fits s table =
    by-passing (λ x. Fit (frame_parts x)) (release_refusals (clock_of s) table) Err _ refused-fits
    (λ none. let few = (is_sound table (not-false (sound table) (neither _ _ none.0))).few in
    let taken = count-along_most (λ r own. takes (command_in (clock_of s).head) own r) (rows record_size (monitors table) table) (clock_of s).windows in
    accepted-fits _ _ (omega (arith, taken, few, length-rows record_size (monitors table) table))
    (omega (arith, few, reply_short (command_in (clock_of s).head) (monitors table))))

-- ---- a load

pub load_fits : (l : Result (Unit {0}) Refusal) → Fit (load_parts l)
load_fits (Err r) = refused-fits r
load_fits (Ok tt) = accepted-fits 0 0 (omega arith) (omega arith)

-- ---- a heartbeat

pub sent_fits : (s : Result (Option End) Refusal) → Fit (sent_parts s)
sent_fits (Err r) = refused-fits r
sent_fits (Ok None) = accepted-fits 0 0 (omega arith) (omega arith)
sent_fits (Ok (Some A)) = accepted-fits 1 message_size (omega arith) (omega arith)
sent_fits (Ok (Some B)) = accepted-fits 2 message_size (omega arith) (omega arith)

pub relayed-fits : (m : Result Relayed Refusal) → Fit (relayed_parts m)
relayed-fits (Err r) = refused-fits r
relayed-fits (Ok Stopped) = accepted-fits 0 0 (omega arith) (omega arith)
relayed-fits (Ok SentOn) = accepted-fits 1 message_size (omega arith) (omega arith)

pub timed_fits : (t : Result Timed Refusal) → Fit (timed_parts t)
timed_fits (Err r) = refused-fits r
timed_fits (Ok NoTimeoutMonitor) = accepted-fits 0 0 (omega arith) (omega arith)
timed_fits (Ok RanOut) = accepted-fits 1 0 (omega arith) (omega arith)

-- ---- a look

-- a window has at most a reply's bytes
short : (kind : Kind) (seen n k : ℕ) (s : List ℕ) → Wide (width_in kind) → k < n → length (get_or (windows_in kind seen n (register_in (width_in kind) n s)) k []) ≤ payload_size
short (Fills w) seen n k s wide h =
    let size = come w seen k in
    omega (arith, ap length (fills_at w seen n k s h) ∙ length-take size (drop (windows_at + w * (n - k) - size) s))
short Drains seen n k s wide h = omega (arith, ap length (drains_at seen n k s h) ∙ length-take payload_size (drop (windows_at + payload_size * k) s))
short Still seen n k s wide h = omega (arith, ap length (still_at seen n k (register_in payload_size n s)))

pub look_fits : (s : List ℕ) (position room : ℕ) → Fit (looked_parts (looked (clock_of s) position room))
unfolding looked look_refusals window_of clock_of
look_fits s position room =
    by-passing (λ x. Fit (looked_parts x)) (look_refusals (clock_of s) position room) Err _ refused-fits
    (λ none. let there = both (leb 1 position) (leb position (chained_in s)) (not-false _ none.0) in
    let first = leb-true 1 position there.0 in
    let last = leb-true position (chained_in s) there.1 in
    accepted-fits 0 _ (omega arith) (omega (arith, short (kind_in s) (seen_in s) (chained_in s) (position - 1) s (wide_in s) (omega arith))))

-- ---- a byte clocked

-- what leaves is FF, or a byte of the state
leaves_byte : (n : ℕ) (s : List ℕ) → ((k : ℕ) → get_or s k 0 < 256) → get_or (register_in payload_size n s) 0 far < 256
unfolding register_in
leaves_byte n s bytes = first (payload_size * n) (drop windows_at s) (omega (arith, get_or-drop windows_at s 0 0, bytes (windows_at + 0)))
  where
    first : (m : ℕ) (l : List ℕ) → get_or l 0 0 < 256 → get_or (take m l) 0 far < 256
    first zero l h = omega arith
    first (suc m) [] h = omega arith
    first (suc m) (x ∷ xs) h = h

pub byte_fits : (s : List ℕ) → ((k : ℕ) → get_or s k 0 < 256) → Fit (accepted (answered (clock_of s)) 0)
unfolding answered clock_of leaving
byte_fits s bytes = accepted-fits _ 0 (by (ltb (seen_in s) 4) (kind_in s)) (omega arith)
  where
    n : ℕ
    n = chained_in s

    by : (early : Bool) (kind : Kind) → cond early far (leaving kind (windows_in kind (seen_in s) n (register_in (width_in kind) n s))) < 256
    by true kind = omega arith
    by false (Fills w) = omega arith
    by false Drains = subst⁻¹ (λ (x : ℕ). x < 256) (leaves-first (seen_in s) n s) (leaves_byte n s bytes)
    by false Still = omega arith
