-- The number that comes back for a question is that of the first refusal that holds, and 0 where none does; and that is exactly when
-- its condition is the first to hold. By going down the list of refusals; a refusal's number tells which it is.
-- Assumes nothing.
use mathlib.Core.Path.{◌≡◌, refl, sym, ap, ◌∙◌}
use mathlib.Core.Bool.{Bool, true, false, cond, not}
use mathlib.Core.List.{List, [], ◌∷◌}
use mathlib.Core.Logic.{inl, inr, ◌↔◌}
use lib.IntN.{ℤ}
use lib.Dec.{eqb}
use lib.ListN.{length, get_or}
use native.Mathlib.Omega.{arith}
use Prim.Native.Nat.{ℕ, ◌-◌, ◌≤◌}
use Rattle.refusals.specs.declared.Refusal.{Refusal}
use Rattle.refusals.specs.declared.Refusal.TheVariants.{TableNotSound, FrameShort, CommandWrong, CodeNotListed, LengthWrong, NoRoom, PositionWrong, CountWrong, CodeCleared, BothDamaged}
use Rattle.refusals.specs.Numbers.{number_of}
use Rattle.refusals.specs.Order.{Row, decide, Passed}
use Rattle.refusals.proofs.Deciding.{holds_here, holds_not, decide-map, passes, has_passed}
use Rattle.laws.specs.Rows.{row_at}
use Rattle.pec.specs.Words.{counter_of}
use Rattle.records.specs.Record.{record_size}
use Rattle.chain.specs.Frame.{frame_refusals, answer}
use Rattle.chain.specs.Numbers.{numbers_of}
use Rattle.loads.specs.Load.{store_refusals, stored, compare_refusals, compared, load_refusals, loaded}
use Rattle.loads.specs.Numbers.{load_number}
use Rattle.priorities.specs.declared.outputs.Events.{Events}
use Rattle.discharge.specs.Question.{discharge_refusals, discharged}
use Rattle.clocking.specs.Clock.{Clock}
use Rattle.releasing.specs.Release.{release_refusals, released}
use Rattle.releasing.specs.Look.{look_refusals, looked}
use Rattle.ports.specs.declared.checks.Checked.TheVariants.{Right, CounterDiffers, Damaged}
use Rattle.ports.specs.declared.ports.Port.TheVariants.{A, B}
use Rattle.host.specs.Frames.{build_refusals, built}
use Rattle.ports.specs.Verdicts.{is_damaged, is_right, counter_differs}
use Rattle.ports.specs.Check.{check_refusals, checked}
use Rattle.ports.specs.Ports.{part_a, part_b, port_refusals, chosen, port_of}
use Rattle.messages.specs.declared.verdicts.Verdict.TheVariants.{Passed as Good, Failed, Damaged as MessageDamaged, TimedOut}
use Rattle.messages.specs.Messages.{count_in, flags_in, message_right, is_pass}
use Rattle.messages.specs.Verdicts.{verdict_refusals, verdict_of, verdict}
use Rattle.heartbeats.specs.Steps.{is_timeout, towards_a}
use Rattle.passing.specs.declared.operations.Relayed.TheVariants.{Stopped, SentOn}
use Rattle.passing.specs.declared.operations.TimedOut.TheVariants.{NoTimeoutMonitor, RanOut}
use Rattle.passing.specs.Hops.{hop_sends}
use Rattle.passing.specs.Operations.{sent_towards, wake_refusals, woken_at, relay_refusals, relayed_at, beaten, time_out_refusals, timed_out}
use Rattle.readings.specs.Readings.{measured, whole_of, summary_of}
use Rattle.story.specs.Numbers.{discharged_numbers, sent_numbers, relayed_numbers, timed_numbers, built_numbers, checked_numbers, port_numbers, verdict_numbers, looked_numbers, pack_numbers, summary_refusals, first_number, First}
use Rattle.std.specs.Prelude.{Some, None, Ok, Err}
use Rattle.passing.specs.declared.operations.End.TheVariants.{A, B}

-- ---- which refusal it is

-- the refusals by their numbers
refusal_of : ℕ → Refusal
refusal_of n =
    get_or (TableNotSound ∷ FrameShort ∷ CommandWrong ∷ CodeNotListed ∷ LengthWrong ∷ NoRoom ∷ PositionWrong ∷ CountWrong ∷ CodeCleared ∷ BothDamaged ∷ []) (n - 1) TableNotSound

told : (r : Refusal) → refusal_of (number_of r) ≡ r
unfolding refusal_of
told TableNotSound = refl
told FrameShort = refl
told CommandWrong = refl
told CodeNotListed = refl
told LengthWrong = refl
told NoRoom = refl
told PositionWrong = refl
told CountWrong = refl
told CodeCleared = refl
told BothDamaged = refl

-- no refusal has the number 0
some_number : (r : Refusal) → 1 ≤ number_of r
some_number TableNotSound = omega arith
some_number FrameShort = omega arith
some_number CommandWrong = omega arith
some_number CodeNotListed = omega arith
some_number LengthWrong = omega arith
some_number NoRoom = omega arith
some_number PositionWrong = omega arith
some_number CountWrong = omega arith
some_number CodeCleared = omega arith
some_number BothDamaged = omega arith

-- ---- exactly when its condition is the first to hold

pub first_refuses : {A : Type 0} (rows : List Row) (refused : Refusal → A) (accepted : A) (r : Refusal) → First rows r
    → decide rows refused accepted ≡ refused r
first_refuses [] refused accepted r h = elim h [ ]
first_refuses (row ∷ rows) refused accepted r (inl h) = holds_here row rows refused accepted h.0 ∙ ap refused h.1
first_refuses (row ∷ rows) refused accepted r (inr h) = holds_not row rows refused accepted h.0 ∙ first_refuses rows refused accepted r h.1

gives_first : (rows : List Row) (r : Refusal) → first_number rows ≡ number_of r → First rows r
unfolding decide
gives_first [] r e = absurd (omega (arith, some_number r))
gives_first (row ∷ rows) r e = by row.holds refl e (gives_first rows r)
  where
    by : (b : Bool) → row.holds ≡ b → cond b (number_of row.refusal) (first_number rows) ≡ number_of r → (first_number rows ≡ number_of r → First rows r)
        → First (row ∷ rows) r
    by true h e rest = inl (h, sym (told row.refusal) ∙ ap refusal_of e ∙ told r)
    by false h e rest = inr (h, rest e)

pub number_exactly : (rows : List Row) (r : Refusal) → (first_number rows ≡ number_of r) ↔ First rows r
number_exactly rows r = (gives_first rows r, first_refuses rows number_of 0 r)

pub zero_exactly : (rows : List Row) → (first_number rows ≡ 0) ↔ Passed rows
zero_exactly rows = (has_passed rows number_of 0 0 (λ r e. omega (arith, some_number r)), passes rows number_of 0)

-- ---- question by question

-- a question's number, whatever its answers are
number_by : {A : Type 0} (number : A → ℕ) (rows : List Row) (refused : Refusal → A) (accepted : A)
    → ((r : Refusal) → number (refused r) ≡ number_of r) → number accepted ≡ 0 → number (decide rows refused accepted) ≡ first_number rows
number_by number rows refused accepted each none = decide-map number rows refused accepted ∙ (λ i. decide rows (λ r. each r i) (none i))

pub frame-number : (table frame : List ℕ) (room : ℕ) → (numbers_of (answer table frame room)).number ≡ first_number (frame_refusals table frame room)
unfolding answer
frame-number table frame room = number_by (λ a. (numbers_of a).number) (frame_refusals table frame room) Err _ (λ r. refl) refl

-- a store, a compare and a load
done-number : (rows : List Row) → load_number (decide rows Err (Ok tt)) ≡ first_number rows
done-number rows = number_by load_number rows Err (Ok tt) (λ r. refl) refl

pub store-number : (table : List ℕ) (position : ℕ) (codes : List ℤ) → load_number (stored table position codes) ≡ first_number (store_refusals table position codes)
unfolding stored
store-number table position codes = done-number (store_refusals table position codes)

pub compare-number : (table : List ℕ) (position : ℕ) → load_number (compared table position) ≡ first_number (compare_refusals table position)
unfolding compared
compare-number table position = done-number (compare_refusals table position)

pub load-number : (table : List ℕ) (position : ℕ) (codes : List ℤ) → load_number (loaded table position codes) ≡ first_number (load_refusals table position codes)
unfolding loaded
load-number table position codes = done-number (load_refusals table position codes)

pub discharge_number : (table : List ℕ) (position : ℕ) (events : Events) (phase room : ℕ)
    → (discharged_numbers (discharged table position events phase room)).number ≡ first_number (discharge_refusals table position phase room)
unfolding discharged
discharge_number table position events phase room =
    number_by (λ d. (discharged_numbers d).number) (discharge_refusals table position phase room) Err _ (λ r. refl) refl

pub release_number : (c : Clock) (table : List ℕ) → (numbers_of (released c table)).number ≡ first_number (release_refusals c table)
unfolding released
release_number c table = number_by (λ a. (numbers_of a).number) (release_refusals c table) Err _ (λ r. refl) refl

pub look_number : (c : Clock) (position room : ℕ) → (looked_numbers (looked c position room)).number ≡ first_number (look_refusals c position room)
unfolding looked
look_number c position room = number_by (λ l. (looked_numbers l).number) (look_refusals c position room) Err _ (λ r. refl) refl

pub built-number : (code n : ℕ) (values : List ℕ) (room : ℕ) → (built_numbers (built code n values room)).number ≡ first_number (build_refusals code n values room)
unfolding built
built-number code n values room = number_by (λ b. (built_numbers b).number) (build_refusals code n values room) Err _ (λ r. refl) refl

pub checked-number : (payload : List ℕ) (expected : ℕ) → (checked_numbers (checked payload expected)).number ≡ first_number (check_refusals payload expected)
unfolding checked
checked-number payload expected =
    number_by (λ c. (checked_numbers c).number) (check_refusals payload expected) Err _ (λ r. refl) (each (is_damaged payload) (counter_differs payload expected))
  where
    each : (damaged differs : Bool) → (checked_numbers (Ok (cond damaged Damaged (cond differs (CounterDiffers (counter_of payload)) Right)))).number ≡ 0
    each true differs = refl
    each false true = refl
    each false false = refl

pub port_number : (a b : List ℕ) (n k expected : ℕ) → (port_numbers (port_of a b n k expected)).number ≡ first_number (port_refusals a b n k expected)
unfolding port_of chosen
port_number a b n k expected =
    number_by (λ p. (port_numbers p).number) (port_refusals a b n k expected) Err _ (λ r. refl)
    (each (is_right (part_a a n k) expected) (is_right (part_b b n k) expected) (counter_differs (part_a a n k) expected))
  where
    each : (r s t : Bool) → (port_numbers (Ok (cond r (A false) (cond s (B false) (cond t (A true) (B true)))))).number ≡ 0
    each true s t = refl
    each false true t = refl
    each false false true = refl
    each false false false = refl

-- what is sent, or sent on, or no timeout monitor, is no refusal
sent_accepted : (r bytes : List ℕ) → (sent_numbers (Ok (sent_towards r bytes))).number ≡ 0
unfolding sent_towards
sent_accepted r bytes = by (eqb (length bytes) 0) (towards_a r)
  where
    by : (none toA : Bool) → (sent_numbers (Ok (cond none None (cond toA (Some A) (Some B))))).number ≡ 0
    by true toA = refl
    by false true = refl
    by false false = refl

module _ (table : List ℕ) (position : ℕ) where
  pub wake_number : (room : ℕ) → (sent_numbers (woken_at table position room)).number ≡ first_number (wake_refusals table position room)
  unfolding woken_at
  wake_number room = number_by (λ x. (sent_numbers x).number) (wake_refusals table position room) Err _ (λ r. refl) (sent_accepted _ _)

  pub beat_number : (room : ℕ) → (sent_numbers (beaten table position room)).number ≡ first_number (wake_refusals table position room)
  unfolding beaten
  beat_number room = number_by (λ x. (sent_numbers x).number) (wake_refusals table position room) Err _ (λ r. refl) (sent_accepted _ _)

  pub relay_number : (message : List ℕ) (room : ℕ) → (relayed_numbers (relayed_at table position message room)).number ≡ first_number (relay_refusals table position (length message) room)
  unfolding relayed_at
  relay_number message room =
      number_by (λ x. (relayed_numbers x).number) (relay_refusals table position (length message) room) Err _ (λ r. refl)
      (by (eqb (length (hop_sends (position - 1) message table)) 0))
    where
      by : (none : Bool) → (relayed_numbers (Ok (cond none Stopped SentOn))).number ≡ 0
      by true = refl
      by false = refl

  pub time_number : (timed_numbers (timed_out table position)).number ≡ first_number (time_out_refusals table position)
  unfolding timed_out
  time_number =
      number_by (λ x. (timed_numbers x).number) (time_out_refusals table position) Err _ (λ r. refl) (by (is_timeout (row_at record_size (position - 1) table)))
    where
      by : (its : Bool) → (timed_numbers (Ok (cond its RanOut NoTimeoutMonitor))).number ≡ 0
      by true = refl
      by false = refl

pub verdict-number : (bytes : List ℕ) (late : Bool) → (verdict_numbers (verdict bytes late)).number ≡ first_number (verdict_refusals bytes late)
unfolding verdict verdict_of
verdict-number bytes late =
    number_by (λ v. (verdict_numbers v).number) (verdict_refusals bytes late) Err _ (λ r. refl) (each late (message_right bytes) (is_pass (count_in bytes) (flags_in bytes)))
  where
    each : (l r p : Bool) → (verdict_numbers (Ok (cond l TimedOut (cond (not r) MessageDamaged (cond p Good (Failed (count_in bytes) (flags_in bytes))))))).number ≡ 0
    each true r p = refl
    each false false p = refl
    each false true true = refl
    each false true false = refl

pub summary_number : (codes : List ℤ) → (pack_numbers (summary_of codes)).number ≡ first_number (summary_refusals codes)
unfolding summary_of whole_of
summary_number codes = number_by (λ p. (pack_numbers p).number) (summary_refusals codes) Err _ (λ r. refl) (whole (measured codes))
  where
    whole : (ms : List ℤ) → (pack_numbers (Ok (whole_of ms))).number ≡ 0
    whole [] = refl
    whole (m ∷ ms) = refl
