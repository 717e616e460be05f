-- Document 02, L8: the host's verdict on what came to it of a heartbeat, and whether the time ran out, which is given. There is no clock here. Another
-- length than eight is refusal 5, late or not; only nothing at all, with the time run out, is not refused.
-- Assumes nothing.
use Rattle.std.specs.Prelude.{◌≡◌, Bool, true, false, cond, not, ◌&&◌, ◌||◌, List, [], ◌∷◌, ◌⊎◌, ℕ, eqb, length, Result, Ok, Err}
use Rattle.refusals.specs.declared.Refusal.TheVariants.{LengthWrong}
use Rattle.refusals.specs.Order.{Row, ◌gives◌, decide}
use Rattle.messages.specs.declared.verdicts.Verdict.{Verdict}
use Rattle.messages.specs.declared.verdicts.Verdict.TheVariants.{Passed, Failed, Damaged, TimedOut}
use Rattle.messages.specs.Messages.{message_size, count_in, flags_in, message_right, pass_count, is_pass}
use Rattle.refusals.specs.declared.Refusal.{Refusal}

unfoldable pub verdict_refusals : List ℕ → Bool → List Row
verdict_refusals bytes ran_out = (not (eqb (length bytes) message_size || (ran_out && eqb (length bytes) 0)) gives LengthWrong) ∷ []

-- the time that ran out goes before all, and damage before what a message says
unfoldable pub verdict_of : List ℕ → Bool → Verdict
verdict_of bytes ran_out =
    cond ran_out TimedOut
    (cond (not (message_right bytes)) Damaged (cond (is_pass (count_in bytes) (flags_in bytes)) Passed (Failed (count_in bytes) (flags_in bytes))))

unfoldable pub verdict : List ℕ → Bool → Result Verdict Refusal
verdict bytes ran_out = decide (verdict_refusals bytes ran_out) Err (Ok (verdict_of bytes ran_out))

-- what each verdict says of the bytes and the time, in words that do not go by the order of the tests
abbrev pub Says : List ℕ → Bool → Result Verdict Refusal → Type 0
Says bytes ran_out (Err r) = (r ≡ LengthWrong) × (length bytes ≡ message_size → ⊥) × ((ran_out ≡ true) × (length bytes ≡ 0) → ⊥)
Says bytes ran_out (Ok Passed) = (ran_out ≡ false) × (message_right bytes ≡ true) × (count_in bytes ≡ pass_count) × (flags_in bytes ≡ 0)
Says bytes ran_out (Ok (Failed c f)) =
    (ran_out ≡ false) × (message_right bytes ≡ true) × (count_in bytes ≡ c) × (flags_in bytes ≡ f) × ((c ≡ pass_count) × (f ≡ 0) → ⊥)
Says bytes ran_out (Ok Damaged) = (ran_out ≡ false) × (length bytes ≡ message_size) × (message_right bytes ≡ false)
Says bytes ran_out (Ok TimedOut) = (ran_out ≡ true) × ((length bytes ≡ message_size) ⊎ (length bytes ≡ 0))
