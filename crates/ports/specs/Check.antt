-- Document 02, L5: the check of one payload.
-- Assumes nothing.
use Rattle.std.specs.Prelude.{cond, not, List, [], ◌∷◌, ℕ, eqb, length, Result, Ok, Err}
use Rattle.pec.specs.Words.{counter_of}
use Rattle.refusals.specs.declared.Refusal.TheVariants.{LengthWrong}
use Rattle.refusals.specs.Order.{Row, ◌gives◌, decide}
use Rattle.records.specs.Commands.{payload_size}
use Rattle.ports.specs.declared.checks.Checked.{Checked}
use Rattle.ports.specs.declared.checks.Checked.TheVariants.{Right, CounterDiffers, Damaged}
use Rattle.ports.specs.Verdicts.{is_damaged, counter_differs, counter_row}
use Rattle.refusals.specs.declared.Refusal.{Refusal}

unfoldable pub check_refusals : List ℕ → ℕ → List Row
check_refusals payload expected =
    counter_row expected
    ∷ (not (eqb (length payload) payload_size) gives LengthWrong)
    ∷ []

unfoldable pub checked : List ℕ → ℕ → Result Checked Refusal
checked payload expected =
    decide (check_refusals payload expected) Err
    (Ok (cond (is_damaged payload) Damaged (cond (counter_differs payload expected) (CounterDiffers (counter_of payload)) Right)))
