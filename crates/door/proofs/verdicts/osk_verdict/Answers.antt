-- `door::verdicts::osk_verdict` meets its contract, verdict by verdict.
-- Assumes nothing.
use mathlib.Core.Path.{ap, ◌∙◌, sym}
use Rattle.std.specs.Prelude.{Ok}
use Rattle.door.specs.Answers.{verdict_parts}
use Rattle.packing.proofs.Packed.{as_told}
use Rattle.door.proofs.verdicts.osk_verdict.Goals as goal

pub returns-in-Err : goal.returns-in-Err
returns-in-Err c = as_told verdict_parts c.refused.ensures (sym c.in-Err.ensures)

pub returns-in-Ok-Passed : goal.returns-in-Ok-Passed
returns-in-Ok-Passed c =
    as_told verdict_parts c.accepted.ensures (sym c.verdict_on.ensures ∙ (c.in-Ok-Passed.is ∙ ap Ok c.in-Ok-Passed.field-0-is))

pub returns-in-Ok-Failed : goal.returns-in-Ok-Failed
returns-in-Ok-Failed c =
    as_told verdict_parts c.accepted-in-Ok-Failed.ensures (sym c.verdict_on.ensures ∙ (c.in-Ok-Failed.is ∙ ap Ok c.in-Ok-Failed.field-0-is))

pub returns-in-Ok-Damaged : goal.returns-in-Ok-Damaged
returns-in-Ok-Damaged c =
    as_told verdict_parts c.accepted-in-Ok-Damaged.ensures (sym c.verdict_on.ensures ∙ (c.in-Ok-Damaged.is ∙ ap Ok c.in-Ok-Damaged.field-0-is))

pub returns-in-Ok-TimedOut : goal.returns-in-Ok-TimedOut
returns-in-Ok-TimedOut c =
    as_told verdict_parts c.accepted-in-Ok-TimedOut.ensures (sym c.verdict_on.ensures ∙ (c.in-Ok-TimedOut.is ∙ ap Ok c.in-Ok-TimedOut.field-0-is))
