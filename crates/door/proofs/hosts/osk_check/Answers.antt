-- `door::hosts::osk_check` meets its contract, answer by answer.
-- Assumes nothing.
use mathlib.Core.Path.{ap, ◌∙◌, sym}
use Rattle.std.specs.Prelude.{Ok}
use Rattle.packing.proofs.Packed.{as_told}
use Rattle.door.specs.Answers.{checked_parts}
use Rattle.door.proofs.hosts.osk_check.Goals as goal

pub returns-in-Err : goal.returns-in-Err
returns-in-Err c = as_told checked_parts c.refused.ensures (sym c.in-Err.ensures)

pub returns-in-Ok-Right : goal.returns-in-Ok-Right
returns-in-Ok-Right c = as_told checked_parts c.accepted.ensures (sym c.check.ensures ∙ (c.in-Ok-Right.is ∙ ap Ok c.in-Ok-Right.field-0-is))

pub returns-in-Ok-Damaged : goal.returns-in-Ok-Damaged
returns-in-Ok-Damaged c =
    as_told checked_parts c.accepted-in-Ok-Damaged.ensures (sym c.check.ensures ∙ (c.in-Ok-Damaged.is ∙ ap Ok c.in-Ok-Damaged.field-0-is))

pub returns-in-Ok-CounterDiffers : goal.returns-in-Ok-CounterDiffers
returns-in-Ok-CounterDiffers c =
    as_told checked_parts c.accepted-in-Ok-CounterDiffers.ensures (sym c.check.ensures ∙ (c.in-Ok-CounterDiffers.is ∙ ap Ok c.in-Ok-CounterDiffers.field-0-is))
