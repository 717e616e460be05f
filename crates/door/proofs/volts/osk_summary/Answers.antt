-- `door::volts::osk_summary` meets its contract, answer by answer and by the room: the three stores are the summary's three places,
-- and its cells fit.
-- Assumes nothing.
use mathlib.Core.Path.{sym, ap, ◌∙◌, subst}
use Prim.Native.Nat.{◌≤◌}
use native.Mathlib.Omega.{arith}
use Rattle.readings.specs.Readings.{most_codes}
use Rattle.readings.proofs.Summaries.{cells_of}
use Rattle.door.proofs.Fits.{few-cells}
use Rattle.door.proofs.volts.osk_summary.Goals as goal
use Rattle.std.specs.Prelude.{Option, Result, Ok}
use Rattle.refusals.specs.declared.Refusal.{Refusal}
use Rattle.readings.specs.declared.pack_summary.Summary.{Summary}

pub overflow_cast-summary : goal.overflow_cast-summary
overflow_cast-summary c =
    let few = subst (λ (p : Result (Option Summary) Refusal). cells_of p ≤ most_codes) (sym c.summary_of.ensures ∙ c.in-Ok-Some.is ∙ ap Ok c.in-Ok-Some.field-0-is) (few-cells c.args.codes.now) in
    omega (arith, few)
