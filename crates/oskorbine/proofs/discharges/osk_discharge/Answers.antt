-- `oskorbine::discharges::osk_discharge` meets its contract, answer by answer: at most sixteen outputs are on.
-- Assumes nothing.
use mathlib.Core.Path.{◌≡◌, sym, ap, ◌∙◌}
use mathlib.Core.List.{List}
use Prim.Native.Nat.{ℕ}
use native.Mathlib.Omega.{arith}
use lib.ListN.{length}
use Rattle.priorities.specs.declared.outputs.Events.{Events}
use Rattle.discharge.specs.Question.{discharged, outputs_after}
use Rattle.packing.specs.Packed.{packed}
use Rattle.packing.proofs.Packed.{fits_as_told}
use Rattle.oskorbine.specs.Answers.{discharged_parts}
use Rattle.oskorbine.proofs.Fits.{discharge_fits}
use Rattle.oskorbine.proofs.discharges.osk_discharge.Goals as goal
use Rattle.std.specs.Prelude.{Result}
use Rattle.refusals.specs.declared.Refusal.{Refusal}

-- the question as the byte of events asks it: its answer, packed, and its outputs
module _ (table : List ℕ) (position phase : ℕ) (out : List ℕ) {given asked : Events} (e : given ≡ asked) where
  as-asked : {came told : Result ℕ Refusal} {answer : ℕ} {after : List ℕ} → came ≡ discharged table position given phase (length out)
      → after ≡ outputs_after table position given phase out → came ≡ told → answer ≡ packed (discharged_parts told)
      → (answer ≡ packed (discharged_parts (discharged table position asked phase (length out)))) × (after ≡ outputs_after table position asked phase out)
  as-asked d o t a = (
    a
        ∙ ap (λ (x : Result ℕ Refusal). packed (discharged_parts x)) (sym t ∙ d)
        ∙ ap (λ (ev : Events). packed (discharged_parts (discharged table position ev phase (length out)))) e,
    o ∙ ap (λ (ev : Events). outputs_after table position ev phase out) e,
  )

pub overflow_cast-outputs : goal.overflow_cast-outputs
overflow_cast-outputs c =
    let call = c in
    let a = call.args in
    let fit = fits_as_told discharged_parts (sym call.discharge.ensures.value ∙ c.in-Ok.is) (discharge_fits a.table.now a.position call.events_in.result a.phase (length a.out.now)) in
    omega (arith, fit.first_fits)

pub returns-in-Err : goal.returns-in-Err
returns-in-Err c =
    let call = c in
    let told = as-asked _ _ _ _ call.events_in.ensures call.discharge.ensures.value call.discharge.ensures.out_after c.in-Err.is c.refused.ensures in
    record { value = told.0; out_after = told.1 }

pub returns-in-Ok : goal.returns-in-Ok
returns-in-Ok c =
    let call = c in
    let told = as-asked _ _ _ _ call.events_in.ensures call.discharge.ensures.value call.discharge.ensures.out_after c.in-Ok.is c.accepted.ensures in
    record { value = told.0; out_after = told.1 }
