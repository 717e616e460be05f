-- A refusal that `?` passes on is the one that came.
-- Assumes nothing.
use Rattle.std.specs.Prelude.{◌≡◌, Result, Ok, Err, IsErrAnd}
use mathlib.Core.Path.{ap}
use Rattle.refusals.specs.declared.Refusal.{Refusal}

pub passed_on : {T : Type 0} {r : Result T Refusal} {e : Refusal} → IsErrAnd r (λ f. f ≡ e) → r ≡ Err e
passed_on {r = Ok x} h = absurd h
passed_on {r = Err f} h = ap Err h
