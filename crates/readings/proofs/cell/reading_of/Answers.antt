-- `readings::cell::reading_of` meets its contract: what it calls says what each part of the definition is, and the microvolts of
-- a code of 32 bits go to an f64 with nothing lost.
-- Assumes nothing.
use mathlib.Core.Path.{◌≡◌, ap, ◌∙◌, subst⁻¹}
use mathlib.Core.Bool.{true}
use native.Mathlib.Omega.{arith}
use lib.Ieee.{binary64, in_float}
use lib.IntN.{ℤ}
use mir.Syntax.{w32, w64}
use mir.Val.{SFits, to_z, of_z}
use mir.Facts.{to_z-of_z}
use Rattle.readings.proofs.Codes.{microvolts_fit, microvolts_exact}
use Rattle.readings.proofs.cell.reading_of.Goals as goal

pub volts_of-requires : goal.volts_of-requires
volts_of-requires c =
    let code = c.args.code in
    let fits : SFits w32 code.0 = record { sfits = omega arith } in
    subst⁻¹ (λ (z : ℤ). in_float binary64 z ≡ true)
    (ap (λ (z : ℤ). to_z w64 (of_z w64 z)) c.microvolts_of.ensures ∙ to_z-of_z (microvolts_fit code fits))
    (microvolts_exact code fits)
