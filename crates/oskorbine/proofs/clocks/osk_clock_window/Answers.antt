-- `oskorbine::clocks::osk_clock_window` meets its contract, answer by answer: a window's size fits.
-- Assumes nothing.
use mathlib.Core.Path.{sym, ◌∙◌}
use native.Mathlib.Omega.{arith}
use lib.ListN.{length}
use Rattle.packing.proofs.Packed.{as_told, fits_as_told}
use Rattle.oskorbine.specs.Answers.{looked_parts}
use Rattle.oskorbine.proofs.Fits.{look_fits}
use Rattle.oskorbine.proofs.clocks.osk_clock_window.Goals as goal

pub overflow_cast-size : goal.overflow_cast-size
overflow_cast-size c =
    let call = c in
    let a = call.args in
    omega (arith, (fits_as_told looked_parts (sym call.look.ensures.value ∙ c.in-Ok.is) (look_fits a.state.now a.position (length a.out.now))).second_fits)

pub returns-in-Err : goal.returns-in-Err
returns-in-Err c =
    let done = c.look.ensures in
    record { value = as_told looked_parts c.refused.ensures (sym done.value ∙ c.in-Err.is); out_after = done.out_after }

pub returns-in-Ok : goal.returns-in-Ok
returns-in-Ok c =
    let done = c.look.ensures in
    record { value = as_told looked_parts c.accepted.ensures (sym done.value ∙ c.in-Ok.is); out_after = done.out_after }
