-- `door::hosts::osk_host_frame` meets its contract, answer by answer: a frame's length fits.
-- Assumes nothing.
use mathlib.Core.Path.{sym, ◌∙◌}
use native.Mathlib.Omega.{arith}
use lib.ListN.{length}
use Rattle.packing.proofs.Packed.{as_told, fits_as_told}
use Rattle.door.specs.Answers.{built_parts}
use Rattle.door.proofs.Fits.{built-fits}
use Rattle.door.proofs.hosts.osk_host_frame.Goals as goal

pub overflow_cast-size : goal.overflow_cast-size
overflow_cast-size c =
    let call = c in
    let a = call.args in
    omega (arith, (fits_as_told built_parts (sym call.build.ensures.value ∙ c.in-Ok.is) (built-fits a.command a.monitors a.values.now (length a.out.now))).second_fits)

pub returns-in-Err : goal.returns-in-Err
returns-in-Err c =
    let done = c.build.ensures in
    record { value = as_told built_parts c.refused.ensures (sym done.value ∙ c.in-Err.is); out_after = done.buffer_after }

pub returns-in-Ok : goal.returns-in-Ok
returns-in-Ok c =
    let done = c.build.ensures in
    record { value = as_told built_parts c.accepted.ensures (sym done.value ∙ c.in-Ok.is); out_after = done.buffer_after }
