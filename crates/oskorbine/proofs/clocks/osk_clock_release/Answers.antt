-- `oskorbine::clocks::osk_clock_release` meets its contract: the release's answer fits, and is packed.
-- Assumes nothing.
use mathlib.Core.Path.{sym}
use Rattle.packing.proofs.Packed.{fits_as_told}
use Rattle.oskorbine.specs.Answers.{frame_parts}
use Rattle.oskorbine.proofs.Fits.{release_fits}
use Rattle.oskorbine.proofs.clocks.osk_clock_release.Goals as goal

pub frame_answer-requires : goal.frame_answer-requires
frame_answer-requires c =
    let a = c.args in
    fits_as_told frame_parts (sym c.release.ensures.value) (release_fits a.state.now a.table.now)
