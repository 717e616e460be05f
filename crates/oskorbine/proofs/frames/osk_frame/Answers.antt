-- `oskorbine::frames::osk_frame` meets its contract: the chain's answer fits, and is packed.
-- Assumes nothing.
use mathlib.Core.Path.{sym}
use lib.ListN.{length}
use Rattle.packing.proofs.Packed.{fits_as_told}
use Rattle.oskorbine.specs.Answers.{frame_parts}
use Rattle.oskorbine.proofs.Fits.{frame-fits}
use Rattle.oskorbine.proofs.frames.osk_frame.Goals as goal

pub frame_answer-requires : goal.frame_answer-requires
frame_answer-requires c =
    let a = c.args in
    fits_as_told frame_parts (sym c.handle.ensures.value) (frame-fits a.table.now a.frame.now (length a.reply.now))
