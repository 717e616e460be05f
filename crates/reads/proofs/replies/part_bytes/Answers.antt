-- `reads::replies::part_bytes` meets its contract: after its tests all six bytes are the record's, and without them the call
-- promises the same.
-- Assumes nothing.
use mathlib.Core.Path.{◌∙◌}
use native.Mathlib.Omega.{arith}
use Rattle.reads.proofs.Showing.{shows_whole}
use Rattle.reads.proofs.replies.part_bytes.Goals as goal

pub returns-then-at-rec : goal.returns-then-at-rec
returns-then-at-rec c =
    let a = c.args in
    c.copy_from_slice.ensures.after
    ∙ shows_whole a.part a.rec.now (omega (arith, c.from-at.ensures)) c.from-at.ensures (omega (arith, c.from.ensures)) c.if-at-rec.true
