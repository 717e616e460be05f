-- `laying::put` meets its contract. Two tests find out whether the bytes fit; where they do, they stand in the part that was lent.
-- Assumes nothing.
use mathlib.Core.Path.{sym, ◌∙◌}
use native.Mathlib.Omega.{arith}
use Rattle.laying.proofs.Placed.{part_back, stays, laid}
use Rattle.laying.proofs.put.Goals as goal

pub returns-then-buffer-at : goal.returns-then-buffer-at
returns-then-buffer-at c =
    let a = c.args in
    sym (stays a.at a.bytes.now a.buffer.now (omega arith))

pub returns-then-buffer-at-2 : goal.returns-then-buffer-at-2
returns-then-buffer-at-2 c =
    let a = c.args in
    sym (stays a.at a.bytes.now a.buffer.now (omega arith))

pub returns : goal.returns
returns c =
    let a = c.args in
    part_back a.at a.bytes.now a.buffer.now c.copy_from_slice.ensures.after ∙ sym (laid a.at a.bytes.now a.buffer.now (omega arith))
