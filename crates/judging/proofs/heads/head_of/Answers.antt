-- `judging::heads::head_of` meets its contract, by its test.
-- Assumes nothing.
use mathlib.Core.Path.{sym}
use native.Mathlib.Omega.{arith}
use lib.Seq.{take_all, length-take-le}
use Rattle.judging.proofs.heads.head_of.Goals as goal

pub returns-then-frame-lt4 : goal.returns-then-frame-lt4
returns-then-frame-lt4 c = sym (take_all 4 c.args.frame.now (omega (arith, c.if-frame-lt4.true)))

pub slice_bounds-result-end : goal.slice_bounds-result-end
slice_bounds-result-end c = sym (length-take-le 4 c.args.frame.now c.if-frame-lt4.false)
