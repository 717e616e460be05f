-- `cells::cells::flag_byte` meets its contract: the flags of a cell are at most 3, so those of four cells fit a byte.
-- Assumes nothing.
use mathlib.Core.Path.{◌≡◌, refl, ap, ◌∙◌}
use native.Mathlib.Omega.{arith}
use Rattle.cells.proofs.Flags.{first_flags, next_flags, all_flags}
use Rattle.cells.proofs.cells.flag_byte.Goals as goal

pub overflow_add-flags : goal.overflow_add-flags
overflow_add-flags c = record { fits = omega (arith, (next_flags c.args.rec.now c.args.j c.loop-k-test.true c.flags_of.ensures c.loop-k.invariant.0 c.loop-k.invariant.1).2) }

pub loop-k-init : goal.loop-k-init
unfolding first_flags
loop-k-init c = (refl, omega arith)

pub loop-k-preserved : goal.loop-k-preserved
loop-k-preserved c =
    let next = next_flags c.args.rec.now c.args.j c.loop-k-test.true c.flags_of.ensures c.loop-k.invariant.0 c.loop-k.invariant.1 in
    (next.0, next.1)

pub returns : goal.returns
returns c =
    let all : c.loop-k.k ≡ 4 = omega arith in
    c.loop-k.invariant.0 ∙ ap (first_flags c.args.rec.now c.args.j) all ∙ all_flags _ _
