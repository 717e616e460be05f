-- `clocking::bytes_in::shift` meets its contract: the register is turned by one, and its last element replaced.
-- Assumes nothing.
use Prim.Native.Nat.{◌<◌}
use native.Mathlib.Omega.{arith}
use lib.ListN.{length}
use Rattle.clocking.proofs.Shifting.{turned}
use Rattle.clocking.proofs.bytes_in.shift.Goals as goal

pub returns-clause-register_after : goal.returns-clause-register_after
returns-clause-register_after c =
    let r = c.args.register.now in
    let some : 0 < length r = grind arith in
    let turn = turned r c.args.byte some in
    let rotated = c.rotate_left.ensures in
    rw (rotated.len, rotated.after, c.replace.ensures.after) turn
