-- `chain::frames::payloads_of` meets its contract, by whether the frame has four bytes.
-- Assumes nothing.
use mathlib.Core.Path.{sym}
use Prim.Native.Nat.{◌-◌, ◌≤◌}
use native.Mathlib.Omega.{arith}
use lib.ListN.{length, length-drop, drop, drop_of_length-le}
use lib.Seq.{take_all}
use Rattle.chain.proofs.frames.payloads_of.Goals as goal

pub returns-then-frame-lt4 : goal.returns-then-frame-lt4
returns-then-frame-lt4 c =
    let short : length c.args.frame.now ≤ 4 = omega (arith, c.if-frame-lt4.true) in
    sym (drop_of_length-le c.args.frame.now short)

pub returns : goal.returns
returns c =
    let frame = c.args.frame.now in
    let rest : length (drop 4 frame) ≤ length frame - 4 = omega (arith, length-drop 4 frame) in
    take_all (length frame - 4) (drop 4 frame) rest
