-- `remainders::bit_by_bit::step_byte` meets its contract. The loop's invariant: the bits that are left lead from the remainder so far to the
-- result.
-- Assumes nothing.
use mathlib.Core.Path.{◌≡◌}
use Prim.Native.Nat.{ℕ, ◌^◌, ◌≤◌, ◌<◌}
use Rattle.laws.specs.Bits.{bits_of}
use Rattle.pec.specs.Remainder.{remainder}
use Rattle.remainders.proofs.bit_by_bit.step_byte.Given as goal

pub record Leads (w g start byte r left : ℕ) : Type 0 where
  pub few : left ≤ 8
  pub below : r < 2 ^ w
  pub leads : remainder w g r (bits_of left byte) ≡ remainder w g start (bits_of 8 byte)

abbrev pub invariant-loop-place : goal.invariant-loop-place
invariant-loop-place g l = Leads g.W.CheckWord.WIDTH g.W.CheckWord.POLYNOMIAL l.start l.byte l.r l.place
