-- `cells::cells::flag_byte` meets its contract: a loop over the four cells, with the flags of those before k, which take two bits each.
-- Assumes nothing.
use mathlib.Core.Path.{◌≡◌}
use Prim.Native.Nat.{◌*◌, ◌^◌, ◌<◌}
use Rattle.cells.proofs.Flags.{first_flags}
use Rattle.cells.proofs.cells.flag_byte.Given as goal

abbrev pub invariant-loop-k : goal.invariant-loop-k
invariant-loop-k l = (l.flags ≡ first_flags l.rec l.j l.k) × (l.flags < 2 ^ (2 * l.k))
