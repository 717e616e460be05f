-- `clocked::frames::clock_all` meets its contract: a byte a turn, and what came back is kept.
-- Assumes nothing.
use mathlib.Core.Path.{◌≡◌}
use Rattle.clocking.specs.Bytes.{clock_of}
use Rattle.clocked.specs.Frames.{kept_back}
use Rattle.clocked.proofs.Clocking.{clock-at, back_at}
use Rattle.clocked.proofs.frames.clock_all.Given as goal

abbrev pub invariant-loop-i : goal.invariant-loop-i
invariant-loop-i l =
    (clock_of l.state ≡ clock-at l.table l.frame (clock_of l.initial.state) l.i)
    × (l.back ≡ kept_back (back_at l.table l.frame (clock_of l.initial.state) l.i) l.initial.back)
