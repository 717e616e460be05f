-- `host::frames::put_payloads` meets its contract. The loop's invariant: the payloads of the i farthest monitors are put.
-- Assumes nothing.
use mathlib.Core.Path.{◌≡◌}
use lib.ListN.{length}
use Rattle.laying.specs.Placed.{placed}
use Rattle.host.specs.Frames.{head_size}
use Rattle.host.proofs.Payloads.{farthest}
use Rattle.host.proofs.frames.put_payloads.Given as goal

abbrev pub invariant-loop-i : goal.invariant-loop-i
invariant-loop-i l =
    (length l.buffer ≡ length l.initial.buffer) × (l.buffer ≡ placed head_size (farthest l.size l.n l.values l.i) l.initial.buffer)
