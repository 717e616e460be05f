-- `reads::replies::shown_bytes` meets its contract: the bytes so far are those that the part shows.
-- Assumes nothing.
use mathlib.Core.Path.{◌≡◌}
use Prim.Native.Nat.{ℕ, ◌<◌}
use lib.ListN.{length, get_or}
use Rattle.records.specs.Record.{bytes_of}
use Rattle.reads.proofs.replies.shown_bytes.Given as goal

abbrev pub invariant-loop-i : goal.invariant-loop-i
invariant-loop-i l = (length l.bytes ≡ 6) × ((k : ℕ) → k < l.i → get_or l.bytes k 0 ≡ get_or (bytes_of l.part l.rec) k 0xFF)
