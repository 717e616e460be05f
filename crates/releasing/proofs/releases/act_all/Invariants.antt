-- `releasing::releases::act_all` meets its contract: a monitor a turn, from the front of the table.
-- Assumes nothing.
use mathlib.Core.List.{List}
use Prim.Native.Nat.{ℕ}
use Rattle.serving.proofs.EachActs.{Acted}
use Rattle.clocking.specs.Bytes.{clock_of}
use Rattle.releasing.proofs.releases.act_all.Given as goal

-- the windows that a state holds
abbrev pub windowsOf : List ℕ → List (List ℕ)
windowsOf s = (clock_of s).windows

abbrev pub invariant-loop-k : goal.invariant-loop-k
invariant-loop-k l = Acted l.command l.initial.table (windowsOf l.state) l.table l.k l.taken
