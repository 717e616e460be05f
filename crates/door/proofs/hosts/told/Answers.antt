-- `door::hosts::told` meets its contract.
-- Assumes nothing.
use mathlib.Core.Path.{sym, ap}
use mathlib.Core.Bool.{Bool, cond}
use Prim.Native.Nat.{◌+◌}
use Rattle.door.proofs.hosts.told.Goals as goal

pub returns-then-differs : goal.returns-then-differs
returns-then-differs c = let q = c.args in sym (ap (λ (d : Bool). cond d (q.port + 2) q.port) c.if-differs.true)

pub returns-else-differs : goal.returns-else-differs
returns-else-differs c = let q = c.args in sym (ap (λ (d : Bool). cond d (q.port + 2) q.port) c.if-differs.false)
