-- `clocking::bytes_in::one_more` meets its contract, by its test.
-- Assumes nothing.
use mathlib.Core.Path.{sym, ap}
use mathlib.Core.Bool.{Bool, cond}
use Prim.Native.Nat.{◌+◌}
use native.Mathlib.Omega.{arith}
use borrow.Author.Tests.{lt-ltb, le-ltb}
use Rattle.clocking.specs.Clock.{most_seen, one_more}
use Rattle.clocking.proofs.bytes_in.one_more.Goals as goal

pub returns-then-seen-lt-MOST_SEEN : goal.returns-then-seen-lt-MOST_SEEN
unfolding one_more
returns-then-seen-lt-MOST_SEEN c =
    let seen = c.args.seen in
    record { value = ap (λ (b : Bool). cond b (seen + 1) seen) (sym (lt-ltb seen most_seen c.if-seen-lt-MOST_SEEN.true)); upper_bound = omega arith }

pub returns-else-seen-lt-MOST_SEEN : goal.returns-else-seen-lt-MOST_SEEN
unfolding one_more
returns-else-seen-lt-MOST_SEEN c =
    let seen = c.args.seen in
    record { value = ap (λ (b : Bool). cond b (seen + 1) seen) (sym (le-ltb seen most_seen c.if-seen-lt-MOST_SEEN.false)); upper_bound = omega arith }
