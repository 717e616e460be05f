-- `host::frames::value_count` meets its contract, kind by kind.
-- Assumes nothing.
use mathlib.Core.Path.{sym, ap, ◌∙◌}
use Prim.Native.Nat.{ℕ, ◌*◌, ◌≤◌}
use native.Mathlib.Nat.{mul-le-mul}
use native.Mathlib.Omega.{arith}
use Rattle.records.specs.declared.commands.Command.{Command}
use Rattle.records.specs.Commands.{most_monitors}
use Rattle.host.specs.Frames.{value_count}
use Rattle.host.proofs.frames.value_count.Goals as goal

pub overflow_mul-result : goal.overflow_mul-result
overflow_mul-result c =
    let start = c in
    let most : c.data_size-size.result * start.args.n ≤ 6 * most_monitors = mul-le-mul c.data_size-size.ensures.upper_bound start.requires in
    omega arith

pub returns-in-Writes : goal.returns-in-Writes
returns-in-Writes c =
    let n = c.args.n in
    ap (λ (size : ℕ). size * n) c.data_size-size.ensures.value ∙ ap (λ (k : Command). value_count k n) (sym c.in-Writes.is)
