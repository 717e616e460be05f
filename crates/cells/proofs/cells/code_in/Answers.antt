-- `cells::cells::code_in` meets its contract: two bytes of the part, and none past its end.
-- Assumes nothing.
use mathlib.Core.Path.{sym, ap₂}
use Prim.Native.Nat.{ℕ, ◌+◌, ◌*◌}
use native.Mathlib.Omega.{arith}
use Rattle.records.specs.Record.{byte_in}
use Rattle.records.proofs.Parts.{past_part}
use Rattle.thresholds.specs.Thresholds.{signed}
use Rattle.cells.specs.Cells.{code_in}
use Rattle.cells.proofs.cells.code_in.Goals as goal

pub returns-then-c-part : goal.returns-then-c-part
unfolding code_in byte_in signed
returns-then-c-part c =
    let a = c.args in
    let low = past_part a.part a.rec.now {i = 2 * a.c} (omega arith) in
    let high = past_part a.part a.rec.now {i = 2 * a.c + 1} (omega arith) in
    sym (ap₂ (λ (m n : ℕ). record { 0 = signed 16 (m + n * 256) }) low high)
