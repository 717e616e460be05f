-- `ports::ports::part_at` meets its contract: eight bytes from the place on.
-- Assumes nothing.
use mathlib.Core.Path.{◌≡◌, ap₂}
use Prim.Native.Nat.{ℕ, ◌+◌, ◌-◌, ◌*◌}
use native.Mathlib.Nat.{add_comm}
use native.Mathlib.Omega.{arith}
use lib.ListN.{take, drop}
use Rattle.ports.proofs.ports.part_at.Goals as goal

pub returns : goal.returns
returns c =
    let a = c.args in
    let at : ℕ = a.place * 8 in
    let eight : at + 8 - at ≡ 8 = omega arith in
    ap₂ (λ (start count : ℕ). record { block = a.reply.ref_ptr.0; start = start; bytes = take count (drop at a.reply.now) })
    (add_comm at a.reply.ref_ptr.1) eight
