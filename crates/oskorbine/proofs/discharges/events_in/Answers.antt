-- `oskorbine::discharges::events_in` meets its contract, bit by bit.
-- Assumes nothing.
use mathlib.Core.Path.{sym, ap}
use Prim.Native.Nat.{ℕ, ◌/◌}
use native.Mathlib.Nat.{div-one}
use Rattle.laws.specs.Bits.{odd, bit_at}
use Rattle.priorities.specs.declared.outputs.Events.{Events}
use Rattle.oskorbine.specs.Events.{events_in}
use Rattle.oskorbine.proofs.discharges.events_in.Goals as goal

pub returns : goal.returns
unfolding events_in bit_at odd
returns c =
    let bits = c.args.bits in
    ap {B = Events} (λ (n : ℕ). record { shutdown = odd n; measurement = odd (bits / 2); wrcfgb = odd (bits / 4); wrpwm = odd (bits / 8) }) (sym (div-one bits))
