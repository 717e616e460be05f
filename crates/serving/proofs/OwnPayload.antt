-- Where each monitor's own bytes of a frame stand among the payloads, which are as many as the monitors.
-- Assumes nothing.
use mathlib.Core.Path.{◌≡◌}
use mathlib.Core.List.{List, []}
use Prim.Native.Nat.{ℕ, suc, ◌-◌, ◌<◌}
use lib.ListN.{length, drop, get_or}
use Rattle.laws.specs.Rows.{row_at}
use Rattle.wire.proofs.Order.{length-write_payloads, write_at}
use Rattle.records.specs.declared.commands.Command.{Command}
use Rattle.records.specs.Commands.{width_of}
use Rattle.serving.specs.Served.{payloads_in}

module _ (c : Command) (n : ℕ) (table frame : List ℕ) where
  -- the own bytes of the monitor at k
  pub own-bytes : (k : ℕ) → k < n → get_or (payloads_in c frame n) k [] ≡ row_at (width_of c) (n - suc k) (drop 4 frame)
  unfolding payloads_in
  own-bytes k h = write_at (width_of c) n (drop 4 frame) k [] h

  pub length-payloads_in : length (payloads_in c frame n) ≡ n
  unfolding payloads_in
  length-payloads_in = length-write_payloads (width_of c) n (drop 4 frame)
