-- `oskorbine::beats::osk_relay` meets its contract: the relay's answer is packed.
-- Assumes nothing.
use mathlib.Core.Path.{sym}
use Rattle.oskorbine.specs.Answers.{relayed_parts}
use Rattle.packing.proofs.Packed.{as_told}
use Rattle.oskorbine.proofs.beats.osk_relay.Goals as goal

pub returns : goal.returns
returns c =
    let done = c.relay.ensures in
    record { value = as_told relayed_parts c.relayed_answer.ensures (sym done.value); table_after = done.table_after; out_after = done.out_after }
