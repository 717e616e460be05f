-- `oskorbine::beats::osk_wake` meets its contract: the wake's answer is packed.
-- Assumes nothing.
use mathlib.Core.Path.{sym}
use Rattle.oskorbine.specs.Answers.{sent_parts}
use Rattle.packing.proofs.Packed.{as_told}
use Rattle.oskorbine.proofs.beats.osk_wake.Goals as goal

pub returns : goal.returns
returns c =
    let done = c.wake.ensures in
    record { value = as_told sent_parts c.sent_answer.ensures (sym done.value); table_after = done.table_after; out_after = done.out_after }
