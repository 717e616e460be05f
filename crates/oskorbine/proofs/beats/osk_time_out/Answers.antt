-- `oskorbine::beats::osk_time_out` meets its contract: what comes of the time is packed.
-- Assumes nothing.
use mathlib.Core.Path.{sym}
use Rattle.oskorbine.specs.Answers.{timed_parts}
use Rattle.packing.proofs.Packed.{as_told}
use Rattle.oskorbine.proofs.beats.osk_time_out.Goals as goal

pub returns : goal.returns
returns c =
    let done = c.time_out.ensures in
    record { value = as_told timed_parts c.timed_answer.ensures (sym done.value); table_after = done.table_after }
