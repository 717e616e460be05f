-- `passing::hops::wake_at` meets its contract: the record is lent and comes back.
-- Assumes nothing.
use Rattle.judging.proofs.Lies.{back_record}
use Rattle.heartbeats.specs.Steps.{wakes, woken}
use Rattle.passing.specs.Hops.{wake_leaves}
use Rattle.passing.proofs.Lent.{said}
use Rattle.passing.proofs.hops.wake_at.Goals as goal

pub returns : goal.returns
unfolding wake_leaves
returns c =
    let a = c.args in
    let lies = c.in_ok-lies.ensures in
    record { value = said a.k a.table.now lies wakes c.wake.ensures.value; table_after = back_record a.k a.table.now lies woken c.wake.ensures.rec_after }
