-- `passing::hops::reach_at` meets its contract: the record is lent and comes back.
-- Assumes nothing.
use Rattle.judging.proofs.Lies.{back_record}
use Rattle.heartbeats.specs.Steps.{answers, reached}
use Rattle.passing.specs.Hops.{hop_leaves}
use Rattle.passing.proofs.Lent.{said}
use Rattle.passing.proofs.hops.reach_at.Goals as goal

pub returns : goal.returns
unfolding hop_leaves
returns c =
    let a = c.args in
    let lies = c.in_ok-lies.ensures in
    record { value = said a.k a.table.now lies (answers a.bytes.now) c.reach.ensures.value; table_after = back_record a.k a.table.now lies (reached a.bytes.now) c.reach.ensures.rec_after }
