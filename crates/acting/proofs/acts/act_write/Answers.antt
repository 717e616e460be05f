-- `acting::acts::act_write` meets its contract: begun by whether it accepts the write, and written where it does.
-- Assumes nothing.
use Rattle.records.specs.Record.{byte_of}
use Rattle.monitor.proofs.Keeping.{kept-good, kept-bad}
use Rattle.acting.proofs.acts.act_write.Goals as goal

pub returns-then-took-clause-rec_after : goal.returns-then-took-clause-rec_after
unfolding byte_of
returns-then-took-clause-rec_after c =
    let a = c.args in
    kept-good a.what a.own.now a.rec.now c.accepts-took.ensures c.begin.ensures c.if-took.true c.begin.array_long c.write.ensures

pub returns-else-took-clause-rec_after : goal.returns-else-took-clause-rec_after
returns-else-took-clause-rec_after c =
    let a = c.args in
    kept-bad a.what a.own.now a.rec.now c.accepts-took.ensures c.begin.ensures c.if-took.false
