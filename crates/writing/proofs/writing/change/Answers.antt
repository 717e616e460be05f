-- `writing::writing::change` meets its contract: a loop that makes so many bytes anew.
-- Assumes nothing.
use Rattle.records.proofs.Making.{making_start, making_more, making_end}
use Rattle.writing.proofs.writing.change.Goals as goal

pub loop-i-init : goal.loop-i-init
loop-i-init c = making_start _ _ _ _

pub loop-i-preserved : goal.loop-i-preserved
loop-i-preserved c = making_more _ _ _ _ c.loop-i.invariant c.loop-i-test.true c.changed_byte.ensures

pub returns : goal.returns
returns c = making_end _ _ _ _ c.loop-i.invariant c.loop-i-test.false
