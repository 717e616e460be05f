-- `remainders::bit_by_bit::over_bytes` meets its contract: a loop along the bytes.
-- Assumes nothing.
use Rattle.pec.specs.Remainder.{Fitting}
use Rattle.remainders.proofs.Along.{along_more, along_end}
use Rattle.remainders.proofs.bit_by_bit.over_bytes.Goals as goal

pub loop-byte-preserved : goal.loop-byte-preserved
loop-byte-preserved g c =
    let fit : Fitting g.W.CheckWord.WIDTH g.W.CheckWord.POLYNOMIAL 16 = g.met.W.CheckWord.fitting in
    along_more _ _ _ _ c.loop-byte.invariant c.loop-byte-test.true fit.polynomial c.step_byte-r.ensures

pub returns : goal.returns
returns g c = along_end _ _ _ _ c.loop-byte.invariant c.loop-byte-test.false
