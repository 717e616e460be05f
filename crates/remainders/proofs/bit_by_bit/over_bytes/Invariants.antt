-- `remainders::bit_by_bit::over_bytes` meets its contract: a loop along the bytes.
-- Assumes nothing.
use Rattle.remainders.proofs.Along.{Along}
use Rattle.remainders.proofs.bit_by_bit.over_bytes.Given as goal

abbrev pub invariant-loop-byte : goal.invariant-loop-byte
invariant-loop-byte g l = Along g.W.CheckWord.WIDTH g.W.CheckWord.POLYNOMIAL 16 l.bytes l.r l.byte-index
