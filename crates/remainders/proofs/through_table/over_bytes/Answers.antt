-- `remainders::through_table::over_bytes` meets its contract: a loop along the bytes.
-- Assumes nothing.
use mathlib.Core.Path.{ap, ◌∙◌}
use Prim.Native.Nat.{ℕ}
use Rattle.laws.specs.Bits.{bits_of}
use Rattle.pec.specs.Remainder.{remainder, Fitting}
use Rattle.remainders.proofs.Along.{along_more, along_end}
use Rattle.remainders.proofs.through_table.over_bytes.Goals as goal

pub loop-byte-preserved : goal.loop-byte-preserved
loop-byte-preserved g c =
    let w = g.W.CheckWord.WIDTH in
    let p = g.W.CheckWord.POLYNOMIAL in
    let fit : Fitting w p 16 = g.met.W.CheckWord.fitting in
    along_more _ _ _ _ c.loop-byte.invariant c.loop-byte-test.true fit.polynomial
    (c.step_bits-r.ensures ∙ ap (λ (n : ℕ). remainder w p c.loop-byte.r (bits_of 8 n)) c.from.ensures)

pub returns : goal.returns
returns g c = along_end _ _ _ _ c.loop-byte.invariant c.loop-byte-test.false
