-- `remainders::bit_by_bit::step_byte` meets its contract. The loop's invariant: the bits that are left lead from the remainder so far to the
-- result.
-- Assumes nothing.
use mathlib.Core.Path.{refl, ap, ◌∙◌, subst⁻¹}
use Prim.Native.Nat.{ℕ, ◌-◌, ◌/◌, ◌^◌, ◌<◌}
use native.Mathlib.Omega.{arith}
use Rattle.laws.specs.Bits.{odd, bits_of}
use Rattle.pec.specs.Remainder.{step, remainder, Fitting}
use Rattle.pec.proofs.Remainder.{step-below, next_bit, no_bit}
use Rattle.remainders.proofs.bit_by_bit.step_byte.Goals as goal

pub loop-place-init : goal.loop-place-init
loop-place-init g c = record { few = omega arith; below = c.requires; leads = refl }

pub step_bit-r-requires : goal.step_bit-r-requires
step_bit-r-requires g c = c.loop-place.invariant.below

pub loop-place-preserved : goal.loop-place-preserved
loop-place-preserved g c =
    let w = g.W.CheckWord.WIDTH in
    let p = g.W.CheckWord.POLYNOMIAL in
    let byte = c.args.byte in
    let l = c.loop-place in
    let fit : Fitting w p 16 = g.met.W.CheckWord.fitting in
    let e = c.step_bit-r.ensures ∙ ap (λ (n : ℕ). step w p l.r (odd (n / 2 ^ (l.place - 1)))) c.from-x.ensures in
    record {
      few = omega arith;
      below = subst⁻¹ (λ (n : ℕ). n < 2 ^ w) e (step-below w l.r _ fit.polynomial);
      leads = ap (λ (n : ℕ). remainder w p n (bits_of (l.place - 1) byte)) e
          ∙ next_bit w p l.r l.place byte c.loop-place-test.true
          ∙ l.invariant.leads;
    }

pub returns : goal.returns
returns g c =
    let l = c.loop-place in
    no_bit g.W.CheckWord.WIDTH g.W.CheckWord.POLYNOMIAL l.r l.place c.args.byte c.loop-place-test.false ∙ l.invariant.leads
