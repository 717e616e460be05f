-- `remainders::bit_by_bit::step_bit` meets its contract: the test on the sum of the two bits is the definition's.
-- Assumes nothing.
use mathlib.Core.Path.{◌≡◌, sym, ap, ap₂, ◌∙◌, subst}
use Prim.Native.Nat.{ℕ, ◌*◌, ◌/◌, ◌%◌, ◌^◌}
use lib.Bits.{bit_xor}
use Rattle.laws.specs.Bits.{◌⊕◌}
use Rattle.laws.proofs.Shifts.{power}
use Rattle.pec.specs.Remainder.{Fitting}
use Rattle.pec.proofs.Remainder.{step-taken, step_left}
use Rattle.remainders.proofs.bit_by_bit.step_bit.Goals as goal

pub returns-then-up-WIDTH-eq1 : goal.returns-then-up-WIDTH-eq1
unfolding ◌⊕◌
returns-then-up-WIDTH-eq1 g c =
    let w = g.W.CheckWord.WIDTH in
    let p = g.W.CheckWord.POLYNOMIAL in
    let r = c.args.r in
    let x = c.args.x in
    let fit : Fitting w p 16 = g.met.W.CheckWord.fitting in
    ap₂ (λ (n m : ℕ). bit_xor (r * 2 % (1 * 2 ^ n % 65536)) m) c.WIDTH.ensures c.POLYNOMIAL.ensures
    ∙ ap (λ (n : ℕ). bit_xor (r * 2 % n) p) (power 16 fit.width)
    ∙ sym (step-taken w p r x (subst (λ (n : ℕ). bit_xor (r * 2 / 2 ^ n) x % 2 ≡ 1) c.WIDTH-2.ensures c.if-up-WIDTH-eq1.true))

pub returns-else-up-WIDTH-eq1 : goal.returns-else-up-WIDTH-eq1
unfolding ◌⊕◌
returns-else-up-WIDTH-eq1 g c =
    let w = g.W.CheckWord.WIDTH in
    let p = g.W.CheckWord.POLYNOMIAL in
    let r = c.args.r in
    let x = c.args.x in
    let fit : Fitting w p 16 = g.met.W.CheckWord.fitting in
    ap (λ (n : ℕ). r * 2 % (1 * 2 ^ n % 65536)) c.WIDTH.ensures
    ∙ ap (λ (n : ℕ). r * 2 % n) (power 16 fit.width)
    ∙ sym (step_left w p r x (subst (λ (n : ℕ). bit_xor (r * 2 / 2 ^ n) x % 2 ≡ 1 → ⊥) c.WIDTH-2.ensures c.if-up-WIDTH-eq1.false))
