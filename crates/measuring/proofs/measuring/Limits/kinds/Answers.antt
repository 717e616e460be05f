-- `Limits::kinds` meets its contract: what the machine reads back of the two differences is the differences, so its tests are those of the
-- numbers.
-- Assumes nothing.
use mathlib.Core.Path.{◌≡◌, ap, ap₂, ◌∙◌}
use Prim.Native.Nat.{ℕ, ◌+◌, ◌*◌}
use native.Mathlib.Omega.{arith}
use lib.IntN.{ℤ, ◌-ℤ◌}
use lib.Signed.{lt_z}
use mir.Syntax.{w64}
use mir.Val.{bool_byte, to_z, of_z}
use Rattle.std.proofs.lemmas.Int.{ints}
use Rattle.cells.proofs.Flags.{bit_worth, bit_worth_one, less_is}
use Rattle.measuring.specs.Measuring.{kinds}
use Rattle.measuring.proofs.measuring.Limits.kinds.Goals as goal

-- four tests, each as a bit
of_tests : (code last low high step : ℤ) {below above fell rose : ℕ} → below ≡ bool_byte (lt_z code low) → above ≡ bool_byte (lt_z high code)
    → fell ≡ bool_byte (lt_z step (last -ℤ code)) → rose ≡ bool_byte (lt_z step (code -ℤ last))
    → below + above * 2 + fell * 4 + rose * 8 ≡ kinds code last low high step
unfolding kinds
of_tests code last low high step b a f r =
    ap₂ ◌+◌ (ap₂ ◌+◌ (ap₂ ◌+◌ (b ∙ bit_worth_one _) (ap (λ (n : ℕ). n * 2) a ∙ bit_worth _ 2)) (ap (λ (n : ℕ). n * 4) f ∙ bit_worth _ 4))
    (ap (λ (n : ℕ). n * 8) r ∙ bit_worth _ 8)

pub returns : goal.returns
returns c =
    let a = c.args in
    let step : to_z w64 (of_z w64 a.self.step) ≡ a.self.step = omega (arith, ints) in
    let fall : to_z w64 (of_z w64 (to_z w64 (of_z w64 c.from-was.result) -ℤ to_z w64 (of_z w64 c.from-now.result))) ≡ a.last.0 -ℤ a.code.0 = omega (arith, ints) in
    let rise : to_z w64 (of_z w64 (to_z w64 (of_z w64 c.from-now.result) -ℤ to_z w64 (of_z w64 c.from-was.result))) ≡ a.code.0 -ℤ a.last.0 = omega (arith, ints) in
    of_tests a.code.0 a.last.0 a.self.low.0 a.self.high.0 a.self.step
    (c.from-below.ensures ∙ ap bool_byte (c.lt.ensures ∙ less_is a.code.0 a.self.low.0))
    (c.from-above.ensures ∙ ap bool_byte (c.lt-2.ensures ∙ less_is a.self.high.0 a.code.0))
    (c.from-fell.ensures ∙ ap₂ (λ (x y : ℤ). bool_byte (lt_z x y)) step fall)
    (c.from-rose.ensures ∙ ap₂ (λ (x y : ℤ). bool_byte (lt_z x y)) step rise)
