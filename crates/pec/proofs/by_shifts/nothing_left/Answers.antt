-- `pec::by_shifts::nothing_left` meets its contract: a sum is 0 where its two parts are the same.
-- Assumes nothing.
use mathlib.Core.Path.{◌≡◌, refl, sym, ap, ap₂, ◌∙◌}
use mathlib.Core.Bool.{xor}
use Prim.Native.Nat.{ℕ}
use lib.Dec.{eqb}
use Rattle.laws.specs.Bits.{◌⊕◌, odd, bits_of}
use Rattle.laws.proofs.Tests.{same_test}
use Rattle.laws.proofs.Xor.{zero_xor, xor_same, xor_twice}
use Rattle.pec.specs.Remainder.{once, step, remainder}
use Rattle.pec.specs.Words.{polynomial10, number_right}
use Rattle.pec.proofs.ManyBits.{from_start}
use Rattle.pec.proofs.by_shifts.nothing_left.Goals as goal

of-zeros : remainder 10 polynomial10 16 (bits_of 64 0) ≡ 0x04c
unfolding remainder step once bits_of odd ◌⊕◌ xor
of-zeros = refl

sum-is-zero : (a b : ℕ) → eqb a b ≡ eqb (a ⊕ b) 0
sum-is-zero a b =
    same_test a b (a ⊕ b) 0 (λ e. ap (λ (n : ℕ). n ⊕ b) e ∙ xor_same b) (λ e. sym (xor_twice a b) ∙ ap (λ (n : ℕ). n ⊕ b) e ∙ zero_xor b)

pub returns : goal.returns
unfolding number_right
returns c =
    sum-is-zero c.remainder_10.result 0x04c
    ∙ ap (λ (n : ℕ). eqb n 0) (ap₂ ◌⊕◌ c.remainder_10.ensures (sym of-zeros) ∙ from_start 10 polynomial10 16 64 c.args.payload)
