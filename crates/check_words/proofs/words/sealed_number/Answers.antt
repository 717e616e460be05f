-- `check_words::words::sealed_number` meets its contract: 54 bits and the ten of their check fit a word.
-- Assumes nothing.
use mathlib.Core.Path.{subst⁻¹}
use Prim.Native.Nat.{ℕ, ◌^◌, ◌<◌}
use native.Mathlib.Omega.{arith}
use lib.Dec.{lit<}
use Rattle.laws.specs.Bits.{bits_of}
use Rattle.pec.proofs.Remainder.{remainder-below}
use Rattle.check_words.proofs.words.sealed_number.Goals as goal

pub overflow_add-result : goal.overflow_add-result
overflow_add-result c =
    let below : c.of_message-check.result < 2 ^ 10 = subst⁻¹ (λ (n : ℕ). n < 2 ^ 10) c.of_message-check.ensures (remainder-below 10 (bits_of 54 _) (lit< tt) (lit< tt)) in
    omega arith
