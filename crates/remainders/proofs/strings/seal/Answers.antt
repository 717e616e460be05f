-- `remainders::strings::seal` meets its contract: six counter bits and ten of the check fit a word.
-- Assumes nothing.
use mathlib.Core.Path.{ap₂, ◌∙◌, subst⁻¹}
use Prim.Native.Nat.{ℕ, ◌+◌, ◌*◌, ◌^◌, ◌<◌}
use native.Mathlib.Omega.{arith}
use Rattle.pec.specs.Words.{two_bytes, seal}
use Rattle.pec.proofs.CheckWords.{data_pec-below}
use Rattle.remainders.proofs.strings.seal.Goals as goal

pub overflow_add-from : goal.overflow_add-from
overflow_add-from c =
    let below : c.data_pec-check.result < 2 ^ 10 = subst⁻¹ (λ (n : ℕ). n < 2 ^ 10) c.data_pec-check.ensures (data_pec-below _ _) in
    omega arith

pub returns : goal.returns
unfolding seal
returns c = c.two_bytes.ensures ∙ ap₂ (λ (x y : ℕ). two_bytes (x * 1024 + y)) c.from.ensures c.data_pec-check.ensures
