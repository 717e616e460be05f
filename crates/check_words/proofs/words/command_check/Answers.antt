-- `check_words::words::command_check` meets its contract: 15 bits and one more fit a word.
-- Assumes nothing.
use mathlib.Core.Path.{ap, ◌∙◌, subst⁻¹}
use Prim.Native.Nat.{ℕ, ◌*◌, ◌^◌, ◌<◌}
use native.Mathlib.Omega.{arith}
use lib.Dec.{lit<}
use Rattle.laws.specs.Bits.{bits_of}
use Rattle.pec.specs.Words.{two_bytes, command_check}
use Rattle.pec.proofs.Remainder.{remainder-below}
use Rattle.pec.proofs.Messages.{code-message}
use Rattle.check_words.proofs.words.command_check.Goals as goal

pub overflow_mul-check : goal.overflow_mul-check
overflow_mul-check c =
    let below : c.of_command-check.result < 2 ^ 15 = subst⁻¹ (λ (n : ℕ). n < 2 ^ 15) c.of_command-check.ensures (remainder-below 15 (bits_of 16 c.args.code) (lit< tt) (lit< tt)) in
    omega arith

pub returns : goal.returns
unfolding command_check
returns c =
    c.two_bytes.ensures ∙ ap (λ (n : ℕ). two_bytes (n * 2)) (c.of_command-check.ensures ∙ code-message _ c.ranges.code.fits)
