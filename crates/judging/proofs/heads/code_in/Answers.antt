-- `judging::heads::code_in` meets its contract: two bytes make a word.
-- Assumes nothing.
use mathlib.Core.Path.{ap₂}
use Prim.Native.Nat.{ℕ, ◌+◌, ◌*◌}
use Rattle.pec.specs.Words.{word_at}
use Rattle.judging.proofs.heads.code_in.Goals as goal

pub returns : goal.returns
unfolding word_at
returns c = ap₂ (λ (high low : ℕ). high * 256 + low) c.byte_at-high.ensures c.byte_at-low.ensures
