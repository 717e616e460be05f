-- `oskorbine::answers::load_answer` meets its contract: the number is packed, with no values.
-- Assumes nothing.
use mathlib.Core.Path.{ap, ◌∙◌}
use Prim.Native.Nat.{ℕ}
use Rattle.packing.specs.Packed.{packed}
use Rattle.oskorbine.proofs.answers.load_answer.Goals as goal

pub returns : goal.returns
returns c =
    c.pack.ensures ∙ ap (λ (n : ℕ). packed (record { number = n; first = 0; second = 0 })) c.load_number.ensures
