-- `packing::packing::refused` meets its contract: what is packed is the refusal's number.
-- Assumes nothing.
use mathlib.Core.Path.{ap, ◌∙◌}
use Prim.Native.Nat.{ℕ}
use Rattle.packing.specs.Packed.{packed}
use Rattle.packing.proofs.packing.refused.Goals as goal

pub returns : goal.returns
returns c =
    c.pack.ensures ∙ ap (λ (n : ℕ). packed (record { number = n; first = 0; second = 0 })) c.number_of.ensures
