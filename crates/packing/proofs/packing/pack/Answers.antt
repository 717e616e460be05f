-- `packing::packing::pack` meets its contract: the sum is the definition's, and three numbers of 8, 8 and 16 bits fit it.
-- Assumes nothing.
use mathlib.Core.Path.{refl}
use Rattle.packing.specs.Packed.{packed}
use Rattle.packing.proofs.packing.pack.Goals as goal

pub returns : goal.returns
unfolding packed
returns c = refl
