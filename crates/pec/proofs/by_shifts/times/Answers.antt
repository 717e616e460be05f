-- `pec::by_shifts::times` meets its contract, as it stands.
-- Assumes nothing.
use mathlib.Core.Path.{refl}
use Rattle.laws.specs.Bits.{◌⊕◌}
use Rattle.pec.specs.ByShifts.{with_moved, times_one}
use Rattle.pec.proofs.by_shifts.times.Goals as goal

pub returns : goal.returns
unfolding times_one with_moved ◌⊕◌
returns c = refl
