-- `clock_state::state::start` meets its contract.
-- Assumes nothing.
use mathlib.Core.Path.{refl}
use Rattle.clock_state.specs.State.{idle}
use Rattle.clock_state.proofs.state.start.Goals as goal

pub returns : goal.returns
unfolding idle
returns c = refl
