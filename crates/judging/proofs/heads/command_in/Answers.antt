-- `judging::heads::command_in` meets its contract: the command of the frame's code.
-- Assumes nothing.
use mathlib.Core.Path.{ap, ◌∙◌}
use Prim.Native.Nat.{ℕ}
use Rattle.records.specs.Commands.{commands, command_of}
use Rattle.judging.specs.Refusals.{command_in}
use Rattle.judging.proofs.heads.command_in.Goals as goal

pub returns : goal.returns
unfolding command_in
returns c = c.command_of.ensures ∙ ap (λ (code : ℕ). command_of code commands) c.code_in.ensures
