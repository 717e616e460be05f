-- `host::frames::put_head` meets its contract: the code's two bytes, and its check behind them.
-- Assumes nothing.
use mathlib.Core.Path.{refl, ap, ap₂, ◌∙◌}
use Rattle.laying.proofs.Placed.{tried, laid_behind}
use Rattle.pec.specs.Words.{two_bytes, command_check}
use Rattle.host.proofs.frames.put_head.Goals as goal

pub returns : goal.returns
unfolding two_bytes command_check
returns c =
    let first = c in
    let start = first in
    let code = start.args.code in
    let buffer = start.args.buffer.now in
    c.put-2.ensures
    ∙ ap₂ (tried 2) c.command_check-check.ensures
    (first.put.ensures ∙ ap (λ l. tried 0 l buffer) first.two_bytes-command.ensures)
    ∙ laid_behind 0 2 (two_bytes code) (command_check code) buffer refl start.requires
