-- `clocked::frames::reply_after` meets its contract, by how the release was judged.
-- Assumes nothing.
use mathlib.Core.Path.{sym, ap, ◌∙◌}
use Rattle.clocked.specs.Frames.{reply_of}
use Rattle.clocked.proofs.frames.reply_after.Goals as goal

pub returns-in-Ok : goal.returns-in-Ok
returns-in-Ok c = c.reply_size.ensures ∙ ap reply_of (sym c.in-Ok.is)
