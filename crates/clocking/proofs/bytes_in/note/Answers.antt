-- `clocking::bytes_in::note` meets its contract: what is stored, lent and comes back is what byte four leaves.
-- Assumes nothing.
use mathlib.Core.Path.{◌≡◌, ap, ◌∙◌}
use native.Mathlib.Omega.{arith}
use lib.ListN.{length}
use Rattle.clock_state.specs.State.{state_size, kind_byte, head_in}
use Rattle.clocking.specs.Clock.{chained_by}
use Rattle.clocking.proofs.Known.{chained_by-few}
use Rattle.clocking.proofs.Noting.{noted-by}
use borrow.Author.Rules.{rules}
use Rattle.clocking.proofs.bytes_in.note.Goals as goal

pub known_command-command-requires : goal.known_command-command-requires
unfolding chained_by
known_command-command-requires c = c.sound_count-count.ensures

pub overflow_cast-state : goal.overflow_cast-state
unfolding chained_by
overflow_cast-state c = omega (arith, c.sound_count-count.ensures, chained_by-few c.args.table.now)

pub returns : goal.returns
unfolding chained_by head_in
returns c =
    let s = c.args.state.now in
    let sized : length s ≡ state_size = search rules in
    noted-by c.args.table.now s _ _ sized c.known_command-command.ensures (c.byte_of.ensures ∙ ap kind_byte c.kind_of.ensures) c.sound_count-count.ensures c.reply_all.ensures.buffer_after
