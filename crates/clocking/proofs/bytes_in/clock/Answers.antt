-- `clocking::bytes_in::clock` meets its contract: the byte is taken in and counted, and the bytes of the state stand for the clock.
-- Assumes nothing.
use mathlib.Core.Path.{◌≡◌, ap, ◌∙◌}
use lib.ListN.{length}
use Rattle.clock_state.specs.State.{state_size}
use Rattle.clocking.specs.Bytes.{clock_of, counted, state_after}
use Rattle.clocking.proofs.View.{view}
use borrow.Author.Rules.{rules}
use Rattle.clocking.proofs.bytes_in.clock.Goals as goal

pub returns : goal.returns
unfolding state_after
returns c =
    let a = c.args in
    let s = a.state.now in
    let sized : length s ≡ state_size = search rules in
    let took = c.take_in-back.ensures in
    let bytes : c.count.new.state ≡ state_after a.table.now a.byte s = c.count.ensures ∙ ap counted took.state_after in
    record { value = took.value; state_after = ap clock_of bytes ∙ view a.table.now a.byte s sized; state_after_2 = bytes }
