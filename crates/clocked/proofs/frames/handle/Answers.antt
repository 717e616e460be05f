-- `clocked::frames::handle` meets its contract: the frame is clocked in and settled, and that is what the rules say of the whole frame.
-- Assumes nothing.
use mathlib.Core.Path.{ap, ap₂, ◌∙◌}
use mathlib.Core.List.{List}
use Prim.Native.Nat.{ℕ, ◌*◌}
use lib.ListN.{length, replicate}
use Rattle.records.specs.Commands.{most_monitors, payload_size}
use Rattle.clocking.specs.Clock.{Clock}
use Rattle.clock_state.specs.State.{idle}
use Rattle.clocked.specs.Frames.{clocked_all, answered_all, kept_back, settled, table_settled, buffer_settled}
use Rattle.clocking.proofs.View.{view_idle}
use Rattle.clocked.proofs.Whole.{judged-whole, table-whole, buffer_whole}
use Rattle.clocked.proofs.frames.handle.Goals as goal

pub returns : goal.returns
unfolding idle
returns c =
    let a = c.args in
    let t = a.table.now in
    let f = a.frame.now in
    let room = length a.buffer.now in
    let all = c.clock_all.ensures in
    let clock = all.state_after ∙ ap (clocked_all t f) view_idle in
    let back = all.back_after ∙ ap (λ (x : Clock). kept_back (answered_all t f x) (replicate (payload_size * most_monitors) 0)) view_idle in
    let settle = c.settle.ensures in
    record { value = settle.value ∙ ap (λ (x : Clock). settled x t room) clock ∙ judged-whole t f room; table_after = settle.table_after ∙ ap (λ (x : Clock). table_settled x t room) clock ∙ table-whole t f room; buffer_after = settle.buffer_after ∙ ap₂ (λ (x : Clock) (y : List ℕ). buffer_settled x t y a.buffer.now) clock back ∙ buffer_whole t f a.buffer.now }
