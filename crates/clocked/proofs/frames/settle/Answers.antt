-- `clocked::frames::settle` meets its contract: the release is judged, then the room, and what is then left is what was settled.
-- Assumes nothing.
use mathlib.Core.Path.{◌≡◌, sym, ap, ◌∙◌}
use mathlib.Core.List.{◌++◌}
use Prim.Native.Nat.{ℕ, ◌≤◌}
use native.Mathlib.Omega.{arith}
use lib.ListN.{length, take, drop}
use lib.Seq.{length-take-le}
use Rattle.laying.proofs.Placed.{laid, placed_first}
use Rattle.clocked.specs.Frames.{reply_of}
use Rattle.clocking.specs.Bytes.{clock_of}
use Rattle.clocked.proofs.Settling.{reply-fits, settled_room, settled-none}
use Rattle.clocked.proofs.frames.settle.Goals as goal

pub returns-then-buffer-size : goal.returns-then-buffer-size
returns-then-buffer-size c =
    let a = c.args in
    let its = c.reply_after-size.ensures ∙ ap reply_of c.judge.ensures in
    let s = settled_room (clock_of a.state.now) a.table.now a.back.now a.buffer.now its c.if-buffer-size.true in
    record { value = s.the_answer; table_after = s.the_table; buffer_after = s.the_buffer }

pub slice_bounds-put-end : goal.slice_bounds-put-end
slice_bounds-put-end c =
    let a = c.args in
    let size = c.reply_after-size in
    sym (length-take-le size.result a.back.now (omega (arith, size.ensures, reply-fits c.judge.result)))

pub returns : goal.returns
returns c =
    let a = c.args in
    let size = c.reply_after-size in
    let judge = c.judge in
    let its = size.ensures ∙ ap reply_of judge.ensures in
    let room : size.result ≤ length a.buffer.now = c.if-buffer-size.false in
    let within : size.result ≤ length a.back.now = omega (arith, size.ensures, reply-fits judge.result) in
    let part : length (take size.result a.back.now) ≡ size.result = length-take-le size.result a.back.now within in
    let left =
    c.put.ensures
    ∙ laid 0 (take size.result a.back.now) a.buffer.now (omega arith)
    ∙ placed_first (take size.result a.back.now) a.buffer.now
    ∙ ap (λ (k : ℕ). take size.result a.back.now ++ drop k a.buffer.now) part in
    let released = c.release.ensures in
    let s = settled-none (clock_of a.state.now) a.table.now a.back.now a.buffer.now its room released.value released.table_after left in
    record { value = s.the_answer; table_after = s.the_table; buffer_after = s.the_buffer }
