-- `clocked::frames::clock_all` meets its contract: a byte a turn, and what came back is kept.
-- Assumes nothing.
use mathlib.Core.Path.{◌≡◌, refl, sym, ap, ap₂, ◌∙◌}
use mathlib.Core.List.{List}
use Prim.Native.Nat.{ℕ, ◌<◌}
use native.Mathlib.Omega.{arith}
use lib.ListN.{length, take, get_or, length-take}
use lib.Seq.{take_all}
use Rattle.clocking.specs.Clock.{clocked, answered}
use Rattle.clocking.specs.Bytes.{clock_of}
use Rattle.clocked.specs.Frames.{clocked_all, answered_all, kept_one, kept_back}
use Rattle.clocked.proofs.Run.{length-answered_all}
use Rattle.clocked.proofs.Clocking.{clock-at, back_at, clock_more, back_more, kept-none, kept-one, length-kept_back}
use Rattle.clocked.proofs.frames.clock_all.Goals as goal

pub loop-i-init : goal.loop-i-init
unfolding clocked_all answered_all
loop-i-init c = (refl, sym (kept-none _))

pub loop-i-preserved : goal.loop-i-preserved
loop-i-preserved c =
    let a = c.args in
    let l = c.loop-i in
    let more : l.i < length a.frame.now = omega arith in
    let clock = c.clock-byte.ensures in
    let first = clock_of a.state.now in
    let so_far = back_at a.table.now a.frame.now first l.i in
    let size : length so_far ≡ l.i = length-answered_all a.table.now (take l.i a.frame.now) first ∙ length-take l.i a.frame.now ∙ omega arith in (
      clock.state_after
          ∙ ap (clocked a.table.now (get_or a.frame.now l.i 0)) l.invariant.0
          ∙ sym (clock_more a.table.now a.frame.now first l.i more),
      c.keep.ensures
          ∙ ap₂ (kept_one l.i) (clock.value ∙ ap answered l.invariant.0) l.invariant.1
          ∙ kept-one so_far a.back.now (answered (clock-at a.table.now a.frame.now first l.i)) l.i size
          ∙ ap (λ (x : List ℕ). kept_back x a.back.now) (sym (back_more a.table.now a.frame.now first l.i more)),
    )

pub shape_of-back : goal.shape_of-back
shape_of-back c = ap length c.loop-i.invariant.1 ∙ length-kept_back _ _

pub returns : goal.returns
returns c =
    let a = c.args in
    let l = c.loop-i in
    let whole : take l.i a.frame.now ≡ a.frame.now = take_all l.i a.frame.now (omega arith) in
    record { state_after = l.invariant.0 ∙ ap (λ (x : List ℕ). clocked_all a.table.now x (clock_of a.state.now)) whole; back_after = l.invariant.1 ∙ ap (λ (x : List ℕ). kept_back (answered_all a.table.now x (clock_of a.state.now)) a.back.now) whole }
