-- `clocking::bytes_in::move_on` meets its contract, by what the later bytes of the frame do.
-- Assumes nothing.
use mathlib.Core.Path.{◌≡◌, sym, ap, ◌∙◌}
use Rattle.clock_state.specs.declared.state.Kind.{Kind}
use Rattle.clock_state.specs.declared.state.Kind.TheVariants.{Drains, Still}
use Rattle.clock_state.specs.State.{kind_in}
use Rattle.clock_state.proofs.Widths.{wide_fills}
use Rattle.clocking.specs.Bytes.{moved_on}
use Rattle.clocking.proofs.Leaving.{fills_leaves, drains_leaves, still_leaves}
use Rattle.clocking.proofs.bytes_in.move_on.Goals as goal

pub shift_windows-requires : goal.shift_windows-requires
shift_windows-requires c =
    let s = c.args.state.now in
    let kind = sym c.in-Fills.ensures in
    (wide_fills s kind).most

pub returns-in-Fills : goal.returns-in-Fills
unfolding moved_on
returns-in-Fills c =
    let a = c.args in
    let s = a.state.now in
    let kind = sym c.in-Fills.ensures in
    record { value = fills_leaves s kind; state_after = c.shift_windows.ensures.state_after ∙ ap (λ (k : Kind). moved_on k a.byte s) (sym kind) }

pub returns-in-Drains : goal.returns-in-Drains
unfolding moved_on
returns-in-Drains c =
    let a = c.args in
    let s = a.state.now in
    let kind : kind_in s ≡ Drains = sym c.in-Drains.ensures in
    record { value = drains_leaves s kind c.shift_windows-in-Drains.ensures.value; state_after = c.shift_windows-in-Drains.ensures.state_after ∙ ap (λ (k : Kind). moved_on k a.byte s) (sym kind) }

pub returns-in-Still : goal.returns-in-Still
unfolding moved_on
returns-in-Still c =
    let a = c.args in
    let s = a.state.now in
    let kind : kind_in s ≡ Still = sym c.in-Still.ensures in
    record { value = still_leaves s kind; state_after = ap (λ (k : Kind). moved_on k a.byte s) (sym kind) }
