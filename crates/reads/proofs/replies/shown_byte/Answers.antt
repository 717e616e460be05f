-- `reads::replies::shown_byte` meets its contract, by its tests.
-- Assumes nothing.
use mathlib.Core.Path.{◌≡◌, sym, ap, ◌∙◌}
use Prim.Native.Nat.{ℕ, ◌+◌}
use native.Mathlib.Omega.{arith}
use borrow.Author.Tests.{ltb-false}
use lib.ListN.{get_or}
use Rattle.reads.proofs.Showing.{shows, shows_past, past_part, past_slice}
use Rattle.reads.proofs.replies.shown_byte.Goals as goal

pub returns-in-Some : goal.returns-in-Some
returns-in-Some c =
    let a = c.args in
    let found = c.in-Some.ensures.lookup.3 in
    let place : c.from-then-i-from.result + a.i ≡ a.part.at + a.i = omega (arith, c.from-then-i-from.ensures) in
    found.1 0 ∙ ap (λ (k : ℕ). get_or a.rec.now k 0) place
    ∙ shows a.part a.rec.now a.i (omega (arith, c.from.ensures)) (omega (arith, found.0, place))

pub returns-in_default : goal.returns-in_default
returns-in_default c =
    let a = c.args in
    let past = ltb-false _ _ (sym c.in_default.ensures.lookup.0) in
    shows_past a.part a.rec.now a.i (past_slice a.part a.rec.now a.i (omega (arith, past, c.from-then-i-from.ensures)))

pub returns-else-i-from : goal.returns-else-i-from
returns-else-i-from c =
    let a = c.args in
    shows_past a.part a.rec.now a.i (past_part a.part a.rec.now a.i (omega (arith, c.from.ensures)))
