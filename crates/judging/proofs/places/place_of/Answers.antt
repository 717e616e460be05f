-- `judging::places::place_of` meets its contract: each test is the condition of a refusal, in their order.
-- Assumes nothing.
use mathlib.Core.Path.{sym, ◌∙◌, subst}
use Prim.Native.Nat.{ℕ, ◌≤◌, ◌<◌}
use Rattle.judging.proofs.Judging.{not_none, none, count_is}
use Rattle.judging.proofs.Place.{stop_1, pass_1, stop_2_low, stop_2_high, pass_2}
use Rattle.judging.proofs.places.place_of.Goals as goal

pub returns-then-n-eq0 : goal.returns-then-n-eq0
returns-then-n-eq0 c =
    let a = c.args in
    sym (stop_1 a.table.now a.position (none a.table.now c.sound_count-n.ensures c.if-n-eq0.true))

pub returns-then-position-lt1 : goal.returns-then-position-lt1
returns-then-position-lt1 c =
    let a = c.args in
    sym (pass_1 a.table.now a.position (not_none a.table.now c.sound_count-n.ensures c.if-n-eq0.false) ∙ stop_2_low a.table.now a.position c.if-position-lt1.true)

pub returns-then-n-position : goal.returns-then-n-position
returns-then-n-position c =
    let a = c.args in
    let s = not_none a.table.now c.sound_count-n.ensures c.if-n-eq0.false in
    let high = subst (λ (n : ℕ). n < a.position) (count_is a.table.now c.sound_count-n.ensures s) c.if-n-position.true in
    sym (pass_1 a.table.now a.position s ∙ stop_2_high a.table.now a.position high)

pub returns : goal.returns
returns c =
    let a = c.args in
    let s = not_none a.table.now c.sound_count-n.ensures c.if-n-eq0.false in
    let last = subst (λ (n : ℕ). a.position ≤ n) (count_is a.table.now c.sound_count-n.ensures s) c.if-n-position.false in
    sym (pass_1 a.table.now a.position s ∙ pass_2 a.table.now a.position c.if-position-lt1.false last)
