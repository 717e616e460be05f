-- `passing::hops::pass_on` meets its contract: what is left of the way, from what is at hand, comes to what the whole way comes to.
-- Assumes nothing.
use mathlib.Core.Path.{◌≡◌, sym, ap, ◌∙◌, subst}
use mathlib.Core.List.{List}
use Prim.Native.Nat.{ℕ, ◌≤◌, ◌<◌}
use native.Mathlib.Omega.{arith}
use Rattle.std.specs.Prelude.{None}
use Rattle.passing.specs.Hops.{bytes_sent}
use Rattle.passing.proofs.Laps.{first_lap, few-hops, last_lap, reachable, still_whole, stopped, next_lap}
use Rattle.passing.proofs.hops.pass_on.Goals as goal

pub loop-i-init : goal.loop-i-init
loop-i-init c = first_lap _ _ _ _ _ _ c.requires.2

pub behind-requires : goal.behind-requires
behind-requires c =
    let a = c.args in
    let few = few-hops a.road.to_a a.road.n a.road.k a.first.count a.first.flags a.table.now c.requires.0 in
    let last = c.hops-last.ensures in
    (omega arith, omega arith)

pub reach_at-requires : goal.reach_at-requires
reach_at-requires c =
    let l = c.loop-i in
    let more = subst (λ (x : ℕ). l.i < x) c.hops-last.ensures c.loop-i-test.true in
    reachable _ _ _ _ _ _ l.invariant c.requires.0 more c.behind.ensures

pub shape_of-table-in_err-beat : goal.shape_of-table-in_err-beat
shape_of-table-in_err-beat c =
    let l = c.loop-i in
    let more = subst (λ (x : ℕ). l.i < x) c.hops-last.ensures c.loop-i-test.true in
    let came = c.reach_at.ensures in
    still_whole _ _ _ _ _ _ l.invariant c.requires.0 more c.behind.ensures c.message-own.ensures came.value came.table_after ∙ sym c.requires.2

pub returns-in_err-beat : goal.returns-in_err-beat
returns-in_err-beat c =
    let l = c.loop-i in
    let more = subst (λ (x : ℕ). l.i < x) c.hops-last.ensures c.loop-i-test.true in
    let came = c.reach_at.ensures in
    let told = stopped _ _ _ _ _ _ l.invariant c.requires.0 more c.behind.ensures c.message-own.ensures came.value came.table_after c.in_err-beat.was in
    record { result_value = ap bytes_sent c.from_residual.ensures ∙ told.0; table_after = told.1 }

pub loop-i-preserved : goal.loop-i-preserved
loop-i-preserved c =
    let l = c.loop-i in
    let more = subst (λ (x : ℕ). l.i < x) c.hops-last.ensures c.loop-i-test.true in
    let came = c.reach_at.ensures in
    next_lap _ _ _ _ _ _ l.invariant c.requires.0 more c.behind.ensures c.message-own.ensures came.value came.table_after c.in_ok-beat.was

pub shape_of-table : goal.shape_of-table
shape_of-table c = c.loop-i.invariant.whole ∙ sym c.requires.2

pub returns : goal.returns
returns c =
    let none = subst (λ (x : ℕ). x ≤ c.loop-i.i) c.hops-last.ensures c.loop-i-test.false in
    let told = last_lap _ _ _ _ _ _ c.loop-i.invariant none in
    record { result_value = told.0; table_after = told.1 }
