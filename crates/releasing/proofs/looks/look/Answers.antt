-- `releasing::looks::look` meets its contract: each test is the condition of a refusal, and a window that fits is laid at the start.
-- Assumes nothing.
use mathlib.Core.Path.{sym, ap, ◌∙◌, subst}
use mathlib.Core.List.{List}
use Prim.Native.Nat.{ℕ, ◌≤◌, ◌<◌}
use native.Mathlib.Omega.{arith}
use lib.ListN.{length}
use Rattle.laying.proofs.Placed.{tried, laid, placed_first}
use Rattle.releasing.specs.Look.{window_of, looked, out_after}
use Rattle.clocking.specs.Bytes.{clock_of}
use Rattle.releasing.proofs.LookJudging.{stop_low, stop_high, stop_room, passed}
use Rattle.releasing.proofs.looks.look.Goals as goal
use Rattle.std.specs.Prelude.{Ok, Err}

pub returns-then-position-lt1 : goal.returns-then-position-lt1
unfolding looked out_after
returns-then-position-lt1 c =
    let a = c.args in
    let v = clock_of a.state.now in
    let out = a.out.now in
    record { value = sym (stop_low v a.position (length out) Err _ c.if-position-lt1.true); out_after = sym (stop_low v a.position (length out) (λ r. out) _ c.if-position-lt1.true) }

pub returns-then-n-position : goal.returns-then-n-position
unfolding looked out_after clock_of
returns-then-n-position c =
    let a = c.args in
    let v = clock_of a.state.now in
    let out = a.out.now in
    let chained = c.chained_in-n.ensures.value in
    let low = c.if-position-lt1.false in
    let far : v.chained < a.position = subst (λ (n : ℕ). n < a.position) chained c.if-n-position.true in
    record { value = sym (stop_high v a.position (length out) Err _ low far); out_after = sym (stop_high v a.position (length out) (λ r. out) _ low far) }

pub returns-then-out-window : goal.returns-then-out-window
unfolding looked out_after clock_of window_of
returns-then-out-window c =
    let a = c.args in
    let v = clock_of a.state.now in
    let out = a.out.now in
    let chained = c.chained_in-n.ensures.value in
    let low = c.if-position-lt1.false in
    let high : a.position ≤ v.chained = subst (λ (n : ℕ). a.position ≤ n) chained c.if-n-position.false in
    let window = c.window_in-window.ensures in
    let small : length out < length (window_of v a.position) = subst (λ (w : List ℕ). length out < length w) window c.if-out-window.true in
    record { value = sym (stop_room v a.position (length out) Err _ low high small); out_after = sym (stop_room v a.position (length out) (λ r. out) _ low high small) }

pub returns : goal.returns
unfolding looked out_after clock_of window_of
returns c =
    let a = c.args in
    let v = clock_of a.state.now in
    let out = a.out.now in
    let chained = c.chained_in-n.ensures.value in
    let low = c.if-position-lt1.false in
    let high : a.position ≤ v.chained = subst (λ (n : ℕ). a.position ≤ n) chained c.if-n-position.false in
    let window = c.window_in-window.ensures in
    let enough : length (window_of v a.position) ≤ length out = subst (λ (w : List ℕ). length w ≤ length out) window c.if-out-window.false in
    record {
      value = ap (λ (w : List ℕ). Ok (length w)) window ∙ sym (passed v a.position (length out) Err _ low high enough);
      out_after = c.put.ensures
          ∙ ap (λ (w : List ℕ). tried 0 w out) window
          ∙ laid 0 (window_of v a.position) out (omega arith)
          ∙ placed_first (window_of v a.position) out
          ∙ sym (passed v a.position (length out) (λ r. out) _ low high enough);
    }
