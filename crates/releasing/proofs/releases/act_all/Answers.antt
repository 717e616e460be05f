-- `releasing::releases::act_all` meets its contract: a monitor a turn, from the front of the table.
-- Assumes nothing.
use mathlib.Core.Path.{◌≡◌, sym, ap, ◌∙◌}
use mathlib.Core.Bool.{Bool, cond}
use mathlib.Core.List.{List}
use Prim.Native.Nat.{ℕ, ◌+◌, ◌*◌, ◌≤◌, ◌<◌}
use native.Mathlib.Nat.{add-zero}
use native.Mathlib.Omega.{arith}
use lib.ListN.{length}
use Rattle.records.specs.Record.{record_size}
use Rattle.serving.proofs.EachActs.{acted-none, acted_more, acted-taken, acted-table}
use Rattle.clock_state.specs.State.{kind_in, seen_in, chained_in}
use Rattle.clocking.specs.Bytes.{clock_of}
use Rattle.clocking.proofs.Register.{length-windows}
use Rattle.releasing.proofs.releases.act_all.Invariants.{windowsOf}
use Rattle.releasing.proofs.releases.act_all.Goals as goal
use Rattle.releasing.proofs.releases.act_all.Goals.{then-serve_at, else-serve_at}

-- one for each monitor
as_many : (s : List ℕ) {n : ℕ} → n ≡ chained_in s → length (windowsOf s) ≡ n
unfolding clock_of
as_many s e = length-windows (kind_in s) (seen_in s) (chained_in s) _ ∙ sym e

pub loop-k-init : goal.loop-k-init
loop-k-init c =
    let a = c.args in
    acted-none a.command a.table.now (windowsOf a.state.now)

pub window_in-window-requires : goal.window_in-window-requires
window_in-window-requires c =
    let p = c.requires in
    (p.1, p.2, c.loop-k-test.true)

pub serve_at-requires : goal.serve_at-requires
serve_at-requires c = tt

pub loop-k-preserved : goal.loop-k-preserved
loop-k-preserved c =
    let a = c.args in
    let p = c.requires in
    let l = c.loop-k in
    let within : l.k < length (windowsOf a.state.now) = omega (arith, as_many a.state.now p.1) in
    let fits : l.k * record_size + record_size ≤ length a.table.now = omega (arith, p.0) in
    let one : c.if-serve_at.taken ≡ l.taken + cond c.serve_at.result 1 0 =
    elim c.if-serve_at.branch [
      | then-serve_at w ↦ w.taken-is ∙ ap (λ (b : Bool). l.taken + cond b 1 0) (sym w.if-serve_at.true)
      | else-serve_at w ↦ w.taken-is ∙ sym (add-zero l.taken) ∙ ap (λ (b : Bool). l.taken + cond b 1 0) (sym w.if-serve_at.false)
    ]
    in
    acted_more a.command a.table.now (windowsOf a.state.now) l.k within _ l.invariant fits
    c.window_in-window.ensures
    c.serve_at.ensures.value
    c.serve_at.ensures.table_after
    one

pub shape_of-table : goal.shape_of-table
shape_of-table c = c.loop-k.invariant.filling.size

pub returns : goal.returns
returns c =
    let a = c.args in
    let p = c.requires in
    let l = c.loop-k in
    let last : l.k ≡ a.n = omega arith in
    record { value = acted-taken a.command a.table.now (windowsOf a.state.now) a.n (as_many a.state.now p.1) last l.invariant; table_after = acted-table a.command a.table.now (windowsOf a.state.now) a.n (as_many a.state.now p.1) last l.invariant p.0 }
