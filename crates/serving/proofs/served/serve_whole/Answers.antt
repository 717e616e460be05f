-- `serving::served::serve_whole` meets its contract: a monitor a turn, from the front of the table.
-- Assumes nothing.
use mathlib.Core.Path.{◌≡◌, sym, ap, ◌∙◌}
use mathlib.Core.Bool.{Bool, cond}
use mathlib.Core.List.{[]}
use Prim.Native.Nat.{ℕ, suc, ◌+◌, ◌-◌, ◌*◌, ◌≤◌, ◌<◌}
use native.Mathlib.Nat.{add-zero}
use native.Mathlib.Omega.{arith}
use lib.ListN.{length}
use Rattle.laws.specs.Rows.{row_at}
use Rattle.records.specs.Record.{record_size}
use Rattle.records.specs.Commands.{width_of}
use Rattle.wire.specs.Order.{write_payloads}
use Rattle.wire.proofs.Order.{length-write_payloads, write_at}
use Rattle.serving.proofs.EachActs.{acted-none, acted_more, acted-taken, acted-table}
use Rattle.serving.proofs.served.serve_whole.Goals as goal
use Rattle.serving.proofs.served.serve_whole.Goals.{then-act_at, else-act_at}

pub loop-k-init : goal.loop-k-init
loop-k-init c =
    let a = c.args in
    acted-none a.command a.table.now (write_payloads (width_of a.command) a.n a.payloads.now)

pub payload_in-own-requires : goal.payload_in-own-requires
payload_in-own-requires c = (omega arith, omega arith, c.width_of-width.ensures.upper_bound)

pub act_at-requires : goal.act_at-requires
act_at-requires c = tt

pub loop-k-preserved : goal.loop-k-preserved
loop-k-preserved c =
    let l = c.loop-k in
    let s = c in
    let a = s.args in
    let owns = write_payloads (width_of a.command) a.n a.payloads.now in
    let more = c.loop-k-test.true in
    let within : l.k < length owns = omega (arith, length-write_payloads (width_of a.command) a.n a.payloads.now) in
    let fits : l.k * record_size + record_size ≤ length a.table.now = omega (arith, s.requires.0) in
    let one : c.if-act_at.taken ≡ l.taken + cond c.act_at.result 1 0 =
    elim c.if-act_at.branch [
      | then-act_at w ↦ w.taken-is ∙ ap (λ (b : Bool). l.taken + cond b 1 0) (sym w.if-act_at.true)
      | else-act_at w ↦ w.taken-is ∙ sym (add-zero l.taken) ∙ ap (λ (b : Bool). l.taken + cond b 1 0) (sym w.if-act_at.false)
    ]
    in
    acted_more a.command a.table.now owns l.k within _ l.invariant fits
    (c.payload_in-own.ensures
    ∙ ap (λ (w : ℕ). row_at w (a.n - suc l.k) a.payloads.now) s.width_of-width.ensures.value
    ∙ sym (write_at (width_of a.command) a.n a.payloads.now l.k [] more))
    c.act_at.ensures.value
    c.act_at.ensures.table_after
    one

pub shape_of-table : goal.shape_of-table
shape_of-table c = c.loop-k.invariant.filling.size

pub returns : goal.returns
returns c =
    let s = c in
    let a = s.args in
    let l = c.loop-k in
    let owns = write_payloads (width_of a.command) a.n a.payloads.now in
    let as_many = length-write_payloads (width_of a.command) a.n a.payloads.now in
    let last : l.k ≡ a.n = omega arith in
    record { value = acted-taken a.command a.table.now owns a.n as_many last l.invariant; table_after = acted-table a.command a.table.now owns a.n as_many last l.invariant s.requires.0 }
