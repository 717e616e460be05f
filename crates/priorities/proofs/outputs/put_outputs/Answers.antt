-- `priorities::outputs::put_outputs` meets its contract: a loop that puts one output a turn.
-- Assumes nothing.
use mathlib.Core.Path.{◌≡◌, refl, sym, ap, ◌∙◌, subst⁻¹}
use mathlib.Core.Bool.{Bool, true, false, cond}
use mathlib.Core.List.{List, ◌++◌}
use Prim.Native.Nat.{ℕ, ◌+◌, ◌≤◌}
use native.Mathlib.Omega.{arith}
use lib.Dec.{leb}
use lib.ListN.{length, drop}
use borrow.Author.Tests.{le-leb, lt-leb}
use Rattle.laws.proofs.Counts.{flag_counts, flag_at_most_one}
use Rattle.records.specs.Record.{cell_count}
use Rattle.priorities.specs.declared.outputs.Events.{Events}
use Rattle.priorities.specs.declared.outputs.Output.{Output}
use Rattle.priorities.specs.Table27.{output_of}
use Rattle.priorities.specs.Outputs.{outputs, count_on}
use Rattle.priorities.proofs.Deciding.{row_range}
use Rattle.priorities.proofs.Putting.{putting_start, putting_more, putting_end}
use Rattle.priorities.proofs.outputs.put_outputs.Goals as goal

-- what is left, by whether there is room for sixteen
by_room : (events : Events) (phase : ℕ) (r out : List ℕ) {m : ℕ} {after : List ℕ} (b : Bool) → leb cell_count (length out) ≡ b
    → m ≡ cond b (count_on events phase r) 0 → after ≡ cond b (outputs events phase r ++ drop cell_count out) out
    → (m ≡ cond (leb cell_count (length out)) (count_on events phase r) 0)
    × (after ≡ cond (leb cell_count (length out)) (outputs events phase r ++ drop cell_count out) out)
by_room events phase r out b e h k = (
  h ∙ sym (ap (λ (t : Bool). cond t (count_on events phase r) 0) e),
  k ∙ sym (ap (λ (t : Bool). cond t (outputs events phase r ++ drop cell_count out) out) e),
)

pub returns-then-out-lt-CELL_COUNT : goal.returns-then-out-lt-CELL_COUNT
returns-then-out-lt-CELL_COUNT c =
    let a = c.args in
    let told = by_room a.events a.phase a.rec.now a.out.now false (lt-leb _ _ c.if-out-lt-CELL_COUNT.true) refl refl in
    record { value = told.0; out_after = told.1 }

pub loop-i-init : goal.loop-i-init
loop-i-init c = putting_start _ _ _ _

pub shown-requires : goal.shown-requires
shown-requires c = subst⁻¹ (λ (o : Output). o.row ≤ 7) c.output_of-output.ensures (row_range _ _ _ _).1

pub overflow_add-on : goal.overflow_add-on
overflow_add-on c = omega (arith, c.loop-i.invariant.few, flag_at_most_one c.output_of-output.result.on, c.from-on.ensures)

pub loop-i-preserved : goal.loop-i-preserved
loop-i-preserved c =
    let l = c.loop-i in
    let on = c.output_of-output.result.on in
    let its : c.output_of-output.result ≡ output_of c.args.events c.args.phase c.args.rec.now (l.i + 1) =
    c.output_of-output.ensures ∙ ap (output_of c.args.events c.args.phase c.args.rec.now) c.after.ensures in
    putting_more _ _ _ _ l.invariant (omega arith) c.if-out-lt-CELL_COUNT.false its c.shown.ensures
    (ap (λ (n : ℕ). l.on + n) (c.from-on.ensures ∙ flag_counts on))
    (omega (arith, l.invariant.few, flag_at_most_one on, c.from-on.ensures))

pub returns : goal.returns
returns c =
    let done = putting_end _ _ _ _ c.loop-i.invariant c.loop-i-test.false in
    let a = c.args in
    let told = by_room a.events a.phase a.rec.now a.out.now true (le-leb _ _ c.if-out-lt-CELL_COUNT.false) done.0 done.1 in
    record { value = told.0; out_after = told.1 }
