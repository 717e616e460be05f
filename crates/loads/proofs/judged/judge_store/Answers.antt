-- `loads::judged::judge_store` meets its contract: a compare's refusals come first, and after them each test is the condition of a refusal.
-- Assumes nothing.
use mathlib.Core.Path.{sym, ◌∙◌}
use Rattle.refusals.proofs.PassedOn.{passed_on}
use Rattle.loads.proofs.Judging.{refused-before, goes_on, stop_3, pass_3, stop_4, pass_4}
use Rattle.loads.proofs.judged.judge_store.Goals as goal

pub returns-then-codes-ne-CELL_COUNT : goal.returns-then-codes-ne-CELL_COUNT
returns-then-codes-ne-CELL_COUNT c =
    let a = c.args in
    let placed = sym c.in_ok-judge_compare.ensures in
    sym (goes_on a.codes.now a.table.now a.position placed ∙ stop_3 a.codes.now c.if-codes-ne-CELL_COUNT.true)

pub returns-then-any_cleared : goal.returns-then-any_cleared
returns-then-any_cleared c =
    let a = c.args in
    let placed = sym c.in_ok-judge_compare.ensures in
    sym (goes_on a.codes.now a.table.now a.position placed ∙ pass_3 a.codes.now c.if-codes-ne-CELL_COUNT.false ∙ stop_4 a.codes.now (sym c.any_cleared.ensures ∙ c.if-any_cleared.true))

pub returns-in_err-judge_compare : goal.returns-in_err-judge_compare
returns-in_err-judge_compare c =
    let a = c.args in
    passed_on c.from_residual.ensures.1 ∙ sym (refused-before a.codes.now a.table.now a.position (sym c.in_err-judge_compare.ensures))

pub returns : goal.returns
returns c =
    let a = c.args in
    let placed = sym c.in_ok-judge_compare.ensures in
    sym (goes_on a.codes.now a.table.now a.position placed ∙ pass_3 a.codes.now c.if-codes-ne-CELL_COUNT.false ∙ pass_4 a.codes.now (sym c.any_cleared.ensures ∙ c.if-any_cleared.false))
