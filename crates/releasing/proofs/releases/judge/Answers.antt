-- `releasing::releases::judge` meets its contract: the table's count, and then the first four bytes.
-- Assumes nothing.
use mathlib.Core.Path.{◌≡◌, sym, ap, ◌∙◌}
use mathlib.Core.List.{List}
use Prim.Native.Nat.{ℕ}
use native.Mathlib.Omega.{arith}
use lib.ListN.{length, drop, length-drop}
use lib.Seq.{length-take-le}
use Rattle.judging.specs.Heads.{head_judged}
use Rattle.clock_state.specs.State.{head_at, state_size, head_in}
use Rattle.clocking.specs.Bytes.{clock_of}
use Rattle.releasing.proofs.ReleaseJudging.{stop_another, to_head}
use borrow.Author.Rules.{rules}
use Rattle.releasing.proofs.releases.judge.Goals as goal

-- the head of a state has four bytes
four : (s : List ℕ) → length s ≡ state_size → length (clock_of s).head ≡ 4
unfolding clock_of head_in
four s sized = length-take-le 4 (drop head_at s) (omega (arith, length-drop head_at s))

pub returns-then-another_count : goal.returns-then-another_count
returns-then-another_count c =
    let a = c.args in
    let s = a.state.now in
    let another = sym c.another_count.ensures ∙ c.if-another_count.true in
    sym (stop_another (clock_of s) a.table.now (four s (search rules)) c.sound_count-n.ensures another)

pub returns : goal.returns
unfolding clock_of head_in
returns c =
    let a = c.args in
    let s = a.state.now in
    let counted = c.sound_count-n.ensures in
    let same = sym c.another_count.ensures ∙ c.if-another_count.false in
    c.judge_head.ensures
    ∙ ap (λ (x : ℕ). head_judged (head_in s) x c.sound_count-n.result) c.seen_in.ensures.value
    ∙ sym (to_head (clock_of s) a.table.now (four s (search rules)) counted same)
