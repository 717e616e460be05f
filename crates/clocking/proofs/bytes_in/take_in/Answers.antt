-- `clocking::bytes_in::take_in` meets its contract, by the byte's place in the frame.
-- Assumes nothing.
use mathlib.Core.Path.{◌≡◌, sym, ap, ◌∙◌}
use Prim.Native.Nat.{ℕ, ◌+◌, ◌<◌, ◌≤◌}
use native.Mathlib.Omega.{arith}
use lib.ListN.{set}
use Rattle.clock_state.specs.State.{head_at, seen_in}
use Rattle.clocking.specs.Bytes.{headed, noted}
use Rattle.clocking.proofs.View.{taken-early, taken-fourth, taken-later}
use Rattle.clocking.proofs.Leaving.{answered-early, answered-later}
use Rattle.clocking.proofs.bytes_in.take_in.Goals as goal

pub returns-then-seen-eq3 : goal.returns-then-seen-eq3
unfolding headed
returns-then-seen-eq3 c =
    let a = c.args in
    let s = a.state.now in
    let its = c.seen_in-seen.ensures.value in
    let third : seen_in s ≡ 3 = sym its ∙ c.if-seen-eq3.true in
    record { value = answered-early s (omega arith); state_after = c.note.ensures ∙ ap (λ (k : ℕ). noted a.table.now (set s (head_at + k) a.byte)) its ∙ sym (taken-fourth a.table.now a.byte s third) }

pub returns-else-seen-eq3 : goal.returns-else-seen-eq3
unfolding headed
returns-else-seen-eq3 c =
    let a = c.args in
    let s = a.state.now in
    let its = c.seen_in-seen.ensures.value in
    let early : seen_in s < 3 = omega (arith, c.if-seen-lt4.true, c.if-seen-eq3.false) in
    record { value = answered-early s (omega arith); state_after = ap (λ (k : ℕ). set s (head_at + k) a.byte) its ∙ sym (taken-early a.table.now a.byte s early) }

pub returns : goal.returns
returns c =
    let a = c.args in
    let s = a.state.now in
    let its = c.seen_in-seen.ensures.value in
    let late : 4 ≤ seen_in s = omega (arith, c.if-seen-lt4.false) in
    record { value = c.move_on.ensures.value ∙ answered-later s late; state_after = c.move_on.ensures.state_after ∙ sym (taken-later a.table.now a.byte s late) }
