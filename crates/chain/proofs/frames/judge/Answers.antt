-- `chain::frames::judge` meets its contract: refusals 1 to 5 by the frame's head and the table's count, and then the room.
-- Assumes nothing.
use mathlib.Core.Path.{◌≡◌, sym, ap, ◌∙◌, subst, subst⁻¹}
use Prim.Native.Nat.{ℕ, ◌*◌, ◌≤◌, ◌<◌}
use native.Mathlib.Omega.{arith}
use lib.ListN.{length}
use Rattle.refusals.proofs.PassedOn.{passed_on}
use Rattle.records.specs.Record.{record_size}
use Rattle.judging.proofs.Judging.{counts_whole, head-good, within_most}
use Rattle.std.specs.Prelude.{Result}
use Rattle.refusals.specs.declared.Refusal.{Refusal}
use Rattle.judging.specs.declared.heads.Judged.{Judged}
use Rattle.chain.specs.Judged.{ReadyIf}
use Rattle.chain.proofs.Room.{stop_head, stop_room, pass_room}
use Rattle.chain.proofs.frames.judge.Goals as goal

pub returns-then-room-reply_size : goal.returns-then-room-reply_size
returns-then-room-reply_size c =
    let a = c.args in
    let t = a.table.now in
    let f = a.frame.now in
    let counted = c.sound_count.ensures in
    let e = sym c.in_ok-judged.ensures in
    let head = head-good f (length f) c.sound_count.result e in
    let size = within_most _ _ head.few c.reply_size.ensures in
    record { value = sym (stop_room t f a.room counted e (subst (λ (x : ℕ). a.room < x) size c.if-room-reply_size.true)); ready_if = tt }

pub returns-in_err-judged : goal.returns-in_err-judged
returns-in_err-judged c =
    let a = c.args in
    let t = a.table.now in
    let f = a.frame.now in
    record { value = passed_on c.from_residual.ensures.1 ∙ sym (stop_head t f a.room c.sound_count.ensures (sym c.in_err-judged.ensures)); ready_if = subst⁻¹ (λ (j : Result Judged Refusal). ReadyIf j t f a.room) (passed_on c.from_residual.ensures.1) tt }

pub returns : goal.returns
returns c =
    let a = c.args in
    let t = a.table.now in
    let f = a.frame.now in
    let counted = c.sound_count.ensures in
    let e = sym c.in_ok-judged.ensures in
    let head = head-good f (length f) c.sound_count.result e in
    let size = within_most _ _ head.few c.reply_size.ensures in
    let enough = subst (λ (x : ℕ). x ≤ a.room) size c.if-room-reply_size.false in
    let not_none : c.sound_count.result ≡ 0 → ⊥ = λ z. omega (arith, head.some, head.same, z) in
    record {
      value = sym (pass_room t f a.room counted e enough);
      ready_if = record {
        whole = counts_whole t counted not_none ∙ ap (λ (x : ℕ). x * record_size) (sym head.same);
        some = head.some;
        few = head.few;
        long = head.long;
        enough = enough;
      };
    }
