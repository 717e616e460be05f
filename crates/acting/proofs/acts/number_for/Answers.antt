-- `acting::acts::number_for` meets its contract, by how many data bytes the write has.
-- Assumes nothing.
use mathlib.Core.Path.{◌≡◌, sym, ap, ◌∙◌}
use mathlib.Core.List.{List}
use mathlib.Core.Logic.{⊎_elim}
use Prim.Native.Nat.{ℕ}
use Rattle.pec.specs.Words.{sealed_right, payload_right}
use Rattle.records.specs.declared.commands.Write.{Write}
use Rattle.records.specs.Commands.{data_size}
use Rattle.records.proofs.Widths.{six_or_two}
use Rattle.acting.proofs.acts.number_for.Goals as goal

-- six data bytes, by the size that the code read; or else two
of-six : (what : Write) (own : List ℕ) {n : ℕ} → n ≡ data_size what → n ≡ 6 → payload_right own ≡ sealed_right (data_size what) own
unfolding payload_right
of-six what own e h = ap (λ (d : ℕ). sealed_right d own) (sym h ∙ e)

of_two : (what : Write) (own : List ℕ) {n : ℕ} → n ≡ data_size what → (n ≡ 6 → ⊥) → sealed_right 2 own ≡ sealed_right (data_size what) own
of_two what own e h = ap (λ (d : ℕ). sealed_right d own) (sym (⊎_elim (λ six. absurd (h (e ∙ six))) (λ two. two) (six_or_two what)))

pub returns-then-data_size-eq6 : goal.returns-then-data_size-eq6
returns-then-data_size-eq6 c =
    let s = c in
    let a = s.args in
    c.number_in.ensures.result_value ∙ of-six a.what a.own.now s.data_size.ensures.value c.if-data_size-eq6.true

pub returns : goal.returns
returns c =
    let s = c in
    let a = s.args in
    c.four_in.ensures.result_value ∙ of_two a.what a.own.now s.data_size.ensures.value c.if-data_size-eq6.false
