-- `cells::cells::store` meets its contract: a loop that makes the bytes of the cells anew, two of a code.
-- Assumes nothing.
use mathlib.Core.Path.{◌≡◌, refl, ap, ap₂, ◌∙◌, subst₂}
use mathlib.Core.Bool.{Bool, ◌&&◌}
use mathlib.Core.List.{List}
use Prim.Native.Nat.{ℕ, ◌+◌, ◌*◌, ◌<◌}
use native.Mathlib.Omega.{arith}
use lib.Dec.{eqb}
use lib.IntN.{ℤ, pos}
use lib.ListN.{length, get_or, set}
use borrow.Author.Tests.{eq-eqb, ne_eqb}
use mir.Syntax.{w16}
use mir.Val.{SFits}
use Rattle.records.specs.Record.{cells, cell_count, on_bytes}
use Rattle.records.proofs.Answers.{is-record, no_record, left_alone, was_changed}
use Rattle.records.proofs.Making.{Making, making_start, making_more, making_end}
use Rattle.cells.specs.Cells.{code_byte, store}
use Rattle.cells.proofs.CodeBits.{low_written, high_written}
use Rattle.cells.proofs.cells.store.Goals as goal

pub returns-then-rec-ne-RECORD_SIZE : goal.returns-then-rec-ne-RECORD_SIZE
returns-then-rec-ne-RECORD_SIZE c =
    let a = c.args in
    let told = left_alone _ (store a.codes.now a.rec.now) a.rec.now refl
    (ap (λ (b : Bool). b && eqb (length a.codes.now) cell_count) (no_record a.rec.now c.if-rec-ne-RECORD_SIZE.true))
    refl in
    record { value = told.0; rec_after = told.1 }

pub returns-then-codes-ne-CELL_COUNT : goal.returns-then-codes-ne-CELL_COUNT
returns-then-codes-ne-CELL_COUNT c =
    let a = c.args in
    let told = left_alone _ (store a.codes.now a.rec.now) a.rec.now refl
    (ap₂ ◌&&◌ (is-record a.rec.now c.if-rec-ne-RECORD_SIZE.false) (ne_eqb (length a.codes.now) cell_count c.if-codes-ne-CELL_COUNT.true))
    refl in
    record { value = told.0; rec_after = told.1 }

pub loop-i-init : goal.loop-i-init
loop-i-init c = making_start _ _ _ _

-- two bytes more
two_more : (codes : List ℤ) (r₀ : List ℕ) {r : List ℕ} {i low high : ℕ} → Making (λ j old. code_byte codes j) cells.at cells.size r₀ r (2 * i) → i < cell_count
    → low ≡ code_byte codes (2 * i) → high ≡ code_byte codes (2 * i + 1)
    → Making (λ j old. code_byte codes j) cells.at cells.size r₀ (set (set r (cells.at + 2 * i) low) (cells.at + 2 * i + 1) high) (2 * (i + 1))
two_more codes r₀ {r} {i} {low} {high} m h l k =
    let place : cells.at + (2 * i + 1) ≡ cells.at + 2 * i + 1 = omega arith in
    let end : 2 * i + 1 + 1 ≡ 2 * (i + 1) = omega arith in
    subst₂ (λ (at all : ℕ). Making (λ j old. code_byte codes j) cells.at cells.size r₀ (set (set r (cells.at + 2 * i) low) at high) all) place end
    (making_more _ _ _ _ (making_more _ _ _ _ m (omega arith) l) (omega arith) k)

pub loop-i-preserved : goal.loop-i-preserved
loop-i-preserved c =
    let codes = c.args.codes.now in
    let i = c.loop-i.i in
    let fits : SFits w16 (get_or codes i (pos 0)) = record { sfits = omega arith } in
    two_more codes _ c.loop-i.invariant (omega arith)
    (ap (λ (l : List ℕ). get_or l 0 0) c.to_le_bytes.ensures ∙ low_written codes i fits)
    (ap (λ (l : List ℕ). get_or l 1 0) c.to_le_bytes.ensures ∙ high_written codes i fits)

pub returns : goal.returns
unfolding store on_bytes
returns c =
    let a = c.args in
    let told = was_changed _ (store a.codes.now a.rec.now) a.rec.now refl
    (ap₂ ◌&&◌ (is-record a.rec.now c.if-rec-ne-RECORD_SIZE.false) (eq-eqb (length a.codes.now) cell_count c.if-codes-ne-CELL_COUNT.false))
    (making_end _ _ _ _ c.loop-i.invariant (omega arith)) in
    record { value = told.0; rec_after = told.1 }
