-- `measuring::measuring::measure` meets its contract: what was found is joined to CMF0 once the cells are copied, which leaves CMF0.
-- Assumes nothing.
use mathlib.Core.Path.{◌≡◌, refl, sym, ap, ap₂, ◌∙◌}
use mathlib.Core.Bool.{Bool, cond, ◌&&◌}
use mathlib.Core.List.{List}
use Prim.Native.Nat.{ℕ}
use lib.Bits.{bit_or}
use lib.Dec.{eqb}
use lib.ListN.{length, get_or, set}
use Rattle.records.specs.Record.{cmf0, last_cells, record_size, is_record, byte_of, anew, on_bytes}
use Rattle.records.proofs.Answers.{is-record, no_record}
use Rattle.monitor.specs.Effects.{cells_to}
use Rattle.measuring.specs.Measuring.{found, measured, passes}
use Rattle.measuring.proofs.Measured.{flags-copied, flags-measured}
use Rattle.measuring.proofs.measuring.measure.Goals as goal

-- by whether it is a record
module _ (r : List ℕ) {is : Bool} (e : is_record r ≡ is) where
  answer-where : is && passes r ≡ is_record r && passes r
  answer-where = ap (λ (b : Bool). b && passes r) (sym e)

  left-where : cond is (measured r) r ≡ cond (is_record r) (measured r) r
  left-where = ap (λ (b : Bool). cond b (measured r) r) (sym e)

  copied-where : cond (is_record r) (cells_to last_cells r) r ≡ cond is (cells_to last_cells r) r
  copied-where = ap (λ (b : Bool). cond b (cells_to last_cells r) r) e

-- one byte made anew
joined : List ℕ → ℕ → List ℕ
joined l more = set l cmf0.at (bit_or (get_or l cmf0.at 0) more)

as_one : (r : List ℕ) → joined (cells_to last_cells r) (found r) ≡ measured r
unfolding joined measured on_bytes anew
as_one r = refl

module _ (r : List ℕ) (whole : length r ≡ record_size) {after : List ℕ} {more : ℕ} (a : after ≡ cond (is_record r) (cells_to last_cells r) r) (m : more ≡ found r) where
  copied : after ≡ cells_to last_cells r
  copied = a ∙ copied-where r (is-record r whole)

  none : eqb (bit_or (get_or after cmf0.at 0) more) 0 ≡ passes r
  unfolding passes byte_of
  none =
      ap₂ (λ (l : List ℕ) (f : ℕ). eqb (bit_or (get_or l cmf0.at 0) f) 0) copied m
      ∙ ap (λ (old : ℕ). eqb (bit_or old (found r)) 0) (flags-copied r)
      ∙ sym (ap (λ (flags : ℕ). eqb flags 0) (flags-measured r whole))

  made : (eqb (bit_or (get_or after cmf0.at 0) more) 0 ≡ is_record r && passes r) × (set after cmf0.at (bit_or (get_or after cmf0.at 0) more) ≡ cond (is_record r) (measured r) r)
  unfolding joined
  made = (none ∙ answer-where r (is-record r whole), ap₂ joined copied m ∙ as_one r ∙ left-where r (is-record r whole))

pub returns-then-rec-ne-RECORD_SIZE : goal.returns-then-rec-ne-RECORD_SIZE
returns-then-rec-ne-RECORD_SIZE c =
    let r = c.args.rec.now in
    record { value = answer-where r (no_record r c.if-rec-ne-RECORD_SIZE.true); rec_after = left-where r (no_record r c.if-rec-ne-RECORD_SIZE.true) }

pub returns : goal.returns
returns c =
    let told = made c.args.rec.now c.if-rec-ne-RECORD_SIZE.false c.remember.ensures c.found-more.ensures in
    record { value = told.0; rec_after = told.1 }
