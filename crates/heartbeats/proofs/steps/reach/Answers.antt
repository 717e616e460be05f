-- `heartbeats::steps::reach` meets its contract, by its tests: a timeout monitor makes one byte anew.
-- Assumes nothing.
use mathlib.Core.Path.{◌≡◌, refl, sym, ap, ap₂, ◌∙◌}
use mathlib.Core.Bool.{Bool, cond, not, ◌&&◌}
use mathlib.Core.List.{List}
use Prim.Native.Nat.{ℕ}
use lib.Bits.{bit_and, bit_or}
use lib.ListN.{get_or, set}
use borrow.Author.Tests.{not-true, not-false}
use Rattle.records.specs.Record.{cmf1, is_record, anew, on_bytes}
use Rattle.records.proofs.Answers.{is-record, no_record}
use Rattle.measuring.specs.Measuring.{measured}
use Rattle.messages.specs.Messages.{count_in, flags_in, is_pass}
use Rattle.heartbeats.specs.declared.steps.Beat.{Beat}
use Rattle.heartbeats.specs.Steps.{is_timeout, counted_down, joined_to, hears, judged, reached, answers}
use Rattle.heartbeats.proofs.steps.reach.Goals as goal
use Rattle.std.specs.Prelude.{Option, None}
use Rattle.heartbeats.specs.Steps.{sends}

module _ (m r : List ℕ) where
  abbrev sent : Option Beat
  sent = sends (counted_down r (count_in m)) (joined_to r (flags_in m))

  abbrev marked : List ℕ → List ℕ
  marked l = set l cmf1.at (judged m r (get_or l cmf1.at 0))

  -- by whether it is a record, takes the message in, and is a timeout monitor
  by_tests : {is takes out : Bool} → is_record r ≡ is → hears m r ≡ takes → is_timeout r ≡ out
      → (cond is (cond (takes && not out) sent None) None ≡ cond (is_record r) (answers m r) None)
      × (cond is (cond takes (cond out (marked (measured r)) (measured r)) r) r ≡ cond (is_record r) (reached m r) r)
  unfolding answers reached on_bytes anew
  by_tests e h o = (
    sym
        (ap₂ (λ (is : Bool) (b : Option Beat). cond is b None) e (ap₂ (λ (takes out : Bool). cond (takes && not out) sent None) h o)),
    sym
        (ap₂ (λ (is : Bool) (l : List ℕ). cond is l r) e
        (ap₂ (λ (takes out : Bool). cond takes (cond out (marked (measured r)) (measured r)) r) h o)),
  )

  module _ {n k count flags : ℕ} (en : n ≡ get_or m 4 0) (ek : k ≡ get_or m 5 0) (ec : count ≡ counted_down r n) (ef : flags ≡ joined_to r k) where
    left-with : (count ≡ counted_down r (count_in m)) × (flags ≡ joined_to r (flags_in m))
    unfolding count_in flags_in
    left-with = (ec ∙ ap (counted_down r) en, ef ∙ ap (joined_to r) ek)

    marks : {old new : ℕ} {after : List ℕ} → after ≡ measured r → old ≡ get_or after cmf1.at 0
        → new ≡ cond (is_pass count flags) (bit_and old 0xFC) (bit_or old 0x01) → set after cmf1.at new ≡ marked (measured r)
    unfolding judged
    marks {old} a o v =
        ap₂ (λ (l : List ℕ) (x : ℕ). set l cmf1.at x) a
        (v
        ∙ ap₂ (λ (c f : ℕ). cond (is_pass c f) (bit_and old 0xFC) (bit_or old 0x01)) left-with.0 left-with.1
        ∙ ap (judged m r) (o ∙ ap (λ (l : List ℕ). get_or l cmf1.at 0) a))

pub returns-then-rec-ne-RECORD_SIZE : goal.returns-then-rec-ne-RECORD_SIZE
returns-then-rec-ne-RECORD_SIZE c =
    let told = by_tests _ _ (no_record _ c.if-rec-ne-RECORD_SIZE.true) refl refl in
    record { value = told.0; rec_after = told.1 }

pub returns-then-not-hears : goal.returns-then-not-hears
returns-then-not-hears c =
    let told = by_tests _ _ (is-record _ c.if-rec-ne-RECORD_SIZE.false) (sym c.hears.ensures ∙ not-true _ c.if-not-hears.true-raw) refl in
    record { value = told.0; rec_after = told.1 }

pub returns-then-is_last : goal.returns-then-is_last
returns-then-is_last c =
    let last = c in
    let own = last in
    let asked = own in
    let read = asked in
    let test = read in
    let first = test in
    let a = first.args in
    let both = by_tests a.message.now a.rec.now (is-record _ first.if-rec-ne-RECORD_SIZE.false) (sym test.hears.ensures ∙ not-false _ test.if-not-hears.false-raw) (sym asked.is_timeout-is_last.ensures ∙ last.if-is_last.true) in
    let own = own.own_step-own.ensures in
    record { value = both.0; rec_after = marks a.message.now a.rec.now read.byte_at-count.ensures read.byte_at-flags.ensures own.count_value own.flags_value own.rec_after c.byte_at-old.ensures c.judged.ensures ∙ both.1 }

pub returns : goal.returns
returns c =
    let own = c in
    let asked = own in
    let read = asked in
    let test = read in
    let first = test in
    let a = first.args in
    let both = by_tests a.message.now a.rec.now (is-record _ first.if-rec-ne-RECORD_SIZE.false) (sym test.hears.ensures ∙ not-false _ test.if-not-hears.false-raw) (sym asked.is_timeout-is_last.ensures ∙ c.if-is_last.false) in
    let own = own.own_step-own.ensures in
    let left = left-with a.message.now a.rec.now read.byte_at-count.ensures read.byte_at-flags.ensures own.count_value own.flags_value in
    record { value = ap₂ sends left.0 left.1 ∙ both.0; rec_after = own.rec_after ∙ both.1 }
