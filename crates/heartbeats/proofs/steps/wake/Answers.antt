-- `heartbeats::steps::wake` meets its contract, by its tests.
-- Assumes nothing.
use mathlib.Core.Path.{◌≡◌, refl, sym, ap, ap₂, ◌∙◌}
use mathlib.Core.Bool.{Bool, cond}
use mathlib.Core.List.{List}
use Prim.Native.Nat.{ℕ}
use borrow.Author.Tests.{not-true, not-false}
use Rattle.records.specs.Record.{is_record}
use Rattle.records.proofs.Answers.{is-record, no_record}
use Rattle.measuring.specs.Measuring.{measured}
use Rattle.heartbeats.specs.declared.steps.Beat.{Beat}
use Rattle.heartbeats.specs.Steps.{is_manager, ndev, counted_down, joined_to, woken, wakes}
use Rattle.heartbeats.proofs.steps.wake.Goals as goal
use Rattle.std.specs.Prelude.{Option, None}
use Rattle.heartbeats.specs.Steps.{sends}

module _ (r : List ℕ) where
  abbrev sent : Option Beat
  sent = sends (counted_down r (ndev r)) (joined_to r 0)

  -- by whether it is a record, and a manager
  by_tests : {is out : Bool} → is_record r ≡ is → is_manager r ≡ out → (cond is (cond out sent None) None ≡ cond (is_record r) (wakes r) None) × (cond is (cond out (measured r) r) r ≡ cond (is_record r) (woken r) r)
  unfolding wakes woken
  by_tests e o =
      (sym (ap₂ (λ (is out : Bool). cond is (cond out sent None) None) e o), sym (ap₂ (λ (is out : Bool). cond is (cond out (measured r) r) r) e o))

pub returns-then-rec-ne-RECORD_SIZE : goal.returns-then-rec-ne-RECORD_SIZE
returns-then-rec-ne-RECORD_SIZE c =
    let told = by_tests _ (no_record _ c.if-rec-ne-RECORD_SIZE.true) refl in
    record { value = told.0; rec_after = told.1 }

pub returns-then-not-is_manager : goal.returns-then-not-is_manager
returns-then-not-is_manager c =
    let told = by_tests _ (is-record _ c.if-rec-ne-RECORD_SIZE.false) (sym c.is_manager.ensures ∙ not-true _ c.if-not-is_manager.true-raw) in
    record { value = told.0; rec_after = told.1 }

pub returns : goal.returns
unfolding ndev
returns c =
    let own = c.own_step in
    let read = c in
    let start = read in
    let r = start.args.rec.now in
    let both = by_tests r (is-record r start.if-rec-ne-RECORD_SIZE.false) (sym start.is_manager.ensures ∙ not-false _ read.if-not-is_manager.false-raw) in
    record { value = ap₂ sends (own.ensures.count_value ∙ ap (counted_down r) read.byte_in-count.ensures) own.ensures.flags_value ∙ both.0; rec_after = own.ensures.rec_after ∙ both.1 }
