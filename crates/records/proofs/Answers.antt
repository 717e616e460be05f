-- What a function that changes a record or leaves it alone has to show of its answer: the answer is the test, and the record is
-- the changed one where the test passes.
-- Assumes nothing.
use mathlib.Core.Path.{◌≡◌, sym, ap, ◌∙◌}
use mathlib.Core.Bool.{Bool, true, false, cond}
use mathlib.Core.List.{List}
use Prim.Native.Nat.{ℕ}
use lib.ListN.{length}
use borrow.Author.Tests.{eq-eqb, ne_eqb}
use Rattle.records.specs.Record.{record_size, is_record}

pub is-record : (r : List ℕ) → length r ≡ record_size → is_record r ≡ true
unfolding is_record
is-record r h = eq-eqb (length r) record_size h

pub no_record : (r : List ℕ) → (length r ≡ record_size → ⊥) → is_record r ≡ false
unfolding is_record
no_record r h = ne_eqb (length r) record_size h

module _ (test : Bool) (changed before : List ℕ) {answer : Bool} {after : List ℕ} where
  pub left_alone : answer ≡ false → test ≡ false → after ≡ before → (answer ≡ test) × (after ≡ cond test changed before)
  left_alone a h e = (a ∙ sym h, e ∙ sym (ap (λ (b : Bool). cond b changed before) h))

  pub was_changed : answer ≡ true → test ≡ true → after ≡ changed → (answer ≡ test) × (after ≡ cond test changed before)
  was_changed a h e = (a ∙ sym h, e ∙ sym (ap (λ (b : Bool). cond b changed before) h))
