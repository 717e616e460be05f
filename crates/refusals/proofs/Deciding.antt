-- Going down a list of refusals: a condition that holds ends it, one that does not leaves the rest to decide. What is made of the
-- outcome may be made of each outcome. What is accepted counts only where no condition holds.
-- Assumes nothing.
use mathlib.Core.Path.{◌≡◌, refl, sym, ap, ◌∙◌}
use mathlib.Core.Bool.{Bool, true, false, cond}
use mathlib.Core.List.{List, [], ◌∷◌, ◌++◌}
use Rattle.refusals.specs.declared.Refusal.{Refusal}
use Rattle.refusals.specs.Order.{Row, decide, Passed}

module _ {A : Type 0} (row : Row) (rows : List Row) (refused : Refusal → A) (accepted : A) where
  pub holds_here : row.holds ≡ true → decide (row ∷ rows) refused accepted ≡ refused row.refusal
  unfolding decide
  holds_here e = ap (λ (b : Bool). cond b (refused row.refusal) (decide rows refused accepted)) e

  pub holds_not : row.holds ≡ false → decide (row ∷ rows) refused accepted ≡ decide rows refused accepted
  unfolding decide
  holds_not e = ap (λ (b : Bool). cond b (refused row.refusal) (decide rows refused accepted)) e

pub none_left : {A : Type 0} (refused : Refusal → A) (accepted : A) → decide [] refused accepted ≡ accepted
unfolding decide
none_left refused accepted = refl

cond_map : {A B : Type 0} (f : A → B) (b : Bool) (x y : A) → f (cond b x y) ≡ cond b (f x) (f y)
cond_map f true x y = refl
cond_map f false x y = refl

pub decide-map : {A B : Type 0} (f : A → B) (rows : List Row) (refused : Refusal → A) (accepted : A)
    → f (decide rows refused accepted) ≡ decide rows (λ n. f (refused n)) (f accepted)
unfolding decide
decide-map f [] refused accepted = refl
decide-map f (row ∷ rows) refused accepted =
    cond_map f row.holds (refused row.refusal) (decide rows refused accepted)
    ∙ ap (cond row.holds (f (refused row.refusal))) (decide-map f rows refused accepted)

-- ---- one list after the other

pub decide_append : {A : Type 0} (rows more : List Row) (refused : Refusal → A) (accepted : A)
    → decide (rows ++ more) refused accepted ≡ decide rows refused (decide more refused accepted)
unfolding decide
decide_append [] more refused accepted = refl
decide_append (row ∷ rows) more refused accepted = ap (cond row.holds (refused row.refusal)) (decide_append rows more refused accepted)

-- ---- a list of which no condition holds

-- it accepts
pub passes : {A : Type 0} (rows : List Row) (refused : Refusal → A) (accepted : A) → Passed rows → decide rows refused accepted ≡ accepted
passes [] refused accepted p = none_left refused accepted
passes (row ∷ rows) refused accepted p = holds_not row rows refused accepted p.0 ∙ passes rows refused accepted p.1

-- what was accepted counts only there
pub passed_agree : {A : Type 0} (rows : List Row) (refused : Refusal → A) (a b : A) → (Passed rows → a ≡ b) → decide rows refused a ≡ decide rows refused b
unfolding decide
passed_agree [] refused a b h = h tt
passed_agree (row ∷ rows) refused a b h = by row.holds refl (λ e. passed_agree rows refused a b (λ p. h (e, p)))
  where
    by : (x : Bool) → row.holds ≡ x → (row.holds ≡ false → decide rows refused a ≡ decide rows refused b)
        → cond x (refused row.refusal) (decide rows refused a) ≡ cond x (refused row.refusal) (decide rows refused b)
    by true e rest = refl
    by false e rest = rest e

-- an outcome that no refusal gives was accepted there
pub has_passed : {A : Type 0} (rows : List Row) (refused : Refusal → A) (accepted other : A) → ((r : Refusal) → other ≡ refused r → ⊥)
    → decide rows refused accepted ≡ other → Passed rows
unfolding decide
has_passed [] refused accepted other apart e = tt
has_passed {A} (row ∷ rows) refused accepted other apart e = by row.holds refl e (has_passed rows refused accepted other apart)
  where
    by : (x : Bool) → row.holds ≡ x → cond x (refused row.refusal) (decide rows refused accepted) ≡ other
        → (decide rows refused accepted ≡ other → Passed rows) → Passed (row ∷ rows)
    by true h e rest = absurd (apart row.refusal (sym e))
    by false h e rest = (h, rest e)
