-- Questions with the same refusals come to the same end: where one is refused so is the other, and where one is accepted so is the
-- other. By going down the refusals: the first that holds is the same for all of them.
-- Assumes nothing.
use mathlib.Core.Path.{◌≡◌, refl, sym}
use mathlib.Core.Bool.{Bool, true, false, cond}
use mathlib.Core.List.{List, [], ◌∷◌}
use Rattle.refusals.specs.declared.Refusal.{Refusal}
use Rattle.refusals.specs.Order.{Row, decide, Passed}

-- what holds of each refusal's outcome, and of the accepted one where no refusal holds, holds of what comes
pub by-passing : {A : Type 0} (P : A → Type 0) (rows : List Row) (refused : Refusal → A) (accepted : A)
    → ((r : Refusal) → P (refused r)) → (Passed rows → P accepted) → P (decide rows refused accepted)
unfolding decide
by-passing P [] refused accepted h k = k tt
by-passing {A} P (row ∷ rows) refused accepted h k = by row.holds refl (λ e. by-passing P rows refused accepted h (λ p. k (e, p)))
  where
    by : (b : Bool) → row.holds ≡ b → (row.holds ≡ false → P (decide rows refused accepted)) → P (cond b (refused row.refusal) (decide rows refused accepted))
    by true e rest = h row.refusal
    by false e rest = rest e

pub either_way : {A : Type 0} (P : A → Type 0) (rows : List Row) (refused : Refusal → A) (accepted : A)
    → ((r : Refusal) → P (refused r)) → P accepted → P (decide rows refused accepted)
either_way P rows refused accepted h k = by-passing P rows refused accepted h (λ p. k)

-- where one question is refused, another one with the same refusals is refused too
pub stays_so : {A B : Type 0} (rows : List Row) (refused : Refusal → A) (accepted : A) (r : Refusal) (before after : B)
    → (accepted ≡ refused r → ⊥) → decide rows refused accepted ≡ refused r → decide rows (λ n. before) after ≡ before
unfolding decide
stays_so [] refused accepted r before after apart e = absurd (apart e)
stays_so {A} {B} (row ∷ rows) refused accepted r before after apart e = by row.holds (stays_so rows refused accepted r before after apart) e
  where
    by : (b : Bool) → (decide rows refused accepted ≡ refused r → decide rows (λ n. before) after ≡ before)
        → cond b (refused row.refusal) (decide rows refused accepted) ≡ refused r
        → cond b before (decide rows (λ n. before) after) ≡ before
    by true rest e = refl
    by false rest e = rest e

-- and where one is accepted, so is the other
pub goes_on : {A B : Type 0} (rows : List Row) (refused : Refusal → A) (accepted other : A) (before after : B)
    → ((r : Refusal) → other ≡ refused r → ⊥) → decide rows refused accepted ≡ other → decide rows (λ n. before) after ≡ after
unfolding decide
goes_on [] refused accepted other before after apart e = refl
goes_on {A} {B} (row ∷ rows) refused accepted other before after apart e = by row.holds (goes_on rows refused accepted other before after apart) e
  where
    by : (b : Bool) → (decide rows refused accepted ≡ other → decide rows (λ n. before) after ≡ after)
        → cond b (refused row.refusal) (decide rows refused accepted) ≡ other
        → cond b before (decide rows (λ n. before) after) ≡ after
    by true rest e = absurd (apart row.refusal (sym e))
    by false rest e = rest e

-- then the answer is the accepted one
pub is_accepted : {A : Type 0} (rows : List Row) (refused : Refusal → A) (accepted other : A)
    → ((r : Refusal) → other ≡ refused r → ⊥) → decide rows refused accepted ≡ other → accepted ≡ other
unfolding decide
is_accepted [] refused accepted other apart e = e
is_accepted {A} (row ∷ rows) refused accepted other apart e = by row.holds (is_accepted rows refused accepted other apart) e
  where
    by : (b : Bool) → (decide rows refused accepted ≡ other → accepted ≡ other)
        → cond b (refused row.refusal) (decide rows refused accepted) ≡ other → accepted ≡ other
    by true rest e = absurd (apart row.refusal (sym e))
    by false rest e = rest e

-- a refusal stands whatever would have been accepted
pub refused_so : {A : Type 0} (rows : List Row) (refused : Refusal → A) (accepted other : A) (r : Refusal)
    → (accepted ≡ refused r → ⊥) → decide rows refused accepted ≡ refused r → decide rows refused other ≡ refused r
unfolding decide
refused_so [] refused accepted other r apart e = absurd (apart e)
refused_so {A} (row ∷ rows) refused accepted other r apart e = by row.holds (refused_so rows refused accepted other r apart) e
  where
    by : (b : Bool) → (decide rows refused accepted ≡ refused r → decide rows refused other ≡ refused r)
        → cond b (refused row.refusal) (decide rows refused accepted) ≡ refused r → cond b (refused row.refusal) (decide rows refused other) ≡ refused r
    by true rest e = e
    by false rest e = rest e
