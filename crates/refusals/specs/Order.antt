-- Document 01, "Orders": a question's refusals are a list of conditions, and the first that holds is the answer.
-- Assumes nothing.
use Rattle.std.specs.Prelude.{◌≡◌, Bool, false, cond, List, [], ◌∷◌}
use Rattle.refusals.specs.declared.Refusal.{Refusal}

-- a condition, and the refusal that is given where it is the first to hold
pub record Row : Type 0 where
  pub holds : Bool
  pub refusal : Refusal

infix 10 ◌gives◌
abbrev pub ◌gives◌ : Bool → Refusal → Row
b gives n = record { holds = b; refusal = n }

-- what comes of a question: by the first refusal that holds, or by none
unfoldable pub decide : {A : Type 0} → List Row → (Refusal → A) → A → A
decide [] refused accepted = accepted
decide (row ∷ rows) refused accepted = cond row.holds (refused row.refusal) (decide rows refused accepted)

-- no condition of a list holds
abbrev pub Passed : List Row → Type 0
Passed [] = Unit {0}
Passed (row ∷ rows) = (row.holds ≡ false) × Passed rows
