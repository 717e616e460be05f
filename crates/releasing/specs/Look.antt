-- A look at one monitor's window, at any time of a frame. Positions count from 1; before byte four no position is one, nor where the
-- table was not sound at byte four.
-- Assumes nothing.
use Rattle.std.specs.Prelude.{not, ◌&&◌, List, [], ◌∷◌, ◌++◌, ℕ, ◌-◌, leb, ltb, length, get_or, drop, Result, Ok, Err}
use Rattle.refusals.specs.declared.Refusal.TheVariants.{PositionWrong, NoRoom}
use Rattle.refusals.specs.Order.{Row, ◌gives◌, decide}
use Rattle.clocking.specs.Clock.{Clock}
use Rattle.refusals.specs.declared.Refusal.{Refusal}

-- a monitor's window, oldest byte first
unfoldable pub window_of : Clock → ℕ → List ℕ
window_of c position = get_or c.windows (position - 1) []

unfoldable pub look_refusals : Clock → ℕ → ℕ → List Row
look_refusals c position room =
    (not (leb 1 position && leb position c.chained) gives PositionWrong)
    ∷ (ltb room (length (window_of c position)) gives NoRoom)
    ∷ []

unfoldable pub looked : Clock → ℕ → ℕ → Result ℕ Refusal
looked c position room = decide (look_refusals c position room) Err (Ok (length (window_of c position)))

-- the window at the start of a buffer; bytes past it stay
unfoldable pub out_after : Clock → ℕ → List ℕ → List ℕ
out_after c position out = decide (look_refusals c position (length out)) (λ r. out) (window_of c position ++ drop (length (window_of c position)) out)
