-- Document 02, L2, and the sheet's Table 27: the priorities of discharge. From the top, the first row whose event holds decides an output.
-- Assumes nothing.
use Rattle.std.specs.Prelude.{◌≡◌, Bool, true, false, cond, List, [], ◌∷◌, ◌⊎◌, ℕ, suc, ltb}
use Rattle.laws.specs.Tables.{tabulate}
use Rattle.priorities.specs.declared.outputs.Events.{Events}
use Rattle.priorities.specs.declared.outputs.Output.{Output}
use Rattle.priorities.specs.Switches.{muted, dcc, duty}

-- a row of the table: its priority, whether its event holds, and whether the output is then on
pub record Row : Type 0 where
  pub priority : ℕ
  pub event : Bool
  pub on : Bool

abbrev row : ℕ → Bool → Bool → Row
row priority event on = record { priority = priority; event = event; on = on }

abbrev off : Bool
off = false

abbrev on : Bool
on = true

-- the phases of the PWM are 0 to 14
abbrev pub last_phase : ℕ
last_phase = 14

unfoldable pub phases : List ℕ
phases = tabulate (λ p. p) 0 (suc last_phase)

-- the table for the output of cell c, counted from 1, of a record: what goes on is given, and in which phase the PWM is
unfoldable pub table27 : Events → ℕ → List ℕ → ℕ → List Row
table27 events phase r c =
    row 7 events.shutdown off
    ∷ row 6 (muted r) off
    ∷ row 5 events.wrcfgb off
    ∷ row 4 (dcc r c) on
    ∷ row 3 events.measurement off
    ∷ row 2 events.wrpwm off
    ∷ row 1 true (ltb phase (duty r c))
    ∷ []

-- the first row whose event holds. Row 1 always does, so that no output is left to no row
unfoldable pub decided : List Row → Output
decided [] = record { row = 0; on = false }
decided (row ∷ rows) = cond row.event (record { row = row.priority; on = row.on }) (decided rows)

-- the output of a cell: the row that decides it, and whether it is on
unfoldable pub output_of : Events → ℕ → List ℕ → ℕ → Output
output_of events phase r c = decided (table27 events phase r c)

-- ---- which row it is

-- a row of a list whose event holds, where that of no row above it does
abbrev pub Decides : List Row → Row → Type 0
Decides [] q = ⊥
Decides (row ∷ rows) q = ((row.event ≡ true) × (row ≡ q)) ⊎ ((row.event ≡ false) × Decides rows q)

-- one that decides, and what it makes of the output
pub record Decider (rows : List Row) : Type 0 where
  pub row : Row
  pub decides : Decides rows row
  pub told : decided rows ≡ record { row = row.priority; on = row.on }
