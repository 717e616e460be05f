-- The list of commands, held against a `match` on the code: a code that is a row's is the command that the list computes to, and a
-- code that the `match` has passed in every arm is in no row. And the length of a frame, by the number of monitors.
-- Assumes nothing.
use mathlib.Core.Path.{◌≡◌, refl, sym, ap, ◌∙◌}
use mathlib.Core.Bool.{Bool, cond}
use mathlib.Core.List.{List, [], ◌∷◌}
use Prim.Native.Nat.{ℕ, ◌≤◌, ◌<◌}
use lib.Dec.{leb}
use borrow.Author.Tests.{ne_eqb, le-leb, lt-leb}
use Rattle.records.specs.declared.commands.Command.{Command}
use Rattle.records.specs.declared.commands.Command.TheVariants.{Unlisted}
use Rattle.records.specs.Commands.{Row, commands, command_of, most_monitors, frame_length}

pub in_row : {code its : ℕ} → code ≡ its → command_of its commands ≡ command_of code commands
in_row e = sym (ap (λ (k : ℕ). command_of k commands) e)

-- the code is none of the rows', as the last arm of a `match` with an arm a row knows it; N is what was known before
abbrev pub Passed : ℕ → List Row → Type 0 → Type 0
Passed code [] N = N
Passed code (row ∷ rows) N = Passed code rows (N × (code ≡ row.code → ⊥))

pub in_no_row : (code : ℕ) (rows : List Row) (N : Type 0) → Passed code rows N → N × (command_of code rows ≡ Unlisted)
unfolding command_of
in_no_row code [] N p = (p, refl)
in_no_row code (row ∷ rows) N p =
    let later = in_no_row code rows (N × (code ≡ row.code → ⊥)) p in (
      later.0.0,
      ap (λ (b : Bool). cond b row.command (command_of code rows)) (ne_eqb row.code code (λ e. later.0.1 (sym e))) ∙ later.1,
    )

-- ---- the length of a frame, by the number of monitors

module _ (command : Command) (n : ℕ) where
  pub too_many : most_monitors < n → 0 ≡ cond (leb n most_monitors) (frame_length command n) 0
  too_many h = sym (ap (λ (b : Bool). cond b (frame_length command n) 0) (lt-leb n most_monitors h))

  pub not_too_many : n ≤ most_monitors → {l : ℕ} → l ≡ frame_length command n → l ≡ cond (leb n most_monitors) (frame_length command n) 0
  not_too_many h e = e ∙ sym (ap (λ (b : Bool). cond b (frame_length command n) 0) (le-leb n most_monitors h))
