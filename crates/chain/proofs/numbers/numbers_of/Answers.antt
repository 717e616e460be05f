-- `chain::numbers::numbers_of` meets its contract, answer by answer.
-- Assumes nothing.
use mathlib.Core.Path.{sym, ap, ◌∙◌}
use Prim.Native.Nat.{ℕ}
use Rattle.chain.specs.declared.numbers.Numbers.{Numbers}
use Rattle.chain.specs.Numbers.{numbers_of}
use Rattle.chain.proofs.numbers.numbers_of.Goals as goal

pub returns-in-Err : goal.returns-in-Err
returns-in-Err c =
    ap {B = Numbers} (λ (n : ℕ). record { number = n; taken = 0; reply = 0 }) c.number_of.ensures ∙ ap numbers_of (sym c.in-Err.is)

pub returns-in-Ok : goal.returns-in-Ok
returns-in-Ok c = ap numbers_of (sym c.in-Ok.is)
