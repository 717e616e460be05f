-- `releasing::looks::held_by` meets its contract: the bytes before a window are no more than a frame has.
-- Assumes nothing.
use native.Mathlib.Nat.{mul-le-mul, le_of_lt}
use borrow.Author.Rules.{rules}
use Rattle.releasing.proofs.looks.held_by.Goals as goal

pub overflow_mul-width : goal.overflow_mul-width
overflow_mul-width c = let most = mul-le-mul c.requires.1 (le_of_lt c.requires.0) in search rules

pub overflow_add-width : goal.overflow_add-width
overflow_add-width c = let most = mul-le-mul c.requires.1 (le_of_lt c.requires.0) in search rules
