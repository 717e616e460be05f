-- `clocking::bytes_in::shift_windows` meets its contract: the register is lent, moved on and comes back.
-- Assumes nothing.
use native.Mathlib.Nat.{mul-le-mul}
use Rattle.clocking.proofs.Shifting.{first_of_register, shifted_by}
use borrow.Author.Rules.{rules}
use Rattle.clocking.proofs.bytes_in.shift_windows.Goals as goal

pub overflow_mul-end : goal.overflow_mul-end
overflow_mul-end c = let most = mul-le-mul c.requires c.chained_in.ensures.upper_bound in search rules

pub overflow_add-end : goal.overflow_add-end
overflow_add-end c = let most = mul-le-mul c.requires c.chained_in.ensures.upper_bound in search rules

pub slice_bounds-shift-end : goal.slice_bounds-shift-end
slice_bounds-shift-end c = let most = mul-le-mul c.requires c.chained_in.ensures.upper_bound in search rules

pub returns : goal.returns
returns c =
    let a = c.args in
    let its = c.chained_in.ensures.value in
    let shift = c.shift.ensures in
    record { value = first_of_register a.width a.byte a.state.now its shift.value; state_after = shifted_by a.width a.byte a.state.now its shift.register_after }
