-- Document 01, "Numbers that come back": the paper's number for each outcome of a store, a compare or a load. One that is done has no number: 0.
-- Assumes nothing.
use Rattle.std.specs.Prelude.{ℕ, Result, Ok, Err}
use Rattle.refusals.specs.Numbers.{number_of}
use Rattle.refusals.specs.declared.Refusal.{Refusal}

abbrev pub load_number : Result (Unit {0}) Refusal → ℕ
load_number (Err r) = number_of r
load_number (Ok tt) = 0
