-- The answer of a function for C: one number of 32 bits, which holds the paper's number and two values. A refusal returns its number
-- only, and a value that a function does not have is 0.
-- Assumes nothing.
use Rattle.std.specs.Prelude.{ℕ, ◌+◌, ◌*◌, ◌/◌, ◌%◌, ◌<◌}
use Rattle.refusals.specs.declared.Refusal.{Refusal}
use Rattle.refusals.specs.Numbers.{number_of}

-- ---- the packing

pub record Parts : Type 0 where
  -- the refusal's, and 0 where it was accepted
  pub number : ℕ
  pub first : ℕ
  pub second : ℕ

-- bits 0 to 7 the number, bits 8 to 15 the first value, bits 16 to 31 the second
unfoldable pub packed : Parts → ℕ
packed p = p.number + 256 * p.first + 65536 * p.second

-- and taken apart again
unfoldable pub apart : ℕ → Parts
apart answer = record { number = answer % 256; first = answer / 256 % 256; second = answer / 65536 }

-- each has room in its bits
pub record Fit (p : Parts) : Type 0 where
  pub number_fits : p.number < 256
  pub first_fits : p.first < 256
  pub second_fits : p.second < 65536

-- ---- a refusal, and what is accepted

abbrev pub refused : Refusal → Parts
refused r = record { number = number_of r; first = 0; second = 0 }

abbrev pub accepted : ℕ → ℕ → Parts
accepted first second = record { number = 0; first = first; second = second }
