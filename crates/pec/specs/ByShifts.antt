-- A number times 1 + a^k, k a power of 2, for the polynomial of ten bits, x^10 (1 + a): a is y^3 + y^7 (1 + y)(1 + y^2), where y moves a
-- number down one place. To such a power every exponent is k times what it was.
-- Assumes nothing.
use Rattle.std.specs.Prelude.{ℕ, ◌*◌, ◌/◌, ◌^◌}
use Rattle.laws.specs.Bits.{◌⊕◌}

-- a number, and it moved down so many places, added
unfoldable pub with_moved : ℕ → ℕ → ℕ
with_moved s x = x ⊕ x / 2 ^ s

-- (1 + y^3k), and y^7k (1 + y^k)(1 + y^2k)
unfoldable pub times_one : ℕ → ℕ → ℕ
times_one k x = with_moved (3 * k) x ⊕ with_moved (2 * k) (with_moved k (x / 2 ^ (7 * k)))
