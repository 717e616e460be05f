-- The remainder behind both check words, over the width w, the polynomial g and the start value. A polynomial is
-- written as the number of its terms below x^w: x^10+x^7+x^3+x^2+x+1 is 0b00_1000_1111 at the width 10.
-- Assumes nothing.
use Rattle.std.specs.Prelude.{Bool, true, false, List, [], ◌∷◌, ℕ, ◌+◌, ◌*◌, ◌/◌, ◌%◌, ◌^◌, ◌<◌}
use Rattle.std.specs.Bool.{xor}
use Rattle.laws.specs.Bits.{◌⊕◌, odd}

-- a number taken once or not at all
unfoldable pub once : Bool → ℕ → ℕ
once true g = g
once false g = 0

-- one bit more: the remainder moves up one place, and where the bit that passes out of the w places differs from
-- the bit that comes, the polynomial is taken away
unfoldable pub step : ℕ → ℕ → ℕ → Bool → ℕ
step w g r b = (r * 2 % 2 ^ w) ⊕ once (xor (odd (r * 2 / 2 ^ w)) b) g

-- a list of bits, most significant first, from the start value r
unfoldable pub remainder : ℕ → ℕ → ℕ → List Bool → ℕ
remainder w g r [] = r
remainder w g r (b ∷ bs) = remainder w g (step w g r b) bs

-- a step undone: what the remainder was before the bit b, if g ends in 1
unfoldable pub step_back : ℕ → ℕ → ℕ → Bool → ℕ
step_back w g s b = (once (xor (odd s) b) (2 ^ w) + (s ⊕ once (odd s) g)) / 2

-- what the functions over the width know of theirs: it leaves a word of 16 bits room for one more, and the polynomial and
-- the start value have w bits
pub record Fitting (w g r : ℕ) : Type 0 where
  pub width : w < 16
  pub polynomial : g < 2 ^ w
  pub below : r < 2 ^ w
