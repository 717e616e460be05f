-- Worked examples of codes, thresholds and flags, by computation.
-- Assumes nothing.
use mathlib.Core.Path.{◌≡◌, refl}
use mathlib.Core.List.{[], ◌∷◌}
use lib.IntN.{pos, negsuc}
use Rattle.thresholds.specs.Thresholds.{signed, codes_of}
use Rattle.cells.specs.Cells.{word, code_byte, flags_for}

-- 12 bits of which the first is 1
pub example_lowest_step : signed 12 2048 ≡ negsuc 2047
unfolding signed
example_lowest_step = refl

pub example_highest_step : signed 12 2047 ≡ pos 2047
unfolding signed
example_highest_step = refl

-- 100 steps are 1600 codes
pub example_hundred_steps : codes_of (record { 0 = pos 100 }) ≡ record { 0 = pos 1600 }
unfolding codes_of
example_hundred_steps = refl

-- the code -2 is 0xfffe, its low byte first
pub example_low_byte : code_byte (pos 1 ∷ negsuc 1 ∷ []) 2 ≡ 0xfe
unfolding code_byte word
example_low_byte = refl

pub example_high_byte : code_byte (pos 1 ∷ negsuc 1 ∷ []) 3 ≡ 0xff
unfolding code_byte word
example_high_byte = refl

-- a threshold that is met raises nothing; where the lower one is above the upper one, both flags are raised
pub example_met : flags_for (record { 0 = negsuc 15 }) (record { 0 = negsuc 15 }) (record { 0 = negsuc 15 }) ≡ 0
unfolding flags_for
example_met = refl

pub example_both : flags_for (record { 0 = pos 0 }) (record { 0 = pos 16 }) (record { 0 = negsuc 15 }) ≡ 3
unfolding flags_for
example_both = refl
