-- Document 01, "Numbers that come back": the paper's number for each refusal.
-- Assumes nothing.
use Rattle.std.specs.Prelude.{ℕ}
use Rattle.refusals.specs.declared.Refusal.{Refusal}
use Rattle.refusals.specs.declared.Refusal.TheVariants.{TableNotSound, FrameShort, CommandWrong, CodeNotListed, LengthWrong, NoRoom, PositionWrong, CountWrong, CodeCleared, BothDamaged}

abbrev pub number_of : Refusal → ℕ
number_of TableNotSound = 1
number_of FrameShort = 2
number_of CommandWrong = 3
number_of CodeNotListed = 4
number_of LengthWrong = 5
number_of NoRoom = 6
number_of PositionWrong = 7
number_of CountWrong = 8
number_of CodeCleared = 9
number_of BothDamaged = 10
