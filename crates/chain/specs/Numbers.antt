-- Document 01, "Numbers that come back": the paper's number and values for each answer. A refusal returns its number only.
-- Assumes nothing.
use Rattle.refusals.specs.Numbers.{number_of}
use Rattle.chain.specs.declared.frames.Answer.{Answer}
use Rattle.chain.specs.declared.numbers.Numbers.{Numbers}
use Rattle.std.specs.Prelude.{Result, Ok, Err}
use Rattle.refusals.specs.declared.Refusal.{Refusal}

-- an accepted frame has no number: 0
abbrev pub numbers_of : Result Answer Refusal → Numbers
numbers_of (Err r) = record { number = number_of r; taken = 0; reply = 0 }
numbers_of (Ok a) = record { number = 0; taken = a.taken; reply = a.reply }
