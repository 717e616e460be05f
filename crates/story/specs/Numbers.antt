-- Document 01, "Numbers that come back", for the discharge outputs, a heartbeat, the host, a verdict, a look and the summary: the paper's number and values for each case of an
-- answer. A refusal returns its number only; where nothing is refused the number is 0. The chain's own are in `chain`. And what it
-- is that a condition is the first to hold.
-- Assumes nothing.
use Rattle.std.specs.Prelude.{◌≡◌, Bool, true, false, not, ◌&&◌, List, [], ◌∷◌, map, ◌⊎◌, ℕ, leb, ℤ, length, Option, Some, None, Result, Ok, Err}
use Rattle.refusals.specs.declared.Refusal.{Refusal}
use Rattle.refusals.specs.declared.Refusal.TheVariants.{CountWrong}
use Rattle.refusals.specs.Numbers.{number_of}
use Rattle.refusals.specs.Order.{Row, ◌gives◌, decide}
use Rattle.ports.specs.declared.checks.Checked.{Checked}
use Rattle.ports.specs.declared.checks.Checked.TheVariants.{Right, CounterDiffers, Damaged}
use Rattle.ports.specs.declared.ports.Port.{Port}
use Rattle.ports.specs.declared.ports.Port.TheVariants.{A, B}
use Rattle.messages.specs.declared.verdicts.Verdict.{Verdict}
use Rattle.messages.specs.declared.verdicts.Verdict.TheVariants.{Passed, Failed, Damaged as MessageDamaged, TimedOut}
use Rattle.passing.specs.declared.operations.Relayed.{Relayed}
use Rattle.passing.specs.declared.operations.Relayed.TheVariants.{Stopped, SentOn}
use Rattle.passing.specs.declared.operations.TimedOut.{TimedOut as Timed}
use Rattle.passing.specs.declared.operations.TimedOut.TheVariants.{NoTimeoutMonitor, RanOut}
use Rattle.readings.specs.declared.pack_summary.Summary.{Summary}
use Rattle.readings.specs.Readings.{most_codes}
use Rattle.passing.specs.declared.operations.End.{End}
use Rattle.passing.specs.declared.operations.End.TheVariants.{A as EndA, B as EndB}

-- a number, and what comes with it where it is 0
pub record Numbered (Value : Type 0) : Type 0 where
  pub number : ℕ
  pub values : List Value

-- the discharge outputs: how many are on. Their bytes come beside it
abbrev pub discharged_numbers : Result ℕ Refusal → Numbered ℕ
discharged_numbers (Err r) = record { number = number_of r; values = [] }
discharged_numbers (Ok n) = record { number = 0; values = n ∷ [] }

-- a manager that wakes, and a whole heartbeat: the port that a message is sent towards, or left at. Its bytes come beside it
abbrev pub sent_numbers : Result (Option End) Refusal → Numbered ℕ
sent_numbers (Err r) = record { number = number_of r; values = [] }
sent_numbers (Ok None) = record { number = 0; values = 0 ∷ [] }
sent_numbers (Ok (Some EndA)) = record { number = 0; values = 1 ∷ [] }
sent_numbers (Ok (Some EndB)) = record { number = 0; values = 2 ∷ [] }

-- a message that reaches a monitor: is it sent on
abbrev pub relayed_numbers : Result Relayed Refusal → Numbered Bool
relayed_numbers (Err r) = record { number = number_of r; values = [] }
relayed_numbers (Ok Stopped) = record { number = 0; values = false ∷ [] }
relayed_numbers (Ok SentOn) = record { number = 0; values = true ∷ [] }

-- the time that runs out: is it a timeout monitor's
abbrev pub timed_numbers : Result Timed Refusal → Numbered Bool
timed_numbers (Err r) = record { number = number_of r; values = [] }
timed_numbers (Ok NoTimeoutMonitor) = record { number = 0; values = false ∷ [] }
timed_numbers (Ok RanOut) = record { number = 0; values = true ∷ [] }

-- a host's frame: its length
abbrev pub built_numbers : Result ℕ Refusal → Numbered ℕ
built_numbers (Err r) = record { number = number_of r; values = [] }
built_numbers (Ok n) = record { number = 0; values = n ∷ [] }

-- the check of one payload: which of the three, and where its counter differs the one received
abbrev pub checked_numbers : Result Checked Refusal → Numbered ℕ
checked_numbers (Err r) = record { number = number_of r; values = [] }
checked_numbers (Ok Right) = record { number = 0; values = 1 ∷ [] }
checked_numbers (Ok Damaged) = record { number = 0; values = 2 ∷ [] }
checked_numbers (Ok (CounterDiffers c)) = record { number = 0; values = 3 ∷ c ∷ [] }

-- the two ports: which of them, and whether its counter differs. The bytes come from the function beside it
abbrev pub port_numbers : Result Port Refusal → Numbered ℕ
port_numbers (Err r) = record { number = number_of r; values = [] }
port_numbers (Ok (A false)) = record { number = 0; values = 1 ∷ [] }
port_numbers (Ok (B false)) = record { number = 0; values = 2 ∷ [] }
port_numbers (Ok (A true)) = record { number = 0; values = 3 ∷ [] }
port_numbers (Ok (B true)) = record { number = 0; values = 4 ∷ [] }

-- the verdict on a heartbeat: which of the four, and where it failed the count and the flags
abbrev pub verdict_numbers : Result Verdict Refusal → Numbered ℕ
verdict_numbers (Err r) = record { number = number_of r; values = [] }
verdict_numbers (Ok Passed) = record { number = 0; values = 1 ∷ [] }
verdict_numbers (Ok (Failed count flags)) = record { number = 0; values = 2 ∷ count ∷ flags ∷ [] }
verdict_numbers (Ok MessageDamaged) = record { number = 0; values = 3 ∷ [] }
verdict_numbers (Ok TimedOut) = record { number = 0; values = 4 ∷ [] }

-- a look at a window: how many bytes it holds
abbrev pub looked_numbers : Result ℕ Refusal → Numbered ℕ
looked_numbers (Err r) = record { number = number_of r; values = [] }
looked_numbers (Ok n) = record { number = 0; values = n ∷ [] }

-- a summary; none where all cells are cleared
abbrev pub pack_numbers : Result (Option Summary) Refusal → Numbered Summary
pack_numbers (Err r) = record { number = number_of r; values = [] }
pack_numbers (Ok None) = record { number = 0; values = [] }
pack_numbers (Ok (Some s)) = record { number = 0; values = s ∷ [] }

-- what a summary's refusal asks
abbrev pub summary_refusals : List ℤ → List Row
summary_refusals codes = (not (leb 1 (length codes) && leb (length codes) most_codes) gives CountWrong) ∷ []

-- ---- the first refusal that holds

-- its number, and 0 where none does
abbrev pub first_number : List Row → ℕ
first_number rows = decide rows number_of 0

-- r's condition holds, and none before it
abbrev pub First : List Row → Refusal → Type 0
First [] r = ⊥
First (row ∷ rows) r = ((row.holds ≡ true) × (row.refusal ≡ r)) ⊎ ((row.holds ≡ false) × First rows r)

-- the numbers of a question, in their order
abbrev pub order : List Row → List ℕ
order rows = map (λ row. number_of row.refusal) rows
