-- Document 02, L8: the elementary operations in turn, as a bench does them: the manager at a position wakes, and what it was handed goes to the monitor at the next
-- position, and so on, until nothing is handed out. Positions count from 1. Each goes by what the functions promise.
-- Assumes nothing.
use Rattle.std.specs.Prelude.{cond, List, [], ◌∷◌, map, ℕ, suc, ◌-◌, eqb, length, take, Option, Some, None, Result, Ok, Err}
use Rattle.messages.specs.Messages.{message_size}
use Rattle.passing.specs.declared.operations.Relayed.{Relayed}
use Rattle.passing.specs.declared.operations.Relayed.TheVariants.{Stopped, SentOn}
use Rattle.passing.specs.Hops.{way_from}
use Rattle.passing.specs.Operations.{woken_at, table_after_wake, out_after_wake, relayed_at, table_after_relay, out_after_relay}
use Rattle.refusals.specs.declared.Refusal.{Refusal}
use Rattle.passing.specs.declared.operations.End.{End}
use Rattle.passing.specs.declared.operations.End.TheVariants.{A, B}

-- what was handed out: a message at the start of the buffer, or nothing
abbrev pub woke : Result (Option End) Refusal → List ℕ → List ℕ
woke (Err r) out = []
woke (Ok None) out = []
woke (Ok (Some A)) out = take message_size out
woke (Ok (Some B)) out = take message_size out

abbrev pub relayed : Result Relayed Refusal → List ℕ → List ℕ
relayed (Err r) out = []
relayed (Ok Stopped) out = []
relayed (Ok SentOn) out = take message_size out

-- to the monitors at positions, with a buffer that is lent anew for each hop
module _ (out : List ℕ) where
  unfoldable pub sent_in_turn : List ℕ → List ℕ → List ℕ → List ℕ
  sent_in_turn [] message table = message
  sent_in_turn (position ∷ positions) message table =
      cond (eqb (length message) 0) []
      (sent_in_turn positions (relayed (relayed_at table position message (length out)) (out_after_relay table position message out)) (table_after_relay table position message (length out)))

  unfoldable pub left_in_turn : List ℕ → List ℕ → List ℕ → List ℕ
  left_in_turn [] message table = table
  left_in_turn (position ∷ positions) message table =
      cond (eqb (length message) 0) table
      (left_in_turn positions (relayed (relayed_at table position message (length out)) (out_after_relay table position message out)) (table_after_relay table position message (length out)))

  -- from the manager at a position
  unfoldable pub sent_by_turns : List ℕ → ℕ → List ℕ
  sent_by_turns table position =
      sent_in_turn (map suc (way_from (position - 1) table)) (woke (woken_at table position (length out)) (out_after_wake table position out)) (table_after_wake table position (length out))

  unfoldable pub left_by_turns : List ℕ → ℕ → List ℕ
  left_by_turns table position =
      left_in_turn (map suc (way_from (position - 1) table)) (woke (woken_at table position (length out)) (out_after_wake table position out)) (table_after_wake table position (length out))
