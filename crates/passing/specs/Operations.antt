-- Document 02, L8: what is done to a table of a heartbeat, with its refusals. Elementary, so that a bench can damage a message on any hop: the manager at a
-- position wakes, a message reaches the monitor at a position, and the time runs out there. Composed: a whole heartbeat. What is sent is handed out at the
-- start of a buffer; where nothing is sent the buffer stays. Positions count from 1.
-- Assumes nothing.
use Rattle.std.specs.Prelude.{not, cond, List, [], ◌∷◌, ◌++◌, ℕ, ◌-◌, eqb, ltb, length, drop, Option, Some, None, Result, Ok, Err}
use Rattle.laws.specs.Rows.{row_at}
use Rattle.refusals.specs.declared.Refusal.TheVariants.{LengthWrong, NoRoom}
use Rattle.refusals.specs.Order.{Row, ◌gives◌, decide}
use Rattle.records.specs.Record.{record_size}
use Rattle.judging.specs.Table.{changed_at}
use Rattle.judging.specs.Refusals.{table_row, position_row}
use Rattle.messages.specs.Messages.{message_size}
use Rattle.heartbeats.specs.Steps.{is_timeout, towards_a, late}
use Rattle.passing.specs.declared.operations.Relayed.{Relayed}
use Rattle.passing.specs.declared.operations.Relayed.TheVariants.{Stopped, SentOn}
use Rattle.passing.specs.declared.operations.TimedOut.{TimedOut}
use Rattle.passing.specs.declared.operations.TimedOut.TheVariants.{NoTimeoutMonitor, RanOut}
use Rattle.passing.specs.Hops.{wake_sends, wake_leaves, hop_sends, hop_leaves, beat_sends, beat_leaves}
use Rattle.refusals.specs.declared.Refusal.{Refusal}
use Rattle.passing.specs.declared.operations.End.{End}
use Rattle.passing.specs.declared.operations.End.TheVariants.{A, B}

-- ---- the refusals, after 1 and 7, of the table and of the position

-- 5: of how many bytes came
abbrev pub message_row : ℕ → Row
message_row bytes = not (eqb bytes message_size) gives LengthWrong

-- 6: of the room for a message, also where none is sent
abbrev pub out_row : ℕ → Row
out_row room = ltb room message_size gives NoRoom

-- ---- what is handed out

-- at the start of a buffer; bytes past it stay, and all where there is nothing
unfoldable pub handed_out : List ℕ → List ℕ → List ℕ
handed_out bytes out = bytes ++ drop (length bytes) out

-- the end of the chain that the bytes are sent towards, as the record of the manager has it
unfoldable pub sent_towards : List ℕ → List ℕ → Option End
sent_towards r bytes = cond (eqb (length bytes) 0) None (cond (towards_a r) (Some A) (Some B))

-- ---- the manager at a position wakes. A monitor that is none is no refusal

unfoldable pub wake_refusals : List ℕ → ℕ → ℕ → List Row
wake_refusals table position room = table_row table ∷ position_row table position ∷ out_row room ∷ []

unfoldable pub woken_at : List ℕ → ℕ → ℕ → Result (Option End) Refusal
woken_at table position room =
    decide (wake_refusals table position room) Err (Ok (sent_towards (row_at record_size (position - 1) table) (wake_sends (position - 1) table)))

unfoldable pub table_after_wake : List ℕ → ℕ → ℕ → List ℕ
table_after_wake table position room = decide (wake_refusals table position room) (λ r. table) (wake_leaves (position - 1) table)

unfoldable pub out_after_wake : List ℕ → ℕ → List ℕ → List ℕ
out_after_wake table position out = decide (wake_refusals table position (length out)) (λ r. out) (handed_out (wake_sends (position - 1) table) out)

-- ---- a message reaches the monitor at a position

unfoldable pub relay_refusals : List ℕ → ℕ → ℕ → ℕ → List Row
relay_refusals table position bytes room = table_row table ∷ position_row table position ∷ message_row bytes ∷ out_row room ∷ []

abbrev pub sent_on : List ℕ → Relayed
sent_on bytes = cond (eqb (length bytes) 0) Stopped SentOn

unfoldable pub relayed_at : List ℕ → ℕ → List ℕ → ℕ → Result Relayed Refusal
relayed_at table position message room = decide (relay_refusals table position (length message) room) Err (Ok (sent_on (hop_sends (position - 1) message table)))

unfoldable pub table_after_relay : List ℕ → ℕ → List ℕ → ℕ → List ℕ
table_after_relay table position message room =
    decide (relay_refusals table position (length message) room) (λ r. table) (hop_leaves (position - 1) message table)

unfoldable pub out_after_relay : List ℕ → ℕ → List ℕ → List ℕ → List ℕ
out_after_relay table position message out =
    decide (relay_refusals table position (length message) (length out)) (λ r. out) (handed_out (hop_sends (position - 1) message table) out)

-- ---- a whole heartbeat, from the manager at a position to the end of the chain: refused as a wake is

unfoldable pub beaten : List ℕ → ℕ → ℕ → Result (Option End) Refusal
beaten table position room =
    decide (wake_refusals table position room) Err (Ok (sent_towards (row_at record_size (position - 1) table) (beat_sends (position - 1) table)))

unfoldable pub table_after_beat : List ℕ → ℕ → ℕ → List ℕ
table_after_beat table position room = decide (wake_refusals table position room) (λ r. table) (beat_leaves (position - 1) table)

unfoldable pub out_after_beat : List ℕ → ℕ → List ℕ → List ℕ
out_after_beat table position out = decide (wake_refusals table position (length out)) (λ r. out) (handed_out (beat_sends (position - 1) table) out)

-- ---- the time runs out at the monitor in a position. A monitor that is no timeout monitor in LPCM is no refusal

unfoldable pub time_out_refusals : List ℕ → ℕ → List Row
time_out_refusals table position = table_row table ∷ position_row table position ∷ []

abbrev pub ran_out : List ℕ → TimedOut
ran_out r = cond (is_timeout r) RanOut NoTimeoutMonitor

unfoldable pub timed_out : List ℕ → ℕ → Result TimedOut Refusal
timed_out table position = decide (time_out_refusals table position) Err (Ok (ran_out (row_at record_size (position - 1) table)))

unfoldable pub table_after_time_out : List ℕ → ℕ → List ℕ
table_after_time_out table position = decide (time_out_refusals table position) (λ r. table) (changed_at (position - 1) late table)
