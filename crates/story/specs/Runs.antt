-- Demand 3's three runs: what a list of frames, with operations on the table between them, comes to: stores, compares, and a heartbeat in its parts and as
-- a whole. By the rules of demand 2; by whole frames; by bytes clocked one at a time. The last two are put together from what the functions of the engines
-- and of the operations promise. Each gives the table afterwards and, event by event, what was seen.
-- Assumes nothing.
use Rattle.std.specs.Prelude.{Bool, not, ◌&&◌, ◌||◌, List, [], ◌∷◌, map, ℕ, ◌-◌, ◌*◌, ◌≤◌, ℤ, length, take, drop, Option, Result, Ok, Err}
use Rattle.laws.specs.Counts.{count}
use Rattle.laws.specs.Rows.{rows, row_at, joined, along}
use Rattle.pec.specs.Words.{sealed_right}
use Rattle.wire.specs.Order.{reply_data}
use Rattle.refusals.specs.Order.{Row, decide}
use Rattle.records.specs.declared.commands.Command.{Command}
use Rattle.records.specs.declared.commands.Command.TheVariants.{Reads, Writes, Bares, Unlisted}
use Rattle.records.specs.declared.commands.Write.{Write}
use Rattle.records.specs.Record.{record_size, in_lpcm}
use Rattle.writes.specs.Writes.{rules_of}
use Rattle.monitor.specs.Effects.{keeps}
use Rattle.reads.specs.Reply.{reply}
use Rattle.records.specs.Commands.{data_size, payload_size, reply_length}
use Rattle.chain.specs.declared.frames.Answer.{Answer}
use Rattle.judging.specs.Table.{monitors, changed_at}
use Rattle.judging.specs.Refusals.{command_in, table_row, short_row, command_row, listed_row, length_row}
use Rattle.serving.specs.Served.{payloads_in}
use Rattle.chain.specs.Frame.{answer, table_after, reply_after}
use Rattle.chain.specs.Numbers.{numbers_of}
use Rattle.cells.specs.Cells.{store, compare}
use Rattle.loads.specs.Load.{store_refusals, stored, table_after_store, compare_refusals, compared, table_after_compare}
use Rattle.heartbeats.specs.Steps.{late}
use Rattle.passing.specs.declared.operations.Relayed.{Relayed}
use Rattle.passing.specs.declared.operations.TimedOut.{TimedOut}
use Rattle.passing.specs.Hops.{wake_sends, wake_leaves, hop_sends, hop_leaves, beat_sends, beat_leaves}
use Rattle.passing.specs.Operations.{
  handed_out,
  sent_towards,
  sent_on,
  ran_out,
  wake_refusals,
  woken_at,
  table_after_wake,
  out_after_wake,
  relay_refusals,
  relayed_at,
  table_after_relay,
  out_after_relay,
  beaten,
  table_after_beat,
  out_after_beat,
  time_out_refusals,
  timed_out,
  table_after_time_out,
}
use Rattle.clocking.specs.Clock.{answered}
use Rattle.releasing.specs.Release.{released, table_released}
use Rattle.clock_state.specs.State.{idle}
use Rattle.clocking.specs.Bytes.{clock_of, state_after}
use Rattle.refusals.specs.declared.Refusal.{Refusal}
use Rattle.chain.specs.Frame.{took}
use Rattle.passing.specs.declared.operations.End.{End}

-- ---- what happens to a chain, and what is seen of it

-- on the table, by no frame
pub data Operation : Type 0 where
  -- a position and the codes to store there
  Store : ℕ → List ℤ → Operation
  -- a position, whose stored cells are compared
  Compare : ℕ → Operation
  -- a position, where the manager wakes, and the buffer lent for what it sends
  Wake : ℕ → List ℕ → Operation
  -- a position, the bytes that reach the monitor there, and the buffer lent for what it sends on
  Relay : ℕ → List ℕ → List ℕ → Operation
  -- a position, where the manager starts a whole heartbeat, and the buffer lent for what leaves the chain
  Heartbeat : ℕ → List ℕ → Operation
  -- a position, where the time runs out
  TimeOut : ℕ → Operation

pub data Event : Type 0 where
  -- a frame's bytes
  Frame : List ℕ → Event
  Beside : Operation → Event

pub data Seen : Type 0 where
  -- a frame's answer and the bytes of its reply: none where it is refused or no read
  Answered : Result Answer Refusal → List ℕ → Seen
  StoreAnswered : Result (Unit {0}) Refusal → Seen
  CompareAnswered : Result (Unit {0}) Refusal → Seen
  -- with the lent buffer as it then is
  WakeAnswered : Result (Option End) Refusal → List ℕ → Seen
  RelayAnswered : Result Relayed Refusal → List ℕ → Seen
  HeartbeatAnswered : Result (Option End) Refusal → List ℕ → Seen
  TimeOutAnswered : Result TimedOut Refusal → Seen

-- the table afterwards, and what was seen, event by event
pub record Left : Type 0 where
  pub table : List ℕ
  pub seen : List Seen

-- what an event shows, before what the later ones leave
abbrev pub saw : Seen → Left → Left
saw one later = record { table = later.table; seen = one ∷ later.seen }

-- how many bytes of a reply an answer tells of
abbrev pub reply_bytes : Result Answer Refusal → ℕ
reply_bytes a = (numbers_of a).reply

-- ---- by the rules

-- what one event leaves
pub record Step : Type 0 where
  pub table : List ℕ
  pub seen : Seen

-- refusals 1 to 5, in their order: a full reply always has room
unfoldable pub rule_refusals : List ℕ → List ℕ → List Row
rule_refusals table frame =
    table_row table
    ∷ short_row (length frame)
    ∷ command_row (take 4 frame)
    ∷ listed_row frame
    ∷ length_row (length frame) (command_in frame) (monitors table)
    ∷ []

-- a monitor takes a write: it is not in LPCM, and its own bytes are right, or the write does not need its check right
unfoldable pub takes_write : Write → List ℕ → List ℕ → Bool
takes_write c r own = not (in_lpcm r) && (not (rules_of c).needs_check || sealed_right (data_size c) own)

-- how many of n monitors took a frame: of a write those that take it, each by its own record and its own bytes, of any other listed command all
unfoldable pub takers_of : Command → ℕ → List ℕ → List ℕ → ℕ
takers_of (Writes c) n table frame = count (λ took. took) (along (takes_write c) (rows record_size n table) (payloads_in (Writes c) frame n))
takers_of (Reads part) n table frame = n
takers_of (Bares c) n table frame = n
takers_of Unlisted n table frame = 0

-- what n monitors reply, nearest first
unfoldable pub replies : Command → ℕ → List ℕ → List ℕ
replies (Reads part) n table = reply_data (map (reply part) (rows record_size n table))
replies (Writes c) n table = []
replies (Bares c) n table = []
replies Unlisted n table = []

-- a frame that no refusal stops: each monitor keeps what the command makes of its own record and its own bytes
unfoldable pub obeyed : Command → ℕ → List ℕ → List ℕ → Step
obeyed c n table frame =
    record {
      table = joined (along (λ r own. keeps c own r) (rows record_size n table) (payloads_in c frame n));
      seen = Answered (took (takers_of c n table frame) (reply_length c n)) (replies c n table);
    }

-- a refusal gives its number and changes nothing
unfoldable pub operated : List ℕ → Operation → Step
operated table (Store position codes) =
    decide (store_refusals table position codes) (λ r. record { table = table; seen = StoreAnswered (Err r) })
    (record { table = changed_at (position - 1) (store codes) table; seen = StoreAnswered (Ok tt) })
operated table (Compare position) =
    decide (compare_refusals table position) (λ r. record { table = table; seen = CompareAnswered (Err r) })
    (record { table = changed_at (position - 1) compare table; seen = CompareAnswered (Ok tt) })
operated table (Wake position out) =
    let k = position - 1 in
    decide (wake_refusals table position (length out)) (λ r. record { table = table; seen = WakeAnswered (Err r) out })
    (record { table = wake_leaves k table; seen = WakeAnswered (Ok (sent_towards (row_at record_size k table) (wake_sends k table))) (handed_out (wake_sends k table) out) })
operated table (Relay position message out) =
    let k = position - 1 in
    decide (relay_refusals table position (length message) (length out)) (λ r. record { table = table; seen = RelayAnswered (Err r) out })
    (record { table = hop_leaves k message table; seen = RelayAnswered (Ok (sent_on (hop_sends k message table))) (handed_out (hop_sends k message table) out) })
operated table (Heartbeat position out) =
    let k = position - 1 in
    decide (wake_refusals table position (length out)) (λ r. record { table = table; seen = HeartbeatAnswered (Err r) out })
    (record { table = beat_leaves k table; seen = HeartbeatAnswered (Ok (sent_towards (row_at record_size k table) (beat_sends k table))) (handed_out (beat_sends k table) out) })
operated table (TimeOut position) =
    let k = position - 1 in
    decide (time_out_refusals table position) (λ r. record { table = table; seen = TimeOutAnswered (Err r) })
    (record { table = changed_at k late table; seen = TimeOutAnswered (Ok (ran_out (row_at record_size k table))) })

unfoldable pub ruled : List ℕ → Event → Step
ruled table (Frame frame) =
    decide (rule_refusals table frame) (λ r. record { table = table; seen = Answered (Err r) [] }) (obeyed (command_in frame) (monitors table) table frame)
ruled table (Beside operation) = operated table operation

unfoldable pub by_rules : List ℕ → List Event → Left
by_rules table [] = record { table = table; seen = [] }
by_rules table (event ∷ events) = saw (ruled table event).seen (by_rules (ruled table event).table events)

-- ---- an operation, which goes by no engine: `loads::store` promises `stored` and `table_after_store`, `loads::compare` `compared` and `table_after_compare`,
-- `passing::wake` `woken_at`, `table_after_wake` and `out_after_wake`, `passing::relay` `relayed_at`, `table_after_relay` and `out_after_relay`, `passing::heartbeat`
-- `beaten`, `table_after_beat` and `out_after_beat`, and `passing::time_out` `timed_out` and `table_after_time_out`

unfoldable pub promised : List ℕ → Operation → Step
promised table (Store position codes) = record { table = table_after_store table position codes; seen = StoreAnswered (stored table position codes) }
promised table (Compare position) = record { table = table_after_compare table position; seen = CompareAnswered (compared table position) }
promised table (Wake position out) =
    record { table = table_after_wake table position (length out); seen = WakeAnswered (woken_at table position (length out)) (out_after_wake table position out) }
promised table (Relay position message out) =
    record {
      table = table_after_relay table position message (length out);
      seen = RelayAnswered (relayed_at table position message (length out)) (out_after_relay table position message out);
    }
promised table (Heartbeat position out) =
    record { table = table_after_beat table position (length out); seen = HeartbeatAnswered (beaten table position (length out)) (out_after_beat table position out) }
promised table (TimeOut position) = record { table = table_after_time_out table position; seen = TimeOutAnswered (timed_out table position) }

-- ---- by whole frames: `chain::handle` promises `answer`, `table_after` and `reply_after`. A reply buffer is lent, and lent again as it was left; a reply is its
-- first bytes

unfoldable pub by_frames : List ℕ → List ℕ → List Event → Left
by_frames table buffer [] = record { table = table; seen = [] }
by_frames table buffer (Frame frame ∷ events) =
    let said = answer table frame (length buffer) in
    let left = reply_after table frame buffer in
    saw (Answered said (take (reply_bytes said) left)) (by_frames (table_after table frame (length buffer)) left events)
by_frames table buffer (Beside operation ∷ events) =
    let step = promised table operation in saw step.seen (by_frames step.table buffer events)

-- ---- by clocked bytes: `clocked::start` promises `idle` of the state, `clocked::clock` `state_after` and the byte `answered`, and
-- `clocked::release` `released`, `table_released`, and `idle` of the state. A state is lent, and lent again as it was left; a reply is
-- what came back after the fourth byte

-- the state after the bytes of a frame, one by one
unfoldable pub state_after_all : List ℕ → List ℕ → List ℕ → List ℕ
state_after_all table [] state = state
state_after_all table (byte ∷ bytes) state = state_after_all table bytes (state_after table byte state)

-- the byte that came back for each
unfoldable pub came_back : List ℕ → List ℕ → List ℕ → List ℕ
came_back table [] state = []
came_back table (byte ∷ bytes) state = answered (clock_of state) ∷ came_back table bytes (state_after table byte state)

-- a state that a frame is started with, whatever its bytes were
abbrev pub started : List ℕ → List ℕ
started state = idle

-- a frame is started, its bytes are clocked in, and it is released
unfoldable pub by_bytes : List ℕ → List ℕ → List Event → Left
by_bytes table state [] = record { table = table; seen = [] }
by_bytes table state (Frame frame ∷ events) =
    let clock = clock_of (state_after_all table frame (started state)) in
    let said = released clock table in
    let back = drop 4 (came_back table frame (started state)) in
    saw (Answered said (take (reply_bytes said) back)) (by_bytes (table_released clock table) idle events)
by_bytes table state (Beside operation ∷ events) =
    let step = promised table operation in saw step.seen (by_bytes step.table state events)

-- ---- by either engine

pub data Engine : Type 0 where
  -- lent a reply buffer
  WholeFrames : List ℕ → Engine
  -- lent a state
  ClockedBytes : List ℕ → Engine

-- a reply buffer has room for eight bytes a monitor; any state will do
abbrev pub Ready : Engine → List ℕ → Type 0
Ready (WholeFrames buffer) table = payload_size * monitors table ≤ length buffer
Ready (ClockedBytes state) table = Unit {0}

abbrev pub by : Engine → List ℕ → List Event → Left
by (WholeFrames buffer) table events = by_frames table buffer events
by (ClockedBytes state) table events = by_bytes table state events
