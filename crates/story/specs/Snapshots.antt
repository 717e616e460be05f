-- Document 02, L6: what becomes of SNAP_ST; and through frames, what a read shows that stands somewhere in a list of events.
-- Assumes nothing.
use Rattle.std.specs.Prelude.{◌≡◌, Bool, true, false, List, [], ◌∷◌, ◌++◌, ℕ, zero, suc, length, take}
use Rattle.laws.specs.Rows.{row_at, joined}
use Rattle.pec.specs.Words.{command_right}
use Rattle.refusals.specs.Order.{Passed}
use Rattle.records.specs.declared.commands.Bare.{Bare}
use Rattle.records.specs.declared.commands.Bare.TheVariants.{Mute, Unmute, Rstcc, Ulrr, Clrcell, Snap, Unsnap, Cmen, Cmdis}
use Rattle.records.specs.declared.commands.Command.{Command}
use Rattle.records.specs.declared.commands.Command.TheVariants.{Reads, Writes, Bares, Unlisted}
use Rattle.records.specs.declared.record.Part.{Part}
use Rattle.records.specs.Commands.{rdcva, rdcvb, rdcvc, rdcvd, rdcve, rdcvf, register_size, payload_size}
use Rattle.judging.specs.Refusals.{command_in}
use Rattle.story.specs.Runs.{Event, Frame, Beside, Seen, Answered, StoreAnswered, CompareAnswered, WakeAnswered, RelayAnswered, HeartbeatAnswered, TimeOutAnswered, rule_refusals}

-- ---- SNAP_ST after a command

abbrev pub snapped_by : Bare → Bool → Bool
snapped_by Mute on = on
snapped_by Unmute on = on
snapped_by Rstcc on = on
snapped_by Ulrr on = on
snapped_by Clrcell on = on
snapped_by Snap on = true
snapped_by Unsnap on = false
snapped_by Cmen on = on
snapped_by Cmdis on = on

abbrev pub snapped_after : Command → Bool → Bool
snapped_after (Reads p) on = on
snapped_after (Writes c) on = on
snapped_after (Bares c) on = snapped_by c on
snapped_after Unlisted on = on

-- ---- lists of events without some one bare command

-- an event that is one: its four bytes, with their check right
abbrev pub Is : Bare → Event → Type 0
Is c (Frame frame) = (length frame ≡ 4) × ((command_right (take 4 frame) ≡ true) × (command_in frame ≡ Bares c))
Is c (Beside operation) = ⊥

abbrev pub Without : Bare → List Event → Type 0
Without c [] = Unit {0}
Without c (event ∷ events) = (Is c event → ⊥) × Without c events

-- ---- what a monitor shows

-- the reply that was seen of an event; none of an operation beside frames
abbrev pub reply_of : Seen → List ℕ
reply_of (Answered said bytes) = bytes
reply_of (StoreAnswered said) = []
reply_of (CompareAnswered said) = []
reply_of (WakeAnswered said out) = []
reply_of (RelayAnswered said out) = []
reply_of (HeartbeatAnswered said out) = []
reply_of (TimeOutAnswered said) = []

-- and at a place of what was seen, counted from 0
abbrev pub reply_at : ℕ → List Seen → List ℕ
reply_at i [] = []
reply_at zero (one ∷ later) = reply_of one
reply_at (suc i) (one ∷ later) = reply_at i later

-- what the monitor at k shows in a reply: the first six of its eight bytes
abbrev pub shown_at : ℕ → List ℕ → List ℕ
shown_at k reply = take register_size (row_at payload_size k reply)

-- and of a read that stands behind a first frame and other events, in what was seen of them all
abbrev pub shown_behind : List Event → ℕ → List Seen → List ℕ
shown_behind before k seen = shown_at k (reply_at (suc (length before)) seen)

-- a read of a part that stands in a list of events, with no c before it. It is accepted, by the table that the events begin with: what
-- is accepted of a frame goes by the table's soundness and its monitors alone, and both stay
pub record ReadIn (c : Bare) (events : List Event) (table : List ℕ) (p : Part) : Type 0 where
  pub before : List Event
  pub frame : List ℕ
  pub after : List Event
  pub there : before ++ Frame frame ∷ after ≡ events
  pub quiet : Without c before
  pub accepted : Passed (rule_refusals table frame)
  pub its : command_in frame ≡ Reads p

-- a long read: the six cell reads, each somewhere in a list of events, with no UNSNAP before it
pub record LongRead (events : List Event) (table : List ℕ) : Type 0 where
  pub a : ReadIn Unsnap events table rdcva
  pub b : ReadIn Unsnap events table rdcvb
  pub c : ReadIn Unsnap events table rdcvc
  pub d : ReadIn Unsnap events table rdcvd
  pub e : ReadIn Unsnap events table rdcve
  pub f : ReadIn Unsnap events table rdcvf

-- and what the monitor at k shows in it, from cell 1 on
abbrev pub long_shown : {events : List Event} {table : List ℕ} → LongRead events table → ℕ → List Seen → List ℕ
long_shown reads k seen =
    joined
    (shown_behind reads.a.before k seen
    ∷ shown_behind reads.b.before k seen
    ∷ shown_behind reads.c.before k seen
    ∷ shown_behind reads.d.before k seen
    ∷ shown_behind reads.e.before k seen
    ∷ shown_behind reads.f.before k seen
    ∷ [])
