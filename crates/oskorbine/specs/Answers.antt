-- What each function of the chain answers, as the parts of one number.
-- Assumes nothing.
use Rattle.packing.specs.Packed.{Parts, refused, accepted}
use Rattle.chain.specs.declared.frames.Answer.{Answer}
use Rattle.loads.specs.Numbers.{load_number}
use Rattle.messages.specs.Messages.{message_size}
use Rattle.passing.specs.declared.operations.Relayed.{Relayed}
use Rattle.passing.specs.declared.operations.Relayed.TheVariants.{Stopped, SentOn}
use Rattle.passing.specs.declared.operations.TimedOut.{TimedOut as Timed}
use Rattle.passing.specs.declared.operations.TimedOut.TheVariants.{NoTimeoutMonitor, RanOut}
use Rattle.std.specs.Prelude.{ℕ, Option, Some, None, Result, Ok, Err}
use Rattle.refusals.specs.declared.Refusal.{Refusal}
use Rattle.passing.specs.declared.operations.End.{End}
use Rattle.passing.specs.declared.operations.End.TheVariants.{A, B}

-- a frame, and a release: how many monitors took it, and the length of the reply
abbrev pub frame_parts : Result Answer Refusal → Parts
frame_parts (Err r) = refused r
frame_parts (Ok a) = accepted a.taken a.reply

-- a store, a compare and a load have no values
abbrev pub load_parts : Result (Unit {0}) Refusal → Parts
load_parts l = record { number = load_number l; first = 0; second = 0 }

-- the discharge outputs: how many are on
abbrev pub discharged_parts : Result ℕ Refusal → Parts
discharged_parts (Err r) = refused r
discharged_parts (Ok outputs) = accepted outputs 0

-- a manager that wakes, and a whole heartbeat: 1 where a message is sent towards port A, or left there, 2 where port B, and the bytes of the message
abbrev pub sent_parts : Result (Option End) Refusal → Parts
sent_parts (Err r) = refused r
sent_parts (Ok None) = accepted 0 0
sent_parts (Ok (Some A)) = accepted 1 message_size
sent_parts (Ok (Some B)) = accepted 2 message_size

-- a message that reaches a monitor: 1 where it is sent on, and its bytes
abbrev pub relayed_parts : Result Relayed Refusal → Parts
relayed_parts (Err r) = refused r
relayed_parts (Ok Stopped) = accepted 0 0
relayed_parts (Ok SentOn) = accepted 1 message_size

-- the time that runs out: 1 where it does so at a timeout monitor in LPCM
abbrev pub timed_parts : Result Timed Refusal → Parts
timed_parts (Err r) = refused r
timed_parts (Ok NoTimeoutMonitor) = accepted 0 0
timed_parts (Ok RanOut) = accepted 1 0

-- a look at a window: how many bytes it holds
abbrev pub looked_parts : Result ℕ Refusal → Parts
looked_parts (Err r) = refused r
looked_parts (Ok size) = accepted 0 size
