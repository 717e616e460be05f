-- What each function of the host answers, as the parts of one number.
-- Assumes nothing.
use Rattle.std.specs.Prelude.{cond, ◌||◌, List, [], ℕ, ◌+◌, ◌*◌, eqb, take, drop, Result, Ok, Err}
use Rattle.packing.specs.Packed.{Parts, refused, accepted}
use Rattle.records.specs.Commands.{payload_size}
use Rattle.ports.specs.declared.checks.Checked.{Checked}
use Rattle.ports.specs.declared.checks.Checked.TheVariants.{Right, CounterDiffers, Damaged}
use Rattle.ports.specs.declared.ports.Port.{Port}
use Rattle.ports.specs.declared.ports.Port.TheVariants.{A, B}
use Rattle.ports.specs.Ports.{place_a, place_b}
use Rattle.messages.specs.declared.verdicts.Verdict.{Verdict}
use Rattle.messages.specs.declared.verdicts.Verdict.TheVariants.{Passed, Failed, Damaged as MessageDamaged, TimedOut}
use Rattle.refusals.specs.declared.Refusal.{Refusal}

-- a host's frame: its length
abbrev pub built_parts : Result ℕ Refusal → Parts
built_parts (Err r) = refused r
built_parts (Ok size) = accepted 0 size

-- the check of one payload: 1 where it is right, 2 where it is damaged, 3 where its counter differs, with the one received
abbrev pub checked_parts : Result Checked Refusal → Parts
checked_parts (Err r) = refused r
checked_parts (Ok Right) = accepted 1 0
checked_parts (Ok Damaged) = accepted 2 0
checked_parts (Ok (CounterDiffers received)) = accepted 3 received

-- monitor k of n by two ports: 1 for port A, 2 for port B, 3 and 4 where their counter differs, and the byte of that port's reply that k's
-- eight start at
abbrev pub port_parts : ℕ → ℕ → Result Port Refusal → Parts
port_parts n k (Err r) = refused r
port_parts n k (Ok (A differs)) = accepted (cond differs 3 1) (place_a n k * payload_size)
port_parts n k (Ok (B differs)) = accepted (cond differs 4 2) (place_b n k * payload_size)

-- the eight bytes that such an answer points at, in one of the two replies; none where it is refused
abbrev pub pointed : Parts → List ℕ → List ℕ → List ℕ
pointed p a b =
    cond (eqb p.first 1 || eqb p.first 3) (take payload_size (drop p.second a))
    (cond (eqb p.first 2 || eqb p.first 4) (take payload_size (drop p.second b)) [])

-- the host's verdict on a heartbeat: 1 passed, 2 failed, with 256 times the count and the flags, 3 damaged, 4 timed out
abbrev pub verdict_parts : Result Verdict Refusal → Parts
verdict_parts (Err r) = refused r
verdict_parts (Ok Passed) = accepted 1 0
verdict_parts (Ok (Failed count flags)) = accepted 2 (256 * count + flags)
verdict_parts (Ok MessageDamaged) = accepted 3 0
verdict_parts (Ok TimedOut) = accepted 4 0
