-- A refusal changes nothing: where the answer is a refusal, every lent buffer is as it was. The answer and the buffer go by the same
-- refusals, and an accepted answer is no refusal. That of a whole frame is in `chain`, that of a store, a compare and a load in `loads`.
-- Assumes nothing.
use mathlib.Core.Path.{◌≡◌, ap}
use mathlib.Core.Bool.{Bool, true, false, cond}
use mathlib.Core.List.{List, []}
use Prim.Native.Nat.{ℕ, ◌-◌}
use native.Mathlib.Omega.{arith}
use lib.Dec.{eqb}
use lib.ListN.{length}
use Rattle.passing.specs.declared.operations.TimedOut.{TimedOut}
use Rattle.passing.specs.declared.operations.Relayed.{Relayed}
use Rattle.passing.specs.declared.operations.End.{End}
use Rattle.laws.specs.Rows.{row_at}
use Rattle.refusals.specs.declared.Refusal.{Refusal}
use Rattle.records.specs.Record.{record_size}
use Rattle.chain.proofs.Refused.{accepted-apart}
use Rattle.refusals.proofs.Decided.{stays_so}
use Rattle.priorities.specs.declared.outputs.Events.{Events}
use Rattle.discharge.specs.Question.{discharge_refusals, discharged, outputs_after}
use Rattle.heartbeats.specs.Steps.{is_timeout, towards_a}
use Rattle.passing.specs.declared.operations.Relayed.TheVariants.{Stopped, SentOn}
use Rattle.passing.specs.declared.operations.TimedOut.TheVariants.{NoTimeoutMonitor, RanOut}
use Rattle.passing.specs.Hops.{hop_sends}
use Rattle.passing.specs.Operations.{sent_towards, wake_refusals, woken_at, table_after_wake, out_after_wake, relay_refusals, relayed_at, table_after_relay, out_after_relay, beaten, table_after_beat, out_after_beat, time_out_refusals, timed_out, table_after_time_out}
use Rattle.clocking.specs.Clock.{Clock}
use Rattle.releasing.specs.Release.{release_refusals, released, table_released}
use Rattle.releasing.specs.Look.{look_refusals, looked, out_after}
use Rattle.host.specs.Frames.{build_refusals, built, buffer_after}
use Rattle.ports.specs.Ports.{part_a, part_b, port_of, by_port}
use Rattle.ports.specs.Parts.{bytes_of}
use Rattle.std.specs.Prelude.{Some, None, Ok, Err, Option, Result}
use Rattle.passing.specs.declared.operations.End.TheVariants.{A, B}

-- a release
pub refused_release : (c : Clock) (table : List ℕ) (r : Refusal) → released c table ≡ Err r → table_released c table ≡ table
unfolding released table_released
refused_release c table r e = stays_so (release_refusals c table) Err _ r table _ (accepted-apart _ _ r) e

-- the discharge outputs
on-apart : (n : ℕ) (r : Refusal) → ◌≡◌ {A = Result ℕ Refusal} (Ok n) (Err r) → ⊥
on-apart n r e = let z : ◌≡◌ {A = ℕ} 0 1 = cc in omega arith

pub refused_discharge : (table : List ℕ) (position : ℕ) (events : Events) (phase : ℕ) (out : List ℕ) (r : Refusal)
    → discharged table position events phase (length out) ≡ Err r → outputs_after table position events phase out ≡ out
unfolding discharged outputs_after
refused_discharge table position events phase out r e =
    stays_so (discharge_refusals table position phase (length out)) Err _ r out _ (on-apart _ r) e

-- a heartbeat: what comes of it where no refusal holds is no refusal
sent_apart : (r bytes : List ℕ) (e : Refusal) → ◌≡◌ {A = Result (Option End) Refusal} (Ok (sent_towards r bytes)) (Err e) → ⊥
unfolding sent_towards
sent_apart r bytes e = by (eqb (length bytes) 0) (towards_a r)
  where
    by : (none toA : Bool) → ◌≡◌ {A = Result (Option End) Refusal} (Ok (cond none None (cond toA (Some A) (Some B)))) (Err e) → ⊥
    by true toA q = let z : ◌≡◌ {A = ℕ} 0 1 = cc in omega arith
    by false true q = let z : ◌≡◌ {A = ℕ} 0 1 = cc in omega arith
    by false false q = let z : ◌≡◌ {A = ℕ} 0 1 = cc in omega arith

module _ (table : List ℕ) (position : ℕ) (out : List ℕ) (r : Refusal) where
  pub refused_wake : woken_at table position (length out) ≡ Err r → (table_after_wake table position (length out) ≡ table) × (out_after_wake table position out ≡ out)
  unfolding woken_at table_after_wake out_after_wake
  refused_wake e =
      let rows = wake_refusals table position (length out) in
      (stays_so rows Err _ r table _ (sent_apart _ _ r) e, stays_so rows Err _ r out _ (sent_apart _ _ r) e)

  pub refused_beat : beaten table position (length out) ≡ Err r → (table_after_beat table position (length out) ≡ table) × (out_after_beat table position out ≡ out)
  unfolding beaten table_after_beat out_after_beat
  refused_beat e =
      let rows = wake_refusals table position (length out) in
      (stays_so rows Err _ r table _ (sent_apart _ _ r) e, stays_so rows Err _ r out _ (sent_apart _ _ r) e)

  pub refused_relay : (message : List ℕ) → relayed_at table position message (length out) ≡ Err r
      → (table_after_relay table position message (length out) ≡ table) × (out_after_relay table position message out ≡ out)
  unfolding relayed_at table_after_relay out_after_relay
  refused_relay message e =
      let rows = relay_refusals table position (length message) (length out) in
      let sent = apart (eqb (length (hop_sends (position - 1) message table)) 0) in
      (stays_so rows Err _ r table _ sent e, stays_so rows Err _ r out _ sent e)
    where
      apart : (none : Bool) → ◌≡◌ {A = Result Relayed Refusal} (Ok (cond none Stopped SentOn)) (Err r) → ⊥
      apart true q = let z : ◌≡◌ {A = ℕ} 0 1 = cc in omega arith
      apart false q = let z : ◌≡◌ {A = ℕ} 0 1 = cc in omega arith

pub refused_time : (table : List ℕ) (position : ℕ) (r : Refusal) → timed_out table position ≡ Err r → table_after_time_out table position ≡ table
unfolding timed_out table_after_time_out
refused_time table position r e =
    stays_so (time_out_refusals table position) Err _ r table _ (apart (is_timeout (row_at record_size (position - 1) table))) e
  where
    apart : (its : Bool) → ◌≡◌ {A = Result TimedOut Refusal} (Ok (cond its RanOut NoTimeoutMonitor)) (Err r) → ⊥
    apart true q = let z : ◌≡◌ {A = ℕ} 0 1 = cc in omega arith
    apart false q = let z : ◌≡◌ {A = ℕ} 0 1 = cc in omega arith

-- a look
holds-apart : (n : ℕ) (r : Refusal) → ◌≡◌ {A = Result ℕ Refusal} (Ok n) (Err r) → ⊥
holds-apart n r e = let z : ◌≡◌ {A = ℕ} 0 1 = cc in omega arith

pub refused_look : (c : Clock) (position : ℕ) (out : List ℕ) (r : Refusal) → looked c position (length out) ≡ Err r → out_after c position out ≡ out
unfolding looked out_after
refused_look c position out r e = stays_so (look_refusals c position (length out)) Err _ r out _ (holds-apart _ r) e

-- a host's frame
length-apart : (n : ℕ) (r : Refusal) → ◌≡◌ {A = Result ℕ Refusal} (Ok n) (Err r) → ⊥
length-apart n r e = let z : ◌≡◌ {A = ℕ} 0 1 = cc in omega arith

pub refused_build : (code n : ℕ) (values buffer : List ℕ) (r : Refusal) → built code n values (length buffer) ≡ Err r
    → buffer_after code n values buffer ≡ buffer
unfolding built buffer_after
refused_build code n values buffer r e = stays_so (build_refusals code n values (length buffer)) Err _ r buffer _ (length-apart _ r) e

-- two ports: beside a refusal number the part handed back is empty
pub refused-part : (a b : List ℕ) (n k expected : ℕ) (r : Refusal) → port_of a b n k expected ≡ Err r → bytes_of a b n k expected ≡ []
unfolding bytes_of
refused-part a b n k expected r e = ap (by_port [] (part_a a n k) (part_b b n k)) e
