-- `door::hosts::osk_two_ports` meets its contract, port by port: where a port answers, the position is one of the chain's, so that
-- the offset fits.
-- Assumes nothing.
use mathlib.Core.Path.{sym, ap, ◌∙◌}
use Prim.Native.Nat.{ℕ, ◌-◌, ◌*◌}
use native.Mathlib.Omega.{arith}
use Rattle.std.specs.Prelude.{Ok}
use Rattle.records.specs.Commands.{payload_size}
use Rattle.ports.specs.Ports.{place_a, place_b}
use Rattle.ports.proofs.TwoPorts.{asked-a, asked-b}
use Rattle.packing.specs.Packed.{packed, accepted}
use Rattle.packing.proofs.Packed.{as_told}
use Rattle.door.specs.Answers.{port_parts}
use Rattle.door.proofs.hosts.osk_two_ports.Goals as goal

pub overflow_sub-position : goal.overflow_sub-position
overflow_sub-position c =
    let q = c.args in
    let asked = asked-a q.a.now q.b.now q.monitors q.position q.expected _ (sym c.port_of.ensures ∙ (c.in-Ok-A.is ∙ ap Ok c.in-Ok-A.field-0-is)) in
    omega arith

pub overflow_mul-position : goal.overflow_mul-position
overflow_mul-position c =
    let q = c.args in
    let asked = asked-a q.a.now q.b.now q.monitors q.position q.expected _ (sym c.port_of.ensures ∙ (c.in-Ok-A.is ∙ ap Ok c.in-Ok-A.field-0-is)) in
    omega arith

pub overflow_cast-position : goal.overflow_cast-position
overflow_cast-position c =
    let q = c.args in
    let asked = asked-a q.a.now q.b.now q.monitors q.position q.expected _ (sym c.port_of.ensures ∙ (c.in-Ok-A.is ∙ ap Ok c.in-Ok-A.field-0-is)) in
    omega arith

pub overflow_sub-monitors : goal.overflow_sub-monitors
overflow_sub-monitors c =
    let q = c.args in
    let asked = asked-b q.a.now q.b.now q.monitors q.position q.expected _ (sym c.port_of.ensures ∙ (c.in-Ok-B.is ∙ ap Ok c.in-Ok-B.field-0-is)) in
    omega arith

pub overflow_mul-monitors : goal.overflow_mul-monitors
overflow_mul-monitors c =
    let q = c.args in
    let asked = asked-b q.a.now q.b.now q.monitors q.position q.expected _ (sym c.port_of.ensures ∙ (c.in-Ok-B.is ∙ ap Ok c.in-Ok-B.field-0-is)) in
    omega arith

pub overflow_cast-monitors : goal.overflow_cast-monitors
overflow_cast-monitors c =
    let q = c.args in
    let asked = asked-b q.a.now q.b.now q.monitors q.position q.expected _ (sym c.port_of.ensures ∙ (c.in-Ok-B.is ∙ ap Ok c.in-Ok-B.field-0-is)) in
    omega arith

pub returns-in-Err : goal.returns-in-Err
returns-in-Err c =
    let q = c.args in
    as_told (port_parts q.monitors q.position) c.refused.ensures (sym c.in-Err.ensures)

pub returns-in-Ok-A : goal.returns-in-Ok-A
unfolding place_a
returns-in-Ok-A c =
    let q = c.args in
    as_told (port_parts q.monitors q.position) (c.accepted.ensures ∙ ap (λ (first : ℕ). packed (accepted first ((q.position - 1) * payload_size))) c.told.ensures)
    (sym c.port_of.ensures ∙ (c.in-Ok-A.is ∙ ap Ok c.in-Ok-A.field-0-is))

pub returns-in-Ok-B : goal.returns-in-Ok-B
unfolding place_b
returns-in-Ok-B c =
    let q = c.args in
    as_told (port_parts q.monitors q.position) (c.accepted-in-Ok-B.ensures ∙ ap (λ (first : ℕ). packed (accepted first ((q.monitors - q.position) * payload_size))) c.told-in-Ok-B.ensures)
    (sym c.port_of.ensures ∙ (c.in-Ok-B.is ∙ ap Ok c.in-Ok-B.field-0-is))
