-- `ports::ports::part_of` meets its contract, port by port.
-- Assumes nothing.
use mathlib.Core.Path.{sym, ap, ◌∙◌, subst⁻¹}
use mathlib.Core.List.{[]}
use Prim.Native.Nat.{ℕ, ◌+◌, ◌*◌, ◌≤◌}
use native.Mathlib.Nat.{add-zero}
use lib.ListN.{length}
use Rattle.std.specs.Prelude.{Ok}
use Rattle.records.specs.Commands.{payload_size}
use Rattle.ports.specs.Ports.{by_port}
use Rattle.ports.specs.Parts.{part}
use Rattle.ports.proofs.TwoPorts.{asked-a, asked-b, within_a, within_b}
use Rattle.ports.proofs.Handed.{in_a, in_b, handed}
use Rattle.ports.proofs.ports.part_of.Goals as goal

pub place_a-requires : goal.place_a-requires
place_a-requires c =
    let q = c.args in
    let asked = asked-a q.a.now q.b.now q.n q.k q.expected _ (sym c.port_of.ensures ∙ (c.in-Ok-A.is ∙ ap Ok c.in-Ok-A.field-0-is)) in
    (asked.first, asked.last)

pub part_at-requires : goal.part_at-requires
part_at-requires c =
    let q = c.args in
    subst⁻¹ (λ (at : ℕ). at * payload_size + payload_size ≤ length q.a.now) c.place_a.ensures
    (within_a q.a.now q.b.now q.n q.k (asked-a q.a.now q.b.now q.n q.k q.expected _ (sym c.port_of.ensures ∙ (c.in-Ok-A.is ∙ ap Ok c.in-Ok-A.field-0-is))))

pub place_b-requires : goal.place_b-requires
place_b-requires c =
    let q = c.args in
    let asked = asked-b q.a.now q.b.now q.n q.k q.expected _ (sym c.port_of.ensures ∙ (c.in-Ok-B.is ∙ ap Ok c.in-Ok-B.field-0-is)) in
    (asked.first, asked.last)

pub part_at-requires-in-Ok-B : goal.part_at-requires-in-Ok-B
part_at-requires-in-Ok-B c =
    let q = c.args in
    subst⁻¹ (λ (at : ℕ). at * payload_size + payload_size ≤ length q.b.now) c.place_b.ensures
    (within_b q.a.now q.b.now q.n q.k (asked-b q.a.now q.b.now q.n q.k q.expected _ (sym c.port_of.ensures ∙ (c.in-Ok-B.is ∙ ap Ok c.in-Ok-B.field-0-is))))

pub returns-in-Err : goal.returns-in-Err
returns-in-Err c =
    let q = c.args in
    let told = handed q.a q.b q.n q.k q.expected c.port_of.ensures
    (ap (λ (start : ℕ). record { block = q.a.ref_ptr.0; start = start; bytes = [] }) (sym (add-zero q.a.ref_ptr.1))
    ∙ ap (by_port (part q.a 0 0) (in_a q.a q.b q.n q.k) (in_b q.a q.b q.n q.k)) (sym c.in-Err.is)) in
    record { result_value = told.0; result_value_2 = told.1 }

pub returns-in-Ok-A : goal.returns-in-Ok-A
returns-in-Ok-A c =
    let q = c.args in
    let told = handed q.a q.b q.n q.k q.expected (sym (c.in-Ok-A.is ∙ ap Ok c.in-Ok-A.field-0-is) ∙ c.port_of.ensures)
    (c.part_at.ensures ∙ ap (λ (at : ℕ). part q.a (at * payload_size) payload_size) c.place_a.ensures) in
    record { result_value = told.0; result_value_2 = told.1 }

pub returns-in-Ok-B : goal.returns-in-Ok-B
returns-in-Ok-B c =
    let q = c.args in
    let told = handed q.a q.b q.n q.k q.expected (sym (c.in-Ok-B.is ∙ ap Ok c.in-Ok-B.field-0-is) ∙ c.port_of.ensures)
    (c.part_at-in-Ok-B.ensures ∙ ap (λ (at : ℕ). part q.b (at * payload_size) payload_size) c.place_b.ensures) in
    record { result_value = told.0; result_value_2 = told.1 }
