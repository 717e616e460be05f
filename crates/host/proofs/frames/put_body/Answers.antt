-- `host::frames::put_body` meets its contract, kind by kind.
-- Assumes nothing.
use mathlib.Core.Path.{◌≡◌, sym, ap, ◌∙◌, subst⁻¹}
use mathlib.Core.Logic.{◌⊎◌}
use mathlib.Core.List.{map}
use Prim.Native.Nat.{ℕ, ◌+◌, ◌*◌}
use native.Mathlib.Omega.{arith}
use Rattle.laws.specs.Rows.{rows}
use Rattle.wire.specs.Order.{write_data}
use Rattle.laying.specs.Placed.{placed}
use Rattle.laying.proofs.Placed.{placed-none}
use Rattle.records.specs.declared.commands.Command.{Command}
use Rattle.records.specs.Commands.{seal_size, frame_length}
use Rattle.records.proofs.Widths.{six_or_two}
use Rattle.host.specs.Frames.{head_size, sealed, body, value_count}
use Rattle.host.proofs.frames.put_body.Goals as goal

pub put_filler-requires : goal.put_filler-requires
put_filler-requires c =
    let start = c in
    let told = c.in-Reads.is in
    omega (arith, start.requires.2, ap (λ (k : Command). frame_length k start.args.n) told)

pub put_payloads-requires : goal.put_payloads-requires
put_payloads-requires c =
    let sized = c in
    let known = sized in
    let start = known in
    let size = sized.data_size-size.ensures.value in
    let told = known.in-Writes.is in (
      start.requires.0,
      subst⁻¹ (λ (m : ℕ). (m ≡ 6) ⊎ (m ≡ 2)) size (six_or_two known.in-Writes.what),
      start.requires.1 ∙ ap (λ (k : Command). value_count k start.args.n) told ∙ ap (λ (m : ℕ). m * start.args.n) (sym size),
      omega (arith, start.requires.2, ap (λ (m : ℕ). head_size + (m + seal_size) * start.args.n) size ∙ sym (ap (λ (k : Command). frame_length k start.args.n) told)),
    )

pub returns-in-Reads : goal.returns-in-Reads
unfolding body
returns-in-Reads c =
    let q = c.args in
    c.put_filler.ensures
    ∙ ap (λ (k : Command). placed head_size (body k q.n q.values.now) q.buffer.now) (sym c.in-Reads.is)

pub returns-in-Writes : goal.returns-in-Writes
unfolding body
returns-in-Writes c =
    let put = c in
    let sized = put in
    let known = sized in
    let q = known.args in
    put.put_payloads.ensures
    ∙ ap (λ (m : ℕ). placed head_size (write_data (map sealed (rows m q.n q.values.now))) q.buffer.now) sized.data_size-size.ensures.value
    ∙ ap (λ (k : Command). placed head_size (body k q.n q.values.now) q.buffer.now) (sym known.in-Writes.is)

pub returns-in-Bares : goal.returns-in-Bares
unfolding body
returns-in-Bares c =
    let q = c.args in
    sym (placed-none head_size q.buffer.now)
    ∙ ap (λ (k : Command). placed head_size (body k q.n q.values.now) q.buffer.now) (sym c.in-Bares.is)

pub returns-in-Unlisted : goal.returns-in-Unlisted
unfolding body
returns-in-Unlisted c =
    let q = c.args in
    sym (placed-none head_size q.buffer.now)
    ∙ ap (λ (k : Command). placed head_size (body k q.n q.values.now) q.buffer.now) (sym c.in-Unlisted.is)
