-- `host::frames::put_payloads` meets its contract. The loop's invariant: the payloads of the i farthest monitors are put.
-- Assumes nothing.
use mathlib.Core.Path.{◌≡◌, refl, sym, ap, ◌∙◌}
use mathlib.Core.List.{List}
use Prim.Native.Nat.{ℕ, ◌+◌, ◌-◌, ◌*◌, ◌<◌}
use native.Mathlib.Omega.{arith}
use lib.ListN.{length}
use Rattle.laws.specs.Rows.{row_at}
use Rattle.laying.specs.Placed.{placed}
use Rattle.laying.proofs.Placed.{placed-none, placed_more}
use Rattle.records.specs.Commands.{seal_size}
use Rattle.host.specs.Frames.{head_size, sealed}
use Rattle.host.proofs.Payloads.{payload_within, farthest, farthest_none, length_farthest, farthest_more, farthest_all}
use Rattle.host.proofs.frames.put_payloads.Goals as goal

pub loop-i-init : goal.loop-i-init
loop-i-init c =
    let start = c in
    let q = start.args in (
      refl,
      sym (ap (λ (l : List ℕ). placed head_size l q.buffer.now) (farthest_none q.size q.n q.values.now start.requires.2) ∙ placed-none head_size q.buffer.now),
    )

pub put_payload-requires : goal.put_payload-requires
put_payload-requires c =
    let start = c in
    (c.loop-i-test.true, start.requires.0, start.requires.1, start.requires.2, omega (arith, start.requires.3, c.loop-i.invariant.0))

pub loop-i-preserved : goal.loop-i-preserved
loop-i-preserved c =
    let l = c in
    let start = l in
    let size = start.args.size in
    let n = start.args.n in
    let values = start.args.values.now in
    let buffer = start.args.buffer.now in
    let i = l.loop-i.i in
    let below : i < n = c.loop-i-test.true in
    let own = row_at size (n - (i + 1)) values in
    let long : length (farthest size n values i) ≡ i * (size + seal_size) = length_farthest size n values start.requires.2 i (omega arith) in (
      c.put_payload.auto.buffer ∙ l.loop-i.invariant.0,
      c.put_payload.ensures
          ∙ ap (placed (head_size + i * (size + seal_size)) (sealed own)) l.loop-i.invariant.1
          ∙ placed_more head_size (head_size + i * (size + seal_size)) (farthest size n values i) buffer (ap (λ (m : ℕ). head_size + m) long) (omega (arith, payload_within size below start.requires.3)) (sealed own)
          ∙ ap (λ (b : List ℕ). placed head_size b buffer) (farthest_more size n values start.requires.2 i below),
    )

pub shape_of-buffer : goal.shape_of-buffer
shape_of-buffer c = c.loop-i.invariant.0

pub returns : goal.returns
returns c =
    let start = c in
    let q = start.args in
    let all : c.loop-i.i ≡ q.n = omega arith in
    c.loop-i.invariant.1
    ∙ ap (λ (b : List ℕ). placed head_size b q.buffer.now)
    (ap (farthest q.size q.n q.values.now) all ∙ farthest_all q.size q.n q.values.now start.requires.2)
