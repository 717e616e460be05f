-- `host::frames::put_payload` meets its contract: the data bytes of the monitor whose place it is go sealed into the buffer.
-- Assumes nothing.
use mathlib.Core.Path.{◌≡◌, ap, ◌∙◌, subst⁻¹}
use mathlib.Core.Logic.{◌⊎◌, inl, inr}
use mathlib.Core.List.{List}
use Prim.Native.Nat.{ℕ, ◌+◌, ◌-◌, ◌*◌, ◌≤◌, ◌<◌}
use native.Mathlib.Nat.{mul-le-mul}
use native.Mathlib.Omega.{arith}
use lib.ListN.{length, take, drop}
use Rattle.laws.specs.Rows.{row_at}
use Rattle.laws.proofs.Rows.{row_fits, length_row-at}
use Rattle.laying.specs.Placed.{placed}
use Rattle.records.specs.Commands.{most_monitors, seal_size, payload_size}
use Rattle.host.specs.Frames.{head_size, sealed}
use Rattle.host.proofs.Payloads.{payload_within}
use Rattle.host.proofs.frames.put_payload.Goals as goal

at-most-six : {size : ℕ} → (size ≡ 6) ⊎ (size ≡ 2) → size ≤ 6
at-most-six (inl e) = omega arith
at-most-six (inr e) = omega arith

-- what is lent are the bytes of a monitor
lent_row : (size m : ℕ) (values : List ℕ) → take (m * size + size - m * size) (drop (m * size) values) ≡ row_at size m values
unfolding row_at
lent_row size m values =
    let whole : m * size + size - m * size ≡ size = omega arith in
    ap (λ (k : ℕ). take k (drop (m * size) values)) whole

-- the places in the values and in the buffer are small, and the values have the monitor's bytes
module _ {i n size : ℕ} (below : i < n) (most : n ≤ most_monitors) (few : size ≤ 6) where
  from-small : (n - (i + 1)) * size ≤ most_monitors * 6
  from-small =
      let near : n - (i + 1) ≤ most_monitors = omega arith in
      mul-le-mul near few

  at_small : i * (size + seal_size) ≤ most_monitors * payload_size
  at_small =
      let near : i ≤ most_monitors = omega arith in
      let wide : size + seal_size ≤ payload_size = omega arith in
      mul-le-mul near wide

  row_within : {m : ℕ} → m ≡ size * n → (n - (i + 1)) * size + size ≤ m
  row_within {m} e = row_fits size {n = n} (omega arith) (omega arith)

pub overflow_mul-from : goal.overflow_mul-from
overflow_mul-from c =
    omega (arith, from-small c.requires.0 c.requires.1 (at-most-six c.requires.2))

pub overflow_add-to : goal.overflow_add-to
overflow_add-to c =
    let few = at-most-six c.requires.2 in
    omega (arith, from-small c.requires.0 c.requires.1 few, few)

pub overflow_add-at : goal.overflow_add-at
overflow_add-at c = omega (arith, at-most-six c.requires.2)

pub overflow_mul-at : goal.overflow_mul-at
overflow_mul-at c =
    omega (arith, at_small c.requires.0 c.requires.1 (at-most-six c.requires.2))

pub overflow_add-at-2 : goal.overflow_add-at-2
overflow_add-at-2 c =
    omega (arith, at_small c.requires.0 c.requires.1 (at-most-six c.requires.2))

pub slice_bounds-put_sealed-end : goal.slice_bounds-put_sealed-end
slice_bounds-put_sealed-end c =
    omega (arith, row_within c.requires.0 c.requires.1 (at-most-six c.requires.2) c.requires.3)

pub put_sealed-requires : goal.put_sealed-requires
put_sealed-requires c =
    let q = c.args in
    let m = q.n - (q.i + 1) in
    let own_row : length (row_at q.size m q.values.now) ≡ q.size =
    length_row-at q.size q.n q.values.now m (omega (arith, c.requires.0)) (omega (arith, c.requires.3)) in
    let long = ap length (lent_row q.size m q.values.now) ∙ own_row in
    (subst⁻¹ (λ (m : ℕ). (m ≡ 6) ⊎ (m ≡ 2)) long c.requires.2, omega (arith, long, payload_within q.size c.requires.0 c.requires.4))

pub returns : goal.returns
returns c =
    let q = c.args in
    c.put_sealed.ensures
    ∙ ap (λ (l : List ℕ). placed (head_size + q.i * (q.size + seal_size)) (sealed l) q.buffer.now) (lent_row q.size (q.n - (q.i + 1)) q.values.now)
