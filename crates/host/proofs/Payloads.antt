-- The payloads of a write that has d data bytes for each monitor: each has d + 2 bytes and is right; laid end to end, the farthest monitor's
-- first, they grow by one payload a turn, the next nearer monitor's. By the laws of rows and of the order on the wire.
-- Assumes nothing.
use mathlib.Core.Path.{◌≡◌, refl, sym, ap, ◌∙◌}
use mathlib.Core.Bool.{true}
use mathlib.Core.List.{List, [], ◌∷◌, ◌++◌, map}
use Prim.Native.Nat.{ℕ, zero, suc, ◌+◌, ◌-◌, ◌*◌, ◌≤◌, ◌<◌}
use native.Mathlib.Nat.{mul_comm}
use native.Mathlib.Numerals.{add-one}
use native.Mathlib.Omega.{arith}
use lib.ListN.{length, get_or, take, length-append, length-map}
use lib.Seq.{length-take-le, take-suc, take_all}
use Rattle.laws.specs.Rows.{rows, row_at, joined}
use Rattle.laws.proofs.Lists.{get_d_map}
use Rattle.laws.proofs.Rows.{Every, row_fits, length-rows, row-at, every_rows, every_map, every_reverse, length-joined, joined_snoc}
use Rattle.pec.specs.Words.{two_bytes, seal, sealed_right}
use Rattle.pec.proofs.CheckWords.{own-right}
use Rattle.wire.specs.Order.{farthest_first, write_data, write_payloads}
use Rattle.wire.proofs.Order.{length-farthest_first, farthest_first-at, length-write_data, write_round}
use Rattle.records.specs.Commands.{seal_size}
use Rattle.host.specs.Frames.{head_size, sealed}

-- ---- one payload

pub length-sealed : {d : ℕ} (own : List ℕ) → length own ≡ d → length (sealed own) ≡ d + seal_size
unfolding sealed seal two_bytes
length-sealed own e = length-append own _ ∙ ap (λ (n : ℕ). n + seal_size) e

pub sealed-right : {d : ℕ} (own : List ℕ) → length own ≡ d → sealed_right d (sealed own) ≡ true
unfolding sealed
sealed-right {d} own e = own-right own 0 d e

-- it lies within a frame for n monitors, where its place is below n
pub payload_within : (d : ℕ) {i n m : ℕ} → i < n → head_size + (d + seal_size) * n ≤ m → head_size + i * (d + seal_size) + (d + seal_size) ≤ m
payload_within d {i} {n} h fits =
    let within = row_fits (d + seal_size) {m = n * (d + seal_size)} h (omega arith) in
    omega arith

every_take : (p : ℕ) (n : ℕ) (rs : List (List ℕ)) → Every p rs → Every p (take n rs)
every_take p zero rs e = tt
every_take p (suc n) [] e = tt
every_take p (suc n) (r ∷ rs) e = (e.0, every_take p n rs e.1)

-- ---- the payloads of n monitors

abbrev pub payloads : ℕ → ℕ → List ℕ → List (List ℕ)
payloads d n values = map sealed (rows d n values)

-- those of the i farthest monitors, as they are sent
pub farthest : ℕ → ℕ → List ℕ → ℕ → List ℕ
farthest d n values i = joined (take i (farthest_first (payloads d n values)))

module _ (d n : ℕ) (values : List ℕ) (e : length values ≡ d * n) where
  abbrev width : ℕ
  width = d + seal_size

  pub length-payloads : length (payloads d n values) ≡ n
  length-payloads = length-map (rows d n values) sealed ∙ length-rows d n values

  pub every_payloads : Every width (payloads d n values)
  every_payloads = every_map d width sealed (λ own l. length-sealed own l) (rows d n values) (every_rows d n values (omega arith))

  every_farthest : Every width (farthest_first (payloads d n values))
  unfolding farthest_first
  every_farthest = every_reverse width (payloads d n values) every_payloads

  length-all : length (farthest_first (payloads d n values)) ≡ n
  length-all = length-farthest_first (payloads d n values) ∙ length-payloads

  pub farthest_none : farthest d n values 0 ≡ []
  unfolding farthest joined
  farthest_none = refl

  pub length_farthest : (i : ℕ) → i ≤ n → length (farthest d n values i) ≡ i * width
  unfolding farthest
  length_farthest i h =
      let l = length-all in
      length-joined width (take i (farthest_first (payloads d n values))) (every_take width i (farthest_first (payloads d n values)) every_farthest)
      ∙ ap (λ (m : ℕ). m * width) (length-take-le i (farthest_first (payloads d n values)) (omega arith))

  -- the payload at i is that of the monitor at i counted from the far end
  payload_at : (i : ℕ) → i < n → get_or (farthest_first (payloads d n values)) i [] ≡ sealed (row_at d (n - (i + 1)) values)
  payload_at i h =
      let l = length-payloads in
      let r = length-rows d n values in
      let from_end : length (payloads d n values) - suc i ≡ n - (i + 1) = omega arith in
      farthest_first-at (payloads d n values) i [] (omega arith)
      ∙ ap (λ (m : ℕ). get_or (payloads d n values) m []) from_end
      ∙ get_d_map sealed (rows d n values) (n - (i + 1)) [] [] (omega arith)
      ∙ ap sealed (row-at d n values (n - (i + 1)) [] (omega arith))

  pub farthest_more : (i : ℕ) → i < n → farthest d n values i ++ sealed (row_at d (n - (i + 1)) values) ≡ farthest d n values (i + 1)
  unfolding farthest
  farthest_more i h =
      let l = length-all in
      let all : List (List ℕ) = farthest_first (payloads d n values) in
      ap (λ (r : List ℕ). joined (take i all) ++ r) (sym (payload_at i h))
      ∙ sym (joined_snoc (take i all) (get_or all i []))
      ∙ ap joined (sym (take-suc all i [] (omega arith)) ∙ ap (λ (m : ℕ). take m all) (sym (add-one i)))

  pub farthest_all : farthest d n values n ≡ write_data (payloads d n values)
  unfolding farthest write_data
  farthest_all = let l = length-all in ap joined (take_all n (farthest_first (payloads d n values)) (omega arith))

  -- ---- on the wire

  pub length_data : length (write_data (payloads d n values)) ≡ width * n
  length_data = length-write_data width (payloads d n values) every_payloads ∙ ap (λ (m : ℕ). m * width) length-payloads ∙ mul_comm n width

  -- each monitor gets its own data bytes, sealed
  pub payloads_round : write_payloads width n (write_data (payloads d n values)) ≡ payloads d n values
  payloads_round =
      ap (λ (m : ℕ). write_payloads width m (write_data (payloads d n values))) (sym length-payloads)
      ∙ write_round width (payloads d n values) every_payloads
