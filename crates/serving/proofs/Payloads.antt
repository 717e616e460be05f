-- Where a monitor's own bytes lie among the payloads of a frame, of any width, and that the code's way there does not overflow.
-- Assumes nothing.
use mathlib.Core.Path.{◌≡◌, sym, ap, ap₂, ◌∙◌}
use mathlib.Core.List.{List}
use Prim.Native.Nat.{ℕ, suc, ◌+◌, ◌-◌, ◌*◌, ◌≤◌, ◌<◌, min}
use native.Mathlib.Nat.{mul-le-mul, mul-le-mul_right, suc-mul}
use native.Mathlib.Omega.{arith}
use lib.ListN.{length, length-drop, take, drop}
use Rattle.std.proofs.lemmas.List.{take_min, drop_min}
use Rattle.laws.specs.Rows.{row_at}
use Rattle.records.specs.Commands.{most_monitors, payload_size}

module _ (w : ℕ) (payloads : List ℕ) (n k : ℕ) where
  -- counted back from the last: the code's way to the same place
  same_place : n - suc k ≡ n - 1 - k
  same_place = omega arith

  at_place : row_at w (n - suc k) payloads ≡ take w (drop ((n - 1 - k) * w) payloads)
  unfolding row_at
  at_place = ap (λ (j : ℕ). take w (drop (j * w) payloads)) same_place

  pub whole_part : (m : ℕ) → m ≡ w → take m (drop ((n - 1 - k) * w) payloads) ≡ row_at w (n - suc k) payloads
  whole_part m e = ap (λ (j : ℕ). take j (drop ((n - 1 - k) * w) payloads)) e ∙ sym at_place

  -- as much of it as the payloads have
  pub cut_part : {from to : ℕ} → from ≡ min ((n - 1 - k) * w) (length payloads) → to ≡ min ((n - 1 - k) * w + w) (length payloads)
      → take (to - from) (drop from payloads) ≡ row_at w (n - suc k) payloads
  cut_part {from} {to} its-from its-to =
      let at = (n - 1 - k) * w in
      let rest : drop from payloads ≡ drop at payloads = ap (λ (m : ℕ). drop m payloads) its-from ∙ drop_min at payloads in
      let size : to - from ≡ min w (length (drop at payloads)) = omega (arith, length-drop at payloads) in
      ap₂ (λ (m : ℕ) (xs : List ℕ). take m xs) size rest ∙ take_min w (drop at payloads) ∙ sym at_place

-- ---- no place among them overflows

pub ends_within : (w n k : ℕ) → k < n → (n - 1 - k) * w + w ≤ n * w
ends_within w n k h =
    let one : suc (n - 1 - k) ≤ n = omega arith in
    rw suc-mul at (mul-le-mul_right w one)

pub few_in_all : (w n : ℕ) → n ≤ most_monitors → w ≤ payload_size → n * w ≤ most_monitors * payload_size
few_in_all w n a b = mul-le-mul a b
