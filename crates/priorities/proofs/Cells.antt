-- The bytes that hold a cell's DCC bit and its duty, by the record's own places, as the code reads them.
-- Assumes nothing.
use mathlib.Core.Path.{◌≡◌, sym, ap, ◌∙◌}
use mathlib.Core.Bool.{Bool, true, false, cond}
use mathlib.Core.List.{List}
use Prim.Native.Nat.{ℕ, ◌+◌, ◌-◌, ◌/◌, ◌≤◌, ◌<◌}
use native.Mathlib.Omega.{arith}
use lib.Dec.{leb}
use lib.ListN.{get_or}
use borrow.Author.Tests.{le-leb, lt-leb}
use Rattle.records.specs.Record.{cell_count, dcc_bits, pwm_a, pwm_b, bytes_of}
use Rattle.records.proofs.Parts.{byte_of-part}
use Rattle.priorities.specs.Switches.{duty_byte}

-- ---- as the code reads them

module _ (r : List ℕ) (c : ℕ) where
  pub dcc_byte : 1 ≤ c → c ≤ cell_count → get_or r (dcc_bits.at + (c - 1) / 8) 0 ≡ get_or (bytes_of dcc_bits r) ((c - 1) / 8) 0
  dcc_byte h k = sym (byte_of-part dcc_bits r (omega arith))

  in_group : (b : Bool) → leb c 12 ≡ b
      → cond b (get_or (bytes_of pwm_a r) ((c - 1) / 2) 0) (get_or (bytes_of pwm_b r) ((c - 13) / 2) 0) ≡ duty_byte r c
  unfolding duty_byte
  in_group b e = sym (ap (λ (t : Bool). cond t (get_or (bytes_of pwm_a r) ((c - 1) / 2) 0) (get_or (bytes_of pwm_b r) ((c - 13) / 2) 0)) e)

  pub in_group_a : 1 ≤ c → c ≤ 12 → get_or r (pwm_a.at + (c - 1) / 2) 0 ≡ duty_byte r c
  in_group_a h k = sym (byte_of-part pwm_a r (omega arith)) ∙ in_group true (le-leb c 12 k)

  pub in_group_b : 12 < c → c ≤ cell_count → get_or r (pwm_b.at + (c - 13) / 2) 0 ≡ duty_byte r c
  in_group_b h k = sym (byte_of-part pwm_b r (omega arith)) ∙ in_group false (lt-leb c 12 h)
