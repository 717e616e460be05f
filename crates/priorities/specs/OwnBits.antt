-- The bits of a record that are a cell's own, by their places: those that its output may go by. And a record with one bit flipped.
-- Assumes nothing.
use Rattle.std.specs.Prelude.{◌≡◌, cond, List, ◌⊎◌, ℕ, ◌+◌, ◌-◌, ◌/◌, ◌%◌, ◌^◌, ◌≤◌, ◌<◌, leb, get_or, set}
use Rattle.laws.specs.Bits.{◌⊕◌, odd}
use Rattle.records.specs.Record.{status_bits, dcc_bits, pwm_a, pwm_b}

-- a record with one bit of one of its bytes flipped, the lowest being 0
abbrev pub flipped : ℕ → ℕ → List ℕ → List ℕ
flipped at bit r = set r at (get_or r at 0 ⊕ 2 ^ bit)

-- the byte that holds a cell's duty, and the lowest of the duty's four bits there
abbrev pub duty_at : ℕ → ℕ
duty_at c = cond (leb c 12) (pwm_a.at + (c - 1) / 2) (pwm_b.at + (c - 13) / 2)

abbrev pub duty_bit : ℕ → ℕ
duty_bit c = cond (odd c) 0 4

-- a bit that a cell's output may go by: MUTE_ST, which is every cell's; the cell's DCC bit; one of its duty's four
abbrev pub Own : ℕ → ℕ → ℕ → Type 0
Own c at bit =
    ((at ≡ status_bits.at) × (bit ≡ 4))
    ⊎ (((at ≡ dcc_bits.at + (c - 1) / 8) × (bit ≡ (c - 1) % 8)) ⊎ ((at ≡ duty_at c) × ((duty_bit c ≤ bit) × (bit < duty_bit c + 4))))
