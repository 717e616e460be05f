-- Document 02, L7: a spike on the wire, by what was sent and what came. Bits are counted along the wire, the first byte's highest at 0.
-- Assumes nothing.
use Rattle.std.specs.Prelude.{◌≡◌, Bool, false, List, ℕ, ◌+◌, ◌≤◌, ◌<◌, length, get_or}
use Rattle.laws.specs.Bits.{bits_of_bytes, Bytes}

-- as many bits came, not all of them as they were sent; those that were turned over are among w places in a row, from `first` on: before
-- these and behind them every bit came as it was sent
pub record Burst (w : ℕ) (sent came : List Bool) : Type 0 where
  pub as_long : length came ≡ length sent
  pub some : came ≡ sent → ⊥
  pub first : ℕ
  pub before : (i : ℕ) → i < first → get_or came i false ≡ get_or sent i false
  pub behind : (i : ℕ) → first + w ≤ i → get_or came i false ≡ get_or sent i false

-- the same of bytes: their bits
pub record Spike (w : ℕ) (sent came : List ℕ) : Type 0 where
  pub sent_bytes : Bytes sent
  pub came-bytes : Bytes came
  pub burst : Burst w (bits_of_bytes sent) (bits_of_bytes came)
