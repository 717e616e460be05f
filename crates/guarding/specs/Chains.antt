-- Document 02, L8: the chains of which it is said what a heartbeat comes to, and what is counted and joined along them. Monitors are counted from 0 here, as
-- their records lie.
-- Assumes nothing.
use Rattle.std.specs.Prelude.{◌≡◌, Bool, true, false, not, ◌&&◌, List, [], ◌∷◌, ◌⊎◌, ℕ, suc, ◌+◌, ◌-◌, ◌%◌, ◌<◌, length, take, drop}
use Rattle.std.specs.Int.Bits.{bit_or}
use Rattle.laws.specs.Counts.{count}
use Rattle.laws.specs.Rows.{rows, row_at}
use Rattle.pec.specs.Spikes.{Spike}
use Rattle.records.specs.Record.{record_size, cmf0, in_lpcm, byte_of}
use Rattle.judging.specs.Table.{monitors, sound}
use Rattle.measuring.specs.Measuring.{measured, passes}
use Rattle.messages.specs.Messages.{message_size}
use Rattle.heartbeats.specs.Steps.{manages, is_manager, is_timeout, towards_a}

-- ---- the monitors of a chain

abbrev pub at : ℕ → List ℕ → List ℕ
at k table = row_at record_size k table

abbrev pub chain : List ℕ → List (List ℕ)
chain table = rows record_size (monitors table) table

-- in LPCM, no manager and no timeout monitor: it sends on what reaches it
unfoldable pub sends_on : List ℕ → Bool
sends_on r = in_lpcm r && not (manages r) && not (is_timeout r)

-- one manager in LPCM, at k, which sends towards port A or not; every other monitor sends on
pub record Guarded (toA : Bool) (k : ℕ) (table : List ℕ) : Type 0 where
  pub its-sound : sound table ≡ true
  pub there : k < monitors table
  pub manager : is_manager (at k table) ≡ true
  pub direction : towards_a (at k table) ≡ toA
  pub others : (j : ℕ) → j < monitors table → (j ≡ k → ⊥) → sends_on (at j table) ≡ true

-- the manager is at the end of the chain that it sends away from: at the far end, towards the host, or at the near end
abbrev pub FromTheEnd : Bool → ℕ → ℕ → Type 0
FromTheEnd toA k n = ((toA ≡ true) × (suc k ≡ n)) ⊎ ((toA ≡ false) × (k ≡ 0))

-- a manager at the far end that sends towards the host, and a timeout monitor nearest the host; every monitor between them sends on
pub record Watched (k : ℕ) (table : List ℕ) : Type 0 where
  pub its-sound : sound table ≡ true
  pub far : suc k ≡ monitors table
  pub two : 0 < k
  pub manager : is_manager (at k table) ≡ true
  pub direction : towards_a (at k table) ≡ true
  pub watch : is_timeout (at 0 table) ≡ true
  pub between : (j : ℕ) → 0 < j → j < k → sends_on (at j table) ≡ true

-- ---- what is counted and joined

-- how many monitors pass
unfoldable pub passing : List (List ℕ) → ℕ
passing rs = count passes rs

-- the union of their flags
unfoldable pub union : List (List ℕ) → ℕ
union [] = 0
union (r ∷ rs) = bit_or (byte_of cmf0 (measured r)) (union rs)

-- one number less another, in eight bits
unfoldable pub less : ℕ → ℕ → ℕ
less a b = (a + (256 - b % 256)) % 256

-- ---- damage on the wire

-- one bit or more turned over within ten places in a row of the last four bytes, or within fifteen of the first four, whatever came of the others
abbrev pub Struck : List ℕ → List ℕ → Type 0
Struck sent came = (length came ≡ message_size) × (Spike 10 (drop 4 sent) (drop 4 came) ⊎ Spike 15 (take 4 sent) (take 4 came))
