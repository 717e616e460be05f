-- Two chains of two, written down byte by byte, so that what is said of guarded and of watched chains is said of something: the far monitor manages, 44 (hex)
-- devices, towards the host; the near one sends on, or is the timeout monitor. Their cells and thresholds are 0, and so both pass.
-- Assumes nothing.
use mathlib.Core.Path.{◌≡◌, refl}
use mathlib.Core.Bool.{true}
use mathlib.Core.List.{List, [], ◌∷◌, ◌++◌}
use mathlib.Core.Logic.{inl}
use Prim.Native.Nat.{ℕ, zero, suc, ◌<◌}
use native.Mathlib.Omega.{arith}
use lib.Dec.{lit<}
use lib.ListN.{replicate}
use Rattle.laws.specs.Bits.{odd, bit_at}
use Rattle.laws.specs.Counts.{all}
use Rattle.laws.specs.Rows.{rows, row_at}
use Rattle.records.specs.Record.{in_lpcm, bytes_of, byte_in, byte_of, record_sound}
use Rattle.judging.specs.Table.{monitors, sound}
use Rattle.heartbeats.specs.Steps.{manages, is_manager, is_timeout, ndev, towards_a}
use Rattle.guarding.specs.Chains.{at, sends_on, Guarded, FromTheEnd, Watched}

-- a record of zeros but for the first five bytes of LPCM's configuration and CMF1
zeros_but : List ℕ → List ℕ
zeros_but configuration = replicate 114 0 ++ configuration ++ replicate 14 0 ++ 0x80 ∷ replicate 36 0

manager : List ℕ
manager = zeros_but (0x80 ∷ 0x44 ∷ 0 ∷ 0 ∷ 0x20 ∷ [])

pub guarded_two : List ℕ
guarded_two = zeros_but (0 ∷ 0 ∷ 0 ∷ 0 ∷ 0 ∷ []) ++ manager

pub watched_two : List ℕ
watched_two = zeros_but (0x08 ∷ 0 ∷ 0 ∷ 0 ∷ 0 ∷ []) ++ manager

pub record Examples : Type 0 where
  pub guarded : Guarded true 1 guarded_two × FromTheEnd true 1 (monitors guarded_two)
  pub watched : Watched 1 watched_two
  pub devices : (ndev (at 1 guarded_two) ≡ 0x44) × (ndev (at 1 watched_two) ≡ 0x44)

pub examples : Examples
unfolding guarded_two watched_two manager zeros_but sound monitors record_sound rows row_at all in_lpcm byte_of byte_in bit_at odd manages is_manager is_timeout ndev towards_a sends_on bytes_of
examples =
    record {
      guarded = (record { its-sound = refl; there = lit< tt; manager = refl; direction = refl; others = others }, inl (refl, refl));
      watched =
          record { its-sound = refl; far = refl; two = lit< tt; manager = refl; direction = refl; watch = refl; between = λ j a b. absurd (omega arith) };
      devices = (refl, refl);
    }
  where
    others : (j : ℕ) → j < monitors guarded_two → (j ≡ 1 → ⊥) → sends_on (at j guarded_two) ≡ true
    others zero h apart = refl
    others (suc zero) h apart = absurd (apart refl)
    others (suc (suc j)) h apart = absurd (omega arith)
