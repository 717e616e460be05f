-- SNAP_ST goes by one byte, and so does CMC_EN: what leaves the byte leaves it.
-- Assumes nothing.
use mathlib.Core.Path.{◌≡◌, ap}
use mathlib.Core.List.{List, ◌++◌}
use Prim.Native.Nat.{ℕ, ◌<◌}
use lib.Dec.{lit≤}
use lib.ListN.{length}
use Rattle.laws.specs.Bits.{bit_at}
use Rattle.records.specs.Record.{status_bits, cmf1, snapped, in_lpcm, Outside, anew}
use Rattle.records.proofs.Parts.{byte_front, outside_byte}

pub snapped_front : (front rest : List ℕ) → status_bits.at < length front → snapped (front ++ rest) ≡ snapped front
unfolding snapped
snapped_front front rest h = ap (bit_at 5) (byte_front status_bits front rest h)

pub snapped_elsewhere : (f : ℕ → ℕ → ℕ) (at n : ℕ) (r : List ℕ) → Outside status_bits at n → snapped (anew f at n r) ≡ snapped r
unfolding snapped
snapped_elsewhere f at n r h = ap (bit_at 5) (outside_byte status_bits f at n r (lit≤ tt) h)

pub lpcm_front : (front rest : List ℕ) → cmf1.at < length front → in_lpcm (front ++ rest) ≡ in_lpcm front
unfolding in_lpcm
lpcm_front front rest h = ap (bit_at 7) (byte_front cmf1 front rest h)

pub lpcm_elsewhere : (f : ℕ → ℕ → ℕ) (at n : ℕ) (r : List ℕ) → Outside cmf1 at n → in_lpcm (anew f at n r) ≡ in_lpcm r
unfolding in_lpcm
lpcm_elsewhere f at n r h = ap (bit_at 7) (outside_byte cmf1 f at n r (lit≤ tt) h)
