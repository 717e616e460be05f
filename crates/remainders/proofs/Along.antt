-- The invariant of a loop along a byte string, bit by bit or through a table: the bytes from i on lead from the remainder
-- so far to the result.
-- Assumes nothing.
use mathlib.Core.Path.{◌≡◌, ap, ◌∙◌, subst⁻¹}
use mathlib.Core.List.{List}
use Prim.Native.Nat.{ℕ, ◌+◌, ◌^◌, ◌≤◌, ◌<◌}
use native.Mathlib.Omega.{arith}
use lib.ListN.{length, get_or, drop}
use Rattle.laws.specs.Bits.{bits_of, bits_of_bytes}
use Rattle.pec.specs.Remainder.{remainder}
use Rattle.pec.proofs.Remainder.{remainder-below, next_byte, no_byte}

pub record Along (w g start : ℕ) (bytes : List ℕ) (r i : ℕ) : Type 0 where
  pub within : i ≤ length bytes
  pub below : r < 2 ^ w
  pub leads : remainder w g r (bits_of_bytes (drop i bytes)) ≡ remainder w g start (bits_of_bytes bytes)

module _ (w g start : ℕ) (bytes : List ℕ) where
  pub along_more : {r s i : ℕ} → Along w g start bytes r i → i < length bytes → g < 2 ^ w
      → s ≡ remainder w g r (bits_of 8 (get_or bytes i 0)) → Along w g start bytes s (i + 1)
  along_more {r} {s} {i} a h hg e =
      record {
        within = omega arith;
        below = subst⁻¹ (λ (n : ℕ). n < 2 ^ w) e (remainder-below w (bits_of 8 (get_or bytes i 0)) hg a.below);
        leads = ap (λ (n : ℕ). remainder w g n (bits_of_bytes (drop (i + 1) bytes))) e ∙ next_byte w g r i bytes h ∙ a.leads;
      }

  pub along_end : {r i : ℕ} → Along w g start bytes r i → length bytes ≤ i → r ≡ remainder w g start (bits_of_bytes bytes)
  along_end {r} {i} a h = no_byte w g r i bytes h ∙ a.leads
