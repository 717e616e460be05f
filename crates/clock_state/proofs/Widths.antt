-- How wide the windows of a state are: whatever its kind's byte is, they have bytes, and no more than a reply. A width that is more than
-- the bytes of the other two kinds, and no more than a reply, comes back from its byte.
-- Assumes nothing.
use mathlib.Core.Path.{◌≡◌, refl}
use mathlib.Core.Bool.{Bool, true, false, cond, ◌&&◌}
use mathlib.Core.List.{List}
use Prim.Native.Nat.{ℕ, ◌≤◌, ◌<◌}
use native.Mathlib.Omega.{arith}
use lib.Dec.{eqb, leb, ltb, lit≤, lit<}
use lib.ListN.{get_or}
use borrow.Author.Tests.{leb-true, ltb-true, ne_eqb, lt-ltb, le-leb}
use Rattle.records.specs.Commands.{payload_size}
use Rattle.clock_state.specs.declared.state.Kind.TheVariants.{Fills, Drains, Still}
use Rattle.clock_state.specs.State.{kind_at, kind_byte, kind_by, kind_in, width_in}

-- a width that a window can have: some bytes, and no more than a reply
pub record Wide (w : ℕ) : Type 0 where
  pub some : 0 < w
  pub most : w ≤ payload_size

-- a reply's
pub wide_reply : Wide payload_size
wide_reply = record { some = lit< tt; most = lit≤ tt }

-- the byte of a write's kind gives it back
pub fills_back : (w : ℕ) → kind_byte Drains < w → w ≤ payload_size → kind_by w ≡ Fills w
fills_back w low high = simp (ne_eqb w 1 (λ e. omega arith), lt-ltb 1 w low, le-leb w payload_size high)

-- by the tests that a byte is put to
wide_by : (byte : ℕ) (a b c : Bool) → ltb (kind_byte Drains) byte ≡ b → leb byte payload_size ≡ c → Wide (width_in (cond a Drains (cond (b && c) (Fills byte) Still)))
wide_by byte true b c e f = wide_reply
wide_by byte false false c e f = wide_reply
wide_by byte false true false e f = wide_reply
wide_by byte false true true e f = let low : kind_byte Drains < byte = ltb-true _ _ e in record { some = omega arith; most = leb-true _ _ f }

-- whatever the state is
pub wide_in : (s : List ℕ) → Wide (width_in (kind_in s))
unfolding kind_in
wide_in s = let byte = get_or s kind_at 0 in wide_by byte (eqb byte (kind_byte Drains)) (ltb (kind_byte Drains) byte) (leb byte payload_size) refl refl

-- of a write
pub wide_fills : (s : List ℕ) {w : ℕ} → kind_in s ≡ Fills w → Wide w
wide_fills s e = rw e at (wide_in s)
