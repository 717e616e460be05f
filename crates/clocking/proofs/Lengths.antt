-- A state keeps its length, whatever byte comes and whatever table is lent. By its parts: a store changes one byte, the replies of a
-- known read fit the register, and the register loses a byte in front and gains one behind.
-- Assumes nothing.
use mathlib.Core.Path.{◌≡◌, ◌∙◌}
use mathlib.Core.Bool.{Bool, true, false, cond}
use mathlib.Core.List.{List}
use Prim.Native.Nat.{ℕ, ◌*◌, ◌≤◌}
use native.Mathlib.Nat.{mul_comm}
use native.Mathlib.Omega.{arith}
use lib.Dec.{eqb, ltb}
use lib.ListN.{length, take, drop, length-append, length-drop, length-set}
use lib.Seq.{length-take-le}
use Rattle.records.specs.Commands.{most_monitors, payload_size}
use Rattle.judging.specs.Table.{monitors}
use Rattle.replying.proofs.OwnReply.{length-replied}
use Rattle.clock_state.specs.declared.state.Kind.{Kind}
use Rattle.clock_state.specs.declared.state.Kind.TheVariants.{Fills, Drains, Still}
use Rattle.clocking.specs.Clock.{known, far}
use Rattle.clock_state.specs.State.{windows_at, state_size, seen_in, kind_in, chained_in, head_in, width_in, register_in}
use Rattle.clock_state.proofs.Widths.{Wide, wide_in}
use Rattle.clocking.specs.Bytes.{counted, headed, noted, shifted, moved_on, taken_in, state_after}
use Rattle.clocking.proofs.Register.{chained-few, register-fits, length-register}
use Rattle.clocking.proofs.Known.{replies-fit}

-- the count
pub length-counted : (s : List ℕ) → length s ≡ state_size → length (counted s) ≡ state_size
unfolding counted
length-counted s sized = simp length-set sized

-- one of the first four bytes
pub length-headed : (byte : ℕ) (s : List ℕ) → length s ≡ state_size → length (headed byte s) ≡ state_size
unfolding headed
length-headed byte s sized = simp length-set sized

-- what the four bytes say, and a known read's replies
pub length-noted : (table s : List ℕ) → length s ≡ state_size → length (noted table s) ≡ state_size
unfolding noted
length-noted table s sized =
    let front : length (take windows_at s) ≡ windows_at = length-take-le windows_at s (omega arith) in
    let rest : length (drop windows_at s) ≡ payload_size * most_monitors = length-drop windows_at s ∙ omega arith in
    let stays = length-replied (known table (head_in s)) (monitors table) table (drop windows_at s) (omega (arith, replies-fit table (head_in s))) in
    simp (length-append, length-set) (omega arith)

-- the register moved on by a byte
pub length-shifted : {w : ℕ} (byte : ℕ) (s : List ℕ) → Wide w → length s ≡ state_size → length (shifted w byte s) ≡ state_size
unfolding shifted
length-shifted {w} byte s wide sized =
    let few : chained_in s ≤ most_monitors = chained-few s in
    let front : length (take windows_at s) ≡ windows_at = length-take-le windows_at s (omega arith) in
    let register : length (register_in w (chained_in s) s) ≡ chained_in s * w = length-register w (chained_in s) s wide few sized in
    simp (length-append, length-drop) (omega (arith, register-fits wide few, mul_comm w (chained_in s)))

-- a later byte, by the kind
pub length-moved_on : (kind : Kind) (byte : ℕ) (s : List ℕ) → Wide (width_in kind) → length s ≡ state_size → length (moved_on kind byte s) ≡ state_size
unfolding moved_on
length-moved_on (Fills w) byte s wide sized = length-shifted byte s wide sized
length-moved_on Drains byte s wide sized = length-shifted far s wide sized
length-moved_on Still byte s wide sized = sized

-- a byte by its place in the frame
pub length-taken_in : (table : List ℕ) (byte : ℕ) (s : List ℕ) → length s ≡ state_size → length (taken_in table byte s) ≡ state_size
unfolding taken_in
length-taken_in table byte s sized = go (ltb (seen_in s) 4) (eqb (seen_in s) 3)
  where
    go : (a b : Bool) → length (cond a (cond b (noted table (headed byte s)) (headed byte s)) (moved_on (kind_in s) byte s)) ≡ state_size
    go true true = length-noted table (headed byte s) (length-headed byte s sized)
    go true false = length-headed byte s sized
    go false b = length-moved_on (kind_in s) byte s (wide_in s) sized

-- all of it
pub length-state_after : (table : List ℕ) (byte : ℕ) (s : List ℕ) → length s ≡ state_size → length (state_after table byte s) ≡ state_size
unfolding state_after
length-state_after table byte s sized = length-counted (taken_in table byte s) (length-taken_in table byte s sized)
