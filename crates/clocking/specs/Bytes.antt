-- The clock that the bytes of a state stand for, and what each byte of them becomes. In a write the farthest monitor's bytes of
-- the register come first, as many as a window is wide, filled from their end; in a read the nearest monitor's eight come first.
-- Assumes nothing.
use Rattle.std.specs.Prelude.{cond, List, [], ◌∷◌, ◌++◌, ℕ, ◌+◌, ◌-◌, ◌*◌, ◌/◌, ◌%◌, eqb, ltb, set, take, drop}
use Rattle.wire.specs.Order.{write_payloads, reply_parts}
use Rattle.wire.specs.Windows.{empty, held}
use Rattle.records.specs.Commands.{payload_size}
use Rattle.judging.specs.Table.{monitors}
use Rattle.replying.specs.Replied.{replied}
use Rattle.clock_state.specs.declared.state.Kind.{Kind}
use Rattle.clock_state.specs.declared.state.Kind.TheVariants.{Fills, Drains, Still}
use Rattle.clock_state.specs.State.{seen_at, kind_at, chained_at, head_at, windows_at, seen_in, kind_byte, kind_in, chained_in, head_in, width_in, register_in}
use Rattle.clocking.specs.Clock.{Clock, known, kind_of, chained_by, one_more, far}

-- ---- the clock that a state stands for

-- the monitors' windows, nearest monitor first
unfoldable pub windows_in : Kind → ℕ → ℕ → List ℕ → List (List ℕ)
windows_in (Fills w) seen n register = held w (seen - 4) (write_payloads w n register)
windows_in Drains seen n register = reply_parts payload_size n register
windows_in Still seen n register = empty n

unfoldable pub clock_of : List ℕ → Clock
clock_of s =
    let register = register_in (width_in (kind_in s)) (chained_in s) s in
    record { seen = seen_in s; head = head_in s; chained = chained_in s; kind = kind_in s; windows = windows_in (kind_in s) (seen_in s) (chained_in s) register }

-- ---- what the bytes become

-- the count of the bytes that came
unfoldable pub counted : List ℕ → List ℕ
counted s = set (set s seen_at (one_more (seen_in s) % 256)) (seen_at + 1) (one_more (seen_in s) / 256)

-- one of the first four bytes
unfoldable pub headed : ℕ → List ℕ → List ℕ
headed byte s = set s (head_at + seen_in s) byte

-- what the four bytes say, by the table that is lent with the fourth; a known read's replies
unfoldable pub noted : List ℕ → List ℕ → List ℕ
noted table s =
    set (set (take windows_at s) kind_at (kind_byte (kind_of (known table (head_in s))))) chained_at (chained_by table)
    ++ replied (known table (head_in s)) (monitors table) table (drop windows_at s)

-- the register of windows of w bytes moves on by one byte
unfoldable pub shifted : ℕ → ℕ → List ℕ → List ℕ
shifted w byte s = take windows_at s ++ drop 1 (register_in w (chained_in s) s ++ byte ∷ []) ++ drop (windows_at + w * chained_in s) s

unfoldable pub moved_on : Kind → ℕ → List ℕ → List ℕ
moved_on (Fills w) byte s = shifted w byte s
moved_on Drains byte s = shifted payload_size far s
moved_on Still byte s = s

-- a byte by its place in the frame
unfoldable pub taken_in : List ℕ → ℕ → List ℕ → List ℕ
taken_in table byte s =
    cond (ltb (seen_in s) 4) (cond (eqb (seen_in s) 3) (noted table (headed byte s)) (headed byte s)) (moved_on (kind_in s) byte s)

-- every byte of the state after one byte was clocked
unfoldable pub state_after : List ℕ → ℕ → List ℕ → List ℕ
state_after table byte s = counted (taken_in table byte s)
