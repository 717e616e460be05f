-- The bytes of the state that a caller lends: where its parts lie, and what each part says. The windows lie in one register, which has
-- room for a reply of each monitor.
-- Assumes nothing.
use Rattle.std.specs.Prelude.{cond, ◌&&◌, List, ℕ, ◌+◌, ◌*◌, eqb, leb, ltb, get_or, take, drop, replicate}
use Rattle.records.specs.Commands.{most_monitors, payload_size}
use Rattle.clock_state.specs.declared.state.Kind.{Kind}
use Rattle.clock_state.specs.declared.state.Kind.TheVariants.{Fills, Drains, Still}

-- ---- where the parts lie

-- how many bytes came: two bytes, low byte first
abbrev pub seen_at : ℕ
seen_at = 0

abbrev pub kind_at : ℕ
kind_at = 2

abbrev pub chained_at : ℕ
chained_at = 3

-- the first four bytes
abbrev pub head_at : ℕ
head_at = 4

abbrev pub windows_at : ℕ
windows_at = 8

abbrev pub state_size : ℕ
state_size = windows_at + payload_size * most_monitors

-- ---- what each part says

unfoldable pub seen_in : List ℕ → ℕ
seen_in s = get_or s seen_at 0 + get_or s (seen_at + 1) 0 * 256

-- of a write the width of its windows, which is more than the other two
abbrev pub kind_byte : Kind → ℕ
kind_byte Still = 0
kind_byte Drains = 1
kind_byte (Fills w) = w

-- the kind that a byte stands for, whatever byte it is: no window is wider than a reply
abbrev pub kind_by : ℕ → Kind
kind_by byte = cond (eqb byte (kind_byte Drains)) Drains (cond (ltb (kind_byte Drains) byte && leb byte payload_size) (Fills byte) Still)

unfoldable pub kind_in : List ℕ → Kind
kind_in s = kind_by (get_or s kind_at 0)

-- the bytes of one monitor in the register
abbrev pub width_in : Kind → ℕ
width_in (Fills w) = w
width_in Drains = payload_size
width_in Still = payload_size

-- no more monitors than a chain has
unfoldable pub chained_in : List ℕ → ℕ
chained_in s = cond (leb (get_or s chained_at 0) most_monitors) (get_or s chained_at 0) 0

unfoldable pub head_in : List ℕ → List ℕ
head_in s = take 4 (drop head_at s)

-- the register of n monitors that have w bytes each
unfoldable pub register_in : ℕ → ℕ → List ℕ → List ℕ
register_in w n s = take (w * n) (drop windows_at s)

-- before a frame: every byte is 0
unfoldable pub idle : List ℕ
idle = replicate state_size 0
