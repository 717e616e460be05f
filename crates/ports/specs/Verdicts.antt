-- Document 02, L5: the verdicts on eight bytes, against the counter that the host expects.
-- Assumes nothing.
use Rattle.std.specs.Prelude.{Bool, not, ◌&&◌, List, ℕ, eqb, ltb}
use Rattle.pec.specs.Words.{counter_of, payload_right}
use Rattle.refusals.specs.declared.Refusal.TheVariants.{PositionWrong}
use Rattle.refusals.specs.Order.{Row, ◌gives◌}
use Rattle.records.specs.Record.{most_count}

-- ---- the three

-- their check is wrong, whatever counter they carry
unfoldable pub is_damaged : List ℕ → Bool
is_damaged eight = not (payload_right eight)

-- their check is right, and so is their counter
unfoldable pub is_right : List ℕ → ℕ → Bool
is_right eight expected = payload_right eight && eqb (counter_of eight) expected

-- their check is right, but their counter differs
unfoldable pub counter_differs : List ℕ → ℕ → Bool
counter_differs eight expected = payload_right eight && not (eqb (counter_of eight) expected)

-- ---- which counters may be expected

-- none above 63
unfoldable pub counter_row : ℕ → Row
counter_row expected = ltb most_count expected gives PositionWrong
