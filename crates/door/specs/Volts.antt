-- Readings at the surface: a reading as one f64, and a summary in three places of a buffer.
-- Assumes nothing.
use Rattle.std.specs.Prelude.{List, [], ◌∷◌, ℕ, ltb, Float, length, drop, Option, Some, None, Result, Ok, Err}
use Rattle.std.specs.Float.{nan}
use Rattle.refusals.specs.declared.Refusal.TheVariants.{NoRoom}
use Rattle.refusals.specs.Order.{Row, ◌gives◌, decide}
use Rattle.packing.specs.Packed.{Parts, refused, accepted}
use Rattle.refusals.specs.declared.Refusal.{Refusal}
use Rattle.readings.specs.declared.cell.Reading.{Reading}
use Rattle.readings.specs.declared.cell.Reading.TheVariants.{Volts, Cleared}
use Rattle.readings.specs.declared.pack_summary.Summary.{Summary}

-- a cleared cell has no voltage
abbrev pub volts_or_nan : Reading → Float
volts_or_nan (Volts volts) = volts
volts_or_nan Cleared = nan

-- ---- a summary

-- the lowest, the highest and the total
abbrev pub summary_size : ℕ
summary_size = 3

-- 6, behind the summary's own 8
abbrev pub room_row : ℕ → Row
room_row room = ltb room summary_size gives NoRoom

-- 1 and the number of cells not cleared, and 0 where there is no summary
abbrev pub summary_parts : Result (Option Summary) Refusal → ℕ → Parts
summary_parts (Err r) room = refused r
summary_parts (Ok None) room = decide (room_row room ∷ []) refused (accepted 0 0)
summary_parts (Ok (Some s)) room = decide (room_row room ∷ []) refused (accepted 1 s.cells)

-- at the start of a buffer; what lies past it stays, and all of it where there is none
abbrev pub summary_out : Result (Option Summary) Refusal → List Float → List Float
summary_out (Err r) out = out
summary_out (Ok None) out = out
summary_out (Ok (Some s)) out = decide (room_row (length out) ∷ []) (λ r. out) (s.lowest ∷ s.highest ∷ s.total ∷ drop summary_size out)
