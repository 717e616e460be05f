-- A sound table stays sound and keeps its monitors, whatever frame comes: what the monitors keep is so, and a refusal leaves the table.
-- Assumes nothing.
use mathlib.Core.Path.{◌≡◌}
use mathlib.Core.Bool.{true}
use mathlib.Core.List.{List}
use Prim.Native.Nat.{ℕ}
use Rattle.judging.specs.Table.{monitors, sound}
use Rattle.judging.specs.Refusals.{command_in}
use Rattle.serving.specs.Served.{kept}
use Rattle.chain.specs.Frame.{frame_refusals, table_after}
use Rattle.refusals.proofs.Decided.{either_way}
use Rattle.judging.proofs.Keeps.{Keeps, stays}
use Rattle.serving.proofs.Kept.{kept-keeps}

pub frame-keeps : (table frame : List ℕ) (room : ℕ) → sound table ≡ true → Keeps table (table_after table frame room)
unfolding table_after
frame-keeps table frame room s =
    either_way (Keeps table) (frame_refusals table frame room) (λ r. table) (kept (command_in frame) (monitors table) table frame) (λ r. stays table s) (kept-keeps (command_in frame) table frame s)

pub sound-after-frame : (table frame : List ℕ) (room : ℕ) → sound table ≡ true → sound (table_after table frame room) ≡ true
sound-after-frame table frame room s = (frame-keeps table frame room s).sound-after

pub monitors-after-frame : (table frame : List ℕ) (room : ℕ) → sound table ≡ true → monitors (table_after table frame room) ≡ monitors table
monitors-after-frame table frame room s = (frame-keeps table frame room s).monitors-after
