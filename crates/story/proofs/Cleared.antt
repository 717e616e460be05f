-- CLRCELL leaves every cell at -32768, the code that a comparison skips: its two bytes are 00 and 80.
-- Assumes nothing.
use mathlib.Core.Path.{◌≡◌, ap₂, ◌∙◌}
use mathlib.Core.Bool.{cond}
use mathlib.Core.List.{List}
use Prim.Native.Nat.{ℕ, ◌+◌, ◌*◌, ◌%◌, ◌<◌}
use native.Mathlib.Omega.{arith}
use lib.Dec.{eqb}
use lib.IntN.{negsuc}
use lib.ListN.{length, get_or}
use Rattle.records.specs.declared.commands.Bare.TheVariants.{Clrcell}
use Rattle.records.specs.Record.{cells, cell_count, record_size, bytes_of, byte_in, on_bytes}
use Rattle.records.proofs.Anew.{anew_inside}
use Rattle.records.proofs.Parts.{byte_of-part}
use Rattle.thresholds.specs.Thresholds.{signed}
use Rattle.monitor.specs.Effects.{cleared_byte, done}
use Rattle.cells.specs.Cells.{code_in, code_at}

module _ (r : List ℕ) (whole : length r ≡ record_size) where
  byte_cleared : (i : ℕ) → i < cells.size → get_or (bytes_of cells (done Clrcell r)) i 0 ≡ cleared_byte i
  unfolding done on_bytes
  byte_cleared i h = byte_of-part cells (done Clrcell r) h ∙ anew_inside _ cells.at cells.size r i h (omega arith)

  pub clrcell_clears : (c : ℕ) → c < cell_count → code_at (done Clrcell r) c ≡ record { 0 = negsuc 32767 }
  unfolding code_at code_in byte_in cleared_byte signed
  clrcell_clears c h =
      let even : 2 * c % 2 ≡ 0 = omega arith in
      let odd : (2 * c + 1) % 2 ≡ 1 = omega arith in
      ap₂ (λ (low high : ℕ). record { 0 = signed 16 (low + high * 256) }) (byte_cleared (2 * c) (omega arith)) (byte_cleared (2 * c + 1) (omega arith))
      ∙ ap₂ (λ (low high : ℕ). record { 0 = signed 16 (cond (eqb low 0) 0x00 0x80 + cond (eqb high 0) 0x00 0x80 * 256) }) even odd
