-- `monitor::effects::copy_cells` meets its contract: the cells are pasted at the part's place.
-- Assumes nothing.
use mathlib.Core.Path.{sym, ◌∙◌}
use native.Mathlib.Omega.{arith}
use lib.ListN.{length-drop, drop, get_or}
use lib.Seq.{get_or-drop}
use Rattle.records.specs.Record.{cells, bytes_of, on_bytes}
use Rattle.records.proofs.Parts.{byte_of-part}
use Rattle.records.proofs.Pasted.{anew-paste}
use Rattle.monitor.specs.Effects.{cells_to}
use Rattle.monitor.proofs.effects.copy_cells.Goals as goal

pub returns : goal.returns
unfolding cells_to on_bytes
returns c =
    let r = c.args.rec.now in
    c.copy_within.ensures.after
    ∙ anew-paste (λ i old. get_or (bytes_of cells r) i 0) c.args.to cells.size r (drop cells.at r) (omega arith)
    (omega (arith, length-drop cells.at r)) (λ i h. get_or-drop cells.at r i 0 ∙ sym (byte_of-part cells r h))
