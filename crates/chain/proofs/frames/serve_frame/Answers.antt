-- `chain::frames::serve_frame` meets its contract: the table holds n whole records, and the payloads are what follows the first four bytes.
-- Assumes nothing.
use mathlib.Core.Path.{sym, ap, ◌∙◌}
use mathlib.Core.List.{List}
use Prim.Native.Nat.{ℕ}
use Rattle.laws.specs.Rows.{rows, joined, along}
use Rattle.wire.specs.Order.{write_payloads}
use Rattle.records.specs.Record.{record_size}
use Rattle.records.specs.Commands.{width_of}
use Rattle.monitor.specs.Effects.{keeps}
use Rattle.serving.specs.Served.{takers, payloads_in, taken_by, kept}
use Rattle.judging.proofs.Whole.{whole_records, where_so}
use Rattle.chain.proofs.frames.serve_frame.Goals as goal

pub returns : goal.returns
unfolding taken_by kept payloads_in
returns c =
    let a = c.args in
    let served = c.serve.ensures in
    let after = c.payloads_of.ensures in
    let pre = c.requires in
    let so = whole_records a.n a.table.now pre.1 pre.0 in
    record {
      value = served.value ∙ sym (where_so _ _ _ so) ∙ ap (λ (ps : List ℕ). takers a.command (rows record_size a.n a.table.now) (write_payloads (width_of a.command) a.n ps)) after;
      table_after = served.table_after
          ∙ sym (where_so _ _ _ so)
          ∙ ap (λ (ps : List ℕ). joined (along (λ r own. keeps a.command own r) (rows record_size a.n a.table.now) (write_payloads (width_of a.command) a.n ps))) after;
    }
