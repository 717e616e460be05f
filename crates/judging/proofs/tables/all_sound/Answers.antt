-- `judging::tables::all_sound` meets its contract.
-- Assumes nothing.
use Rattle.std.proofs.Common.{◌≡◌, arith, rules, refl}
use Rattle.records.specs.Record.{record_size}
use Rattle.std.specs.Iterator.Runs.{IsChunksExactRun}
use Rattle.judging.proofs.Chunks.{chunks-sound}
use Rattle.judging.proofs.tables.all_sound.Goals as goal

pub returns : goal.returns
returns c =
    let p = c.all.ensures.runs.0 in
    let from = c.all.ensures.runs.1 in
    let size : p.from.size ≡ record_size = cc in
    let rest : p.from.rest.now ≡ c.args.table.now = cc in
    let cut : IsChunksExactRun p record_size c.args.table.now = rw (size, rest) at (c.chunks_exact.ensures.runs p p.seen (omega arith)) in
    chunks-sound p c.args.table.now cut _ _ (λ a r f h. refl) (λ x r h. search rules) c.all.result c.all.ensures.runs.2
