-- `reads::replies::shown_bytes` meets its contract: after the last turn the bytes are all six.
-- Assumes nothing.
use mathlib.Core.Path.{◌∙◌}
use native.Mathlib.Omega.{arith}
use lib.ListN.{length-set, get_or}
use Rattle.std.proofs.lemmas.List.Edits.{fill_by_more}
use Rattle.std.proofs.lemmas.List.FromFn.{fill_by_all}
use Rattle.laws.specs.Tables.{tabulate}
use Rattle.records.specs.Record.{bytes_of}
use Rattle.reads.specs.Reply.{six_bytes}
use Rattle.reads.proofs.replies.shown_bytes.Goals as goal

pub loop-i-preserved : goal.loop-i-preserved
loop-i-preserved c =
    let a = c.args in
    let so_far = c.loop-i.invariant in (
      length-set c.loop-i.bytes _ _ ∙ so_far.0,
      rw c.shown_byte.ensures (fill_by_more (λ i. get_or (bytes_of a.part a.rec.now) i 0xFF) _ _ 0 (omega (arith, so_far.0)) so_far.1),
    )

pub returns : goal.returns
unfolding six_bytes tabulate
returns c =
    let a = c.args in
    let done = c.loop-i.invariant in
    fill_by_all (λ i. get_or (bytes_of a.part a.rec.now) i 0xFF) c.loop-i.bytes 6 0 done.0 (λ k h. done.1 k (omega arith))
