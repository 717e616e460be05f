-- `cells::cells::compare` meets its contract: a loop that makes the flags' bytes anew. What a turn raises is what the record
-- as it came says, since the flags' bytes are no part of what is compared.
-- Assumes nothing.
use mathlib.Core.Path.{refl, ap, ◌∙◌}
use mathlib.Core.List.{List}
use Prim.Native.Nat.{ℕ, ◌+◌}
use native.Mathlib.Omega.{arith}
use lib.Bits.{bit_or}
use lib.ListN.{get_or}
use Rattle.records.specs.Record.{flags, on_bytes}
use Rattle.records.proofs.Answers.{is-record, no_record, left_alone, was_changed}
use Rattle.records.proofs.Making.{making_start, making_more, making_end}
use Rattle.cells.specs.Cells.{flag_byte, compare}
use Rattle.cells.proofs.Flags.{flag_byte_stays}
use Rattle.cells.proofs.cells.compare.Goals as goal

pub returns-then-rec-ne-RECORD_SIZE : goal.returns-then-rec-ne-RECORD_SIZE
returns-then-rec-ne-RECORD_SIZE c =
    let r = c.args.rec.now in
    let told = left_alone _ (compare r) r refl (no_record r c.if-rec-ne-RECORD_SIZE.true) refl in
    record { value = told.0; rec_after = told.1 }

pub loop-j-init : goal.loop-j-init
loop-j-init c = making_start _ _ _ _

pub loop-j-preserved : goal.loop-j-preserved
loop-j-preserved c =
    let l = c in
    let rec₀ = l.args.rec.now in
    let j = l.loop-j.j in
    making_more _ _ _ _ l.loop-j.invariant (omega arith)
    (ap (bit_or (get_or l.loop-j.rec (flags.at + j) 0))
    (c.flag_byte-raised.ensures ∙ ap (λ (r : List ℕ). flag_byte r j) l.loop-j.invariant.so_far ∙ flag_byte_stays _ j rec₀ j))

pub returns : goal.returns
unfolding compare on_bytes
returns c =
    let start = c in
    let r = start.args.rec.now in
    let told = was_changed _ (compare r) r refl (is-record r start.if-rec-ne-RECORD_SIZE.false) (making_end _ _ _ _ c.loop-j.invariant c.loop-j-test.false) in
    record { value = told.0; rec_after = told.1 }
