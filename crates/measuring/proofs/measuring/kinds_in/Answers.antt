-- `measuring::measuring::kinds_in` meets its contract: a loop over the cells, with those before c found.
-- Assumes nothing.
use mathlib.Core.Path.{◌≡◌, refl, sym, ap, ap₂, ◌∙◌}
use mathlib.Core.Bool.{cond}
use mathlib.Core.List.{List}
use Prim.Native.Nat.{ℕ, ◌*◌}
use native.Mathlib.Numerals.{add-one}
use native.Mathlib.Omega.{arith}
use lib.Bits.{bit_or}
use lib.IntN.{pos}
use Rattle.records.specs.Record.{cell_count, cells, last_cells}
use Rattle.thresholds.specs.Thresholds.{codes_of}
use Rattle.cells.specs.Cells.{code_in}
use Rattle.measuring.specs.declared.measuring.Limits.{Limits}
use Rattle.measuring.specs.Measuring.{cuv, cov, cdv, masked, kinds, kinds_of, kinds_in}
use Rattle.measuring.proofs.measuring.kinds_in.Goals as goal

-- the kinds of a cell, by the record's limits
by_limits : (r : List ℕ) (cell : ℕ) {limits : Limits} → limits.low ≡ codes_of (cuv r) → limits.high ≡ codes_of (cov r) → limits.step ≡ pos (8 * cdv r)
    → cond (masked r cell) 0 (kinds (code_in cells r cell).0 (code_in last_cells r cell).0 limits.low.0 limits.high.0 limits.step) ≡ kinds_of r cell
unfolding kinds_of
by_limits r cell l h s = rw (l, h, s)

pub loop-c-init : goal.loop-c-init
unfolding kinds_in
loop-c-init c = refl

pub loop-c-preserved : goal.loop-c-preserved
unfolding kinds_in
loop-c-preserved c =
    let r = c.args.rec.now in
    let i = c.loop-c.c in
    let limits = c.of-limits.ensures in
    ap₂ bit_or c.loop-c.invariant (c.kinds_of-all.ensures ∙ by_limits r i limits.low limits.high limits.step) ∙ sym (ap (kinds_in r) (add-one i))

pub returns : goal.returns
returns c =
    let all : c.loop-c.c ≡ cell_count = omega arith in
    c.loop-c.invariant ∙ ap (kinds_in c.args.rec.now) all
