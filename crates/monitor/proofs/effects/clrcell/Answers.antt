-- `monitor::effects::clrcell` meets its contract: a loop that makes the cells' bytes anew.
-- Assumes nothing.
use mathlib.Core.Path.{◌≡◌, refl, ap, ◌∙◌}
use mathlib.Core.Bool.{cond}
use mathlib.Core.List.{List, [], ◌∷◌}
use Prim.Native.Nat.{ℕ, zero, suc, ◌%◌, ◌<◌}
use native.Mathlib.Nat.{mod-lt}
use native.Mathlib.Omega.{arith}
use lib.Dec.{eqb}
use lib.ListN.{get_or}
use Rattle.records.specs.Record.{on_bytes}
use Rattle.monitor.specs.Effects.{cleared_byte, done}
use Rattle.records.proofs.Making.{making_start, making_more, making_end}
use Rattle.monitor.proofs.effects.clrcell.Goals as goal

-- the code's bytes, low byte first
abbrev lowest : List ℕ
lowest = 0x00 ∷ 0x80 ∷ []

at_place : (m : ℕ) → m < 2 → get_or lowest m 0 ≡ cond (eqb m 0) 0x00 0x80
at_place zero h = refl
at_place (suc zero) h = refl
at_place (suc (suc m)) h = absurd (omega arith)

lowest_byte : (i : ℕ) → get_or lowest (i % 2) 0 ≡ cleared_byte i
unfolding cleared_byte
lowest_byte i = at_place (i % 2) (mod-lt i (omega arith))

pub loop-i-init : goal.loop-i-init
loop-i-init c = making_start _ _ _ _

pub loop-i-preserved : goal.loop-i-preserved
loop-i-preserved c =
    let i = c.loop-i.i in
    making_more _ _ _ _ c.loop-i.invariant c.loop-i-test.true
    (ap (λ (l : List ℕ). get_or l (i % 2) 0) c.to_le_bytes-lowest.ensures ∙ lowest_byte i)

pub returns : goal.returns
unfolding done on_bytes
returns c = making_end _ _ _ _ c.loop-i.invariant c.loop-i-test.false
