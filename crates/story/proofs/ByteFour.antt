-- Document 01, "The clocked engine", its last rule: N, and whether the command is known, are taken from the table lent with byte four. No
-- other byte looks at the table that is lent with it, and a release with a table of another N, or after one that was not sound at
-- byte four, is refusal 1. By the place of a byte in its frame.
-- Assumes nothing.
use mathlib.Core.Path.{◌≡◌, refl, sym, ap, ap₂, ◌∙◌}
use mathlib.Core.Bool.{Bool, true, false, cond, not, ◌&&◌, ◌||◌}
use mathlib.Core.List.{List}
use Prim.Native.Nat.{ℕ, ◌≤◌}
use native.Mathlib.Omega.{arith}
use lib.Dec.{eqb, ltb}
use borrow.Author.Tests.{ne_eqb, eq-eqb, le-leb, le-ltb}
use Rattle.refusals.specs.declared.Refusal.TheVariants.{TableNotSound}
use Rattle.refusals.proofs.Deciding.{holds_here}
use Rattle.judging.specs.Table.{monitors, sound}
use Rattle.clocking.specs.Clock.{Clock, chained_by, fourth, early, later, clocked}
use Rattle.releasing.specs.Release.{another_count, release_refusals, released}
use Rattle.std.specs.Prelude.{Err}

-- a byte that is not the fourth does the same with any table
pub only_byte_four : (table other : List ℕ) (byte : ℕ) (c : Clock) → (c.seen ≡ 3 → ⊥) → clocked table byte c ≡ clocked other byte c
unfolding clocked
only_byte_four table other byte c h = by table ∙ sym (by other)
  where
    by : (t : List ℕ) → cond (ltb c.seen 3) (early byte c) (cond (eqb c.seen 3) (fourth t byte c) (later byte c)) ≡ cond (ltb c.seen 3) (early byte c) (later byte c)
    by t = ap (λ (b : Bool). cond (ltb c.seen 3) (early byte c) (cond b (fourth t byte c) (later byte c))) (ne_eqb c.seen 3 h)

-- the fourth notes N, and 0 where the table is not sound
pub at_byte_four : (table : List ℕ) (byte : ℕ) (c : Clock) → c.seen ≡ 3 → (clocked table byte c).chained ≡ chained_by table
unfolding clocked fourth
at_byte_four table byte c e =
    ap₂ (λ (a b : Bool). (cond a (early byte c) (cond b (fourth table byte c) (later byte c))).chained) (le-ltb c.seen 3 (omega arith)) (eq-eqb c.seen 3 e)

-- no later byte changes it
pub noted_stays : (table : List ℕ) (byte : ℕ) (c : Clock) → (c.seen ≡ 3 → ⊥) → (clocked table byte c).chained ≡ c.chained
unfolding clocked early later
noted_stays table byte c h = by (ltb c.seen 3) (eqb c.seen 3) (ne_eqb c.seen 3 h)
  where
    by : (a b : Bool) → b ≡ false → (cond a (early byte c) (cond b (fourth table byte c) (later byte c))).chained ≡ c.chained
    by true b e = refl
    by false b e = ap (λ (x : Bool). (cond x (fourth table byte c) (later byte c)).chained) e

-- a release with another N than was noted
pub another-n : (c : Clock) (table : List ℕ) → 4 ≤ c.seen → (c.chained ≡ monitors table → ⊥) → released c table ≡ Err TableNotSound
unfolding released release_refusals another_count
another-n c table came h =
    holds_here _ _ Err _
    (ap₂ (λ (a b : Bool). not (sound table) || a && not b) (le-leb 4 c.seen came) (ne_eqb c.chained (monitors table) h) ∙ either (not (sound table)))
  where
    either : (x : Bool) → x || true ≡ true
    either true = refl
    either false = refl
