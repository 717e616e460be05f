-- Two tests that hold together are one; and of two tests that both pass, each passes.
-- Assumes nothing.
use mathlib.Core.Path.{◌≡◌, refl, sym, ◌∙◌}
use mathlib.Core.Bool.{Bool, true, false, ◌&&◌}
use Prim.Native.Nat.{ℕ}
use lib.Dec.{eqb}
use borrow.Author.Tests.{eq-eqb, ne_eqb, eqb-true, eqb-false}

module _ (a b c d : ℕ) (there : a ≡ b → c ≡ d) (back : c ≡ d → a ≡ b) where
  by : (t : Bool) → eqb c d ≡ t → eqb a b ≡ eqb c d
  by true e = eq-eqb a b (back (eqb-true c d e)) ∙ sym e
  by false e = ne_eqb a b (λ h. eqb-false c d e (there h)) ∙ sym e

  pub same_test : eqb a b ≡ eqb c d
  same_test = by (eqb c d) refl

-- of two tests that both pass, each
pub both_first : (a b : Bool) → a && b ≡ true → a ≡ true
both_first true b h = refl
both_first false b h = h

pub both_second : (a b : Bool) → a && b ≡ true → b ≡ true
both_second true b h = h
both_second false true h = refl
both_second false false h = h
