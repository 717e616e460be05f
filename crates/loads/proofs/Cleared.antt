-- One of the codes is that of a cleared cell exactly where not all are others. By recursion along the codes.
-- Assumes nothing.
use mathlib.Core.Path.{◌≡◌, refl, ap, ◌∙◌}
use mathlib.Core.Bool.{Bool, true, false, not, ◌&&◌, ◌||◌}
use mathlib.Core.List.{List, [], ◌∷◌}
use Prim.Native.Nat.{ℕ}
use lib.Dec.{eqb}
use borrow.Author.Tests.{eqb-true, eq-eqb}
use Rattle.std.proofs.lemmas.Bool.Decides.{Decides-int_eq, same_from_decides}
use lib.IntN.{ℤ, pos, negsuc}
use Rattle.std.specs.Ordering.{int_eq}
use Rattle.std.specs.List.{list_any}
use Rattle.laws.specs.Counts.{all}
use Rattle.cells.specs.Cells.{is_cleared}

either : (b : Bool) (one none : Bool) → one ≡ not none → b || one ≡ not (not b && none)
either true one none e = refl
either false one none e = e

-- a code below zero, by its number
below : (n : ℕ) → int_eq (negsuc n) (negsuc 32767) ≡ eqb n 32767
below n =
    let same = Decides-int_eq (negsuc n) (negsuc 32767) in
    same_from_decides (int_eq (negsuc n) (negsuc 32767)) (eqb n 32767) same (λ e. ap negsuc (eqb-true n 32767 e), λ e. eq-eqb n 32767 (cc))

pub listed : (codes : List ℤ) → list_any (λ code. int_eq code (negsuc 32767)) codes ≡ not (all (λ code. not (is_cleared code)) codes)
unfolding all is_cleared
listed [] = refl
listed (pos n ∷ codes) = either false _ _ (listed codes)
listed (negsuc n ∷ codes) =
    ap (λ (b : Bool). b || list_any (λ code. int_eq code (negsuc 32767)) codes) (below n) ∙ either (eqb n 32767) _ _ (listed codes)
