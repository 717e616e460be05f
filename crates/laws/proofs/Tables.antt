-- What stands at each place of a table of a function's values: one law, where the table itself is compared whole.
-- Assumes nothing.
use mathlib.Core.Path.{◌≡◌, refl, sym, ap, ◌∙◌}
use mathlib.Core.List.{List, [], ◌∷◌, ◌++◌}
use Prim.Native.Nat.{ℕ, zero, suc, ◌+◌, ◌≤◌, ◌<◌}
use native.Mathlib.Nat.{add-zero, zero-add, add-suc, suc-add}
use native.Mathlib.Omega.{arith}
use lib.ListN.{length, get_or, take, drop}
use Rattle.laws.specs.Tables.{tabulate}

pub length-tabulate : (f : ℕ → ℕ) (i n : ℕ) → length (tabulate f i n) ≡ n
unfolding tabulate
length-tabulate f i zero = refl
length-tabulate f i (suc n) = ap suc (length-tabulate f (suc i) n)

pub from : (f : ℕ → ℕ) (i n k : ℕ) → k < n → get_or (tabulate f i n) k 0 ≡ f (i + k)
unfolding tabulate
from f i zero k h = absurd (omega arith)
from f i (suc n) zero h = ap f (sym (add-zero i))
from f i (suc n) (suc k) h = from f (suc i) n k (omega arith) ∙ ap f (suc-add i k ∙ sym (add-suc i k))

pub at_each : (f : ℕ → ℕ) (n k : ℕ) → k < n → get_or (tabulate f 0 n) k 0 ≡ f k
at_each f n k h = from f 0 n k h ∙ ap f (zero-add k)

-- a list is the table of its own elements
later : (f : ℕ → ℕ) (i n : ℕ) → tabulate f (suc i) n ≡ tabulate (λ (j : ℕ). f (suc j)) i n
unfolding tabulate
later f i zero = refl
later f i (suc n) = ap (λ (l : List ℕ). f (suc i) ∷ l) (later f (suc i) n)

own-table : (xs : List ℕ) → tabulate (λ (i : ℕ). get_or xs i 0) 0 (length xs) ≡ xs
unfolding tabulate
own-table [] = refl
own-table (x ∷ xs) = ap (λ (l : List ℕ). x ∷ l) (later (λ (i : ℕ). get_or (x ∷ xs) i 0) 0 (length xs) ∙ own-table xs)

pub rebuilt : (xs : List ℕ) (n : ℕ) → length xs ≡ n → tabulate (λ (i : ℕ). get_or xs i 0) 0 n ≡ xs
rebuilt xs n e = ap (tabulate (λ (i : ℕ). get_or xs i 0) 0) (sym e) ∙ own-table xs

-- ---- a table cut

pub take-table : (f : ℕ → ℕ) (h i m : ℕ) → h ≤ m → take h (tabulate f i m) ≡ tabulate f i h
unfolding tabulate
take-table f zero i m l = refl
take-table f (suc h) i zero l = absurd (omega arith)
take-table f (suc h) i (suc m) l = ap (λ (xs : List ℕ). f i ∷ xs) (take-table f h (suc i) m (omega arith))

-- something is left behind every place
pub drop-table : (f : ℕ → ℕ) (h i m : ℕ) → h < m → drop h (tabulate f i m) ≡ f (i + h) ∷ drop (suc h) (tabulate f i m)
unfolding tabulate
drop-table f h i zero l = absurd (omega arith)
drop-table f zero i (suc m) l = ap (λ (j : ℕ). f j ∷ tabulate f (suc i) m) (omega arith)
drop-table f (suc h) i (suc m) l =
    drop-table f h (suc i) m (omega arith) ∙ ap (λ (j : ℕ). f j ∷ drop (suc h) (tabulate f (suc i) m)) (omega arith)

-- and with one more at its end
pub table_snoc : (f : ℕ → ℕ) (i m : ℕ) → tabulate f i (suc m) ≡ tabulate f i m ++ f (i + m) ∷ []
unfolding tabulate
table_snoc f i zero = ap (λ (j : ℕ). f j ∷ []) (omega arith)
table_snoc f i (suc m) =
    ap (λ (ks : List ℕ). f i ∷ ks) (table_snoc f (suc i) m ∙ ap (λ (j : ℕ). tabulate f (suc i) m ++ f j ∷ []) (omega arith))
