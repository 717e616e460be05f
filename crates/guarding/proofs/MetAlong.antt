-- The monitors that a heartbeat meets on its way, as they were at its start. From either end of the chain it meets, after the manager, all the others: from the
-- near end in their order, from the far end against it, which changes neither how many pass nor the union of their flags.
-- Assumes nothing.
use mathlib.Core.Path.{◌≡◌, refl, sym, ap, ap₂, ◌∙◌, subst, subst⁻¹}
use mathlib.Core.Bool.{Bool, true, false, cond}
use mathlib.Core.List.{List, [], ◌∷◌, ◌++◌, map, map-append}
use mathlib.Core.Logic.{inl, inr}
use Prim.Native.Nat.{ℕ, zero, suc, ◌+◌, ◌-◌, ◌*◌, ◌<◌}
use native.Mathlib.Omega.{arith}
use lib.Bits.{bit_or}
use lib.ListN.{drop}
use lib.Seq.{drop-drop}
use Rattle.laws.specs.Counts.{count}
use Rattle.laws.specs.Rows.{rows, row_at}
use Rattle.laws.specs.Tables.{tabulate}
use Rattle.laws.proofs.Rows.{row_zero, rows_snoc}
use Rattle.laws.proofs.Tables.{table_snoc}
use Rattle.records.specs.Record.{record_size, cmf0, byte_of}
use Rattle.measuring.specs.Measuring.{measured, passes}
use Rattle.passing.specs.Hops.{hops, behind}
use Rattle.guarding.specs.Chains.{at, FromTheEnd, passing, union}
use Rattle.guarding.proofs.Summed.{passing_snoc, union_snoc}

abbrev pub met : (ℕ → ℕ) → ℕ → ℕ → List ℕ → List (List ℕ)
met f i m table = map (λ (j : ℕ). at j table) (tabulate f i m)

-- ---- one more at the end

pub met_snoc : (f : ℕ → ℕ) (i m : ℕ) (table : List ℕ) → met f i (suc m) table ≡ met f i m table ++ at (f (i + m)) table ∷ []
met_snoc f i m table =
    ap (map (λ (j : ℕ). at j table)) (table_snoc f i m) ∙ map-append (λ (j : ℕ). at j table) (tabulate f i m) (f (i + m) ∷ [])

-- ---- as many pass, with the same flags

pub record Alike (rs ss : List (List ℕ)) : Type 0 where
  pub as_many : passing rs ≡ passing ss
  pub same_flags : union rs ≡ union ss

pub alike : {rs ss : List (List ℕ)} → rs ≡ ss → Alike rs ss
alike e = record { as_many = ap passing e; same_flags = ap union e }

pub alike_then : {rs ss ts : List (List ℕ)} → Alike rs ss → Alike ss ts → Alike rs ts
alike_then a b = record { as_many = a.as_many ∙ b.as_many; same_flags = a.same_flags ∙ b.same_flags }

pub alike_snoc : (rs : List (List ℕ)) (r : List ℕ) → Alike (r ∷ rs) (rs ++ r ∷ [])
alike_snoc rs r = record { as_many = sym (passing_snoc rs r); same_flags = sym (union_snoc rs r) }

-- one more before both
alike_cons : (r : List ℕ) {rs ss : List (List ℕ)} → Alike rs ss → Alike (r ∷ rs) (r ∷ ss)
unfolding passing count union
alike_cons r a =
    record {
      as_many = ap (λ (p : ℕ). cond (passes r) 1 0 + p) a.as_many;
      same_flags = ap (bit_or (byte_of cmf0 (measured r))) a.same_flags;
    }

-- ---- from the near end

upwards : (m i : ℕ) (table : List ℕ) → met (behind false 0) i m table ≡ rows record_size m (drop (suc i * record_size) table)
unfolding tabulate rows row_at behind
upwards zero i table = refl
upwards (suc m) i table =
    let next : 0 + suc i ≡ suc i = omega arith in
    let past : suc i * record_size + record_size ≡ suc (suc i) * record_size = omega arith in
    ap₂ ◌∷◌ (ap (λ (j : ℕ). at j table) next)
    (upwards m (suc i) table
    ∙ ap (rows record_size m) (sym (drop-drop record_size (suc i * record_size) table ∙ ap (λ (j : ℕ). drop j table) past)))

near : (m : ℕ) (table : List ℕ) → at 0 table ∷ met (behind false 0) 0 m table ≡ rows record_size (suc m) table
unfolding rows
near m table = ap₂ ◌∷◌ (row_zero record_size table) (upwards m 0 table)

-- ---- from the far end

further : (k m i : ℕ) (table : List ℕ) → met (behind true (suc k)) (suc i) m table ≡ met (behind true k) i m table
unfolding tabulate behind
further k zero i table = refl
further k (suc m) i table =
    let same : suc k - suc (suc i) ≡ k - suc i = omega arith in
    ap₂ ◌∷◌ (ap (λ (j : ℕ). at j table) same) (further k m (suc i) table)

first : (k : ℕ) (table : List ℕ) → met (behind true (suc k)) 0 (suc k) table ≡ at k table ∷ met (behind true k) 0 k table
unfolding tabulate behind
first k table =
    let same : suc k - 1 ≡ k = omega arith in
    ap₂ ◌∷◌ (ap (λ (j : ℕ). at j table) same) (further k k 0 table)

downwards : (k : ℕ) (table : List ℕ) → Alike (met (behind true k) 0 k table) (rows record_size k table)
unfolding tabulate rows
downwards zero table = alike refl
downwards (suc k) table =
    alike_then (alike (first k table))
    (alike_then (alike_cons (at k table) (downwards k table))
    (alike_then (alike_snoc (rows record_size k table) (at k table)) (alike (sym (rows_snoc record_size k table)))))

pub far : (k : ℕ) (table : List ℕ) → Alike (at k table ∷ met (behind true k) 0 k table) (rows record_size (suc k) table)
far k table = alike_then (alike (sym (first k table))) (downwards (suc k) table)

-- ---- from either

pub met_all : (toA : Bool) (k n : ℕ) (table : List ℕ) → k < n → FromTheEnd toA k n
    → Alike (at k table ∷ met (behind toA k) 0 (hops toA n k) table) (rows record_size n table)
unfolding hops
met_all toA k n table there (inl (d, e)) =
    subst⁻¹ (λ (t : Bool). Alike (at k table ∷ met (behind t k) 0 (cond t k (n - suc k)) table) (rows record_size n table)) d
    (subst (λ (m : ℕ). Alike (at k table ∷ met (behind true k) 0 k table) (rows record_size m table)) e (far k table))
met_all toA k n table there (inr (d, e)) =
    let rest : suc (n - 1) ≡ n = omega arith in
    subst⁻¹ (λ (t : Bool). Alike (at k table ∷ met (behind t k) 0 (cond t k (n - suc k)) table) (rows record_size n table)) d
    (subst⁻¹ (λ (i : ℕ). Alike (at i table ∷ met (behind false i) 0 (n - suc i) table) (rows record_size n table)) e
    (alike (near (n - 1) table ∙ ap (λ (m : ℕ). rows record_size m table) rest)))
