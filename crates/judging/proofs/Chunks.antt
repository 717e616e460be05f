-- The records of a table as its chunks: what a run over them gave at k is the row at k, so a test of each of them is one of every row.
-- Assumes nothing.
use Rattle.std.proofs.Common.{◌≡◌, ℕ, zero, suc, ◌<◌, ◌≤◌, ◌/◌, ◌*◌, ◌+◌, ◌∷◌, [], ◌∙◌, take, drop, length, get_or, Bool, true, false, ◌&&◌, List, refl, sym, ap, ap₂, subst, arith, IfSome, IsSomeAnd, Option, Some, None}
use Rattle.std.specs.Iterator.Runs.{Run, IsChunksExactRun, YieldsRun, CallKeepsClosure, AllItemsGive, AnyItemGives}
use Rattle.std.specs.Bool.{MatchBool}
use Rattle.std.specs.List.{IsSubsliceAt, slice_get}
use denote.Ref.{Bor}
use denote.Param.Members.{Mut, Called}
use Rattle.laws.specs.Counts.{all}
use Rattle.laws.specs.Rows.{rows, row_at}
use Rattle.laws.proofs.Counts.{all_fails}
use Rattle.laws.proofs.Rows.{length-rows, row-at}
use Rattle.records.specs.Record.{record_size, is_record, record_sound}
use Rattle.records.proofs.Answers.{is-record}
use Rattle.judging.specs.Table.{monitors}

-- an element that is there
there : {A : Type 0} (xs : List A) (k : ℕ) → k < length xs → slice_get xs k ≡ None → ⊥
there [] k h e = omega arith
there (x ∷ xs) zero h e = cc
there (x ∷ xs) (suc k) h e = there xs k (omega arith) e

-- every element passes, each by its place
module _ {A : Type 0} (test : A → Bool) (d : A) where
  each-passes : (xs : List A) → ((k : ℕ) → k < length xs → test (get_or xs k d) ≡ true) → all test xs ≡ true
  unfolding all
  each-passes [] h = refl
  each-passes (x ∷ xs) h = ap₂ ◌&&◌ (h 0 (omega arith)) (each-passes xs (λ k l. h (suc k) (omega arith)))

module _ {S : Type 0} {steps : S → Option (Bor (List ℕ)) → S → Type 0} (p : Run steps) (table : List ℕ) (cut : IsChunksExactRun p record_size table) where
  module _ (k : ℕ) where
    its-row : (x : Bor (List ℕ)) → p.at k ≡ Some x → (length x.now ≡ record_size) × (x.now ≡ row_at record_size k table)
    unfolding row_at
    its-row x e = by (p.at k) e (cut.2 k)
      where
        by : (o : Option (Bor (List ℕ))) → o ≡ Some x → IfSome o (λ y. (length y.now ≡ record_size) × (k * record_size + record_size ≤ length table) × IsSubsliceAt record_size table (k * record_size) y.now)
            → (length x.now ≡ record_size) × (x.now ≡ take record_size (drop (k * record_size) table))
        by None e c = cc
        by (Some y) e c =
            let same : y ≡ x = cc in
            subst (λ (z : Bor (List ℕ)). (length z.now ≡ record_size) × (z.now ≡ take record_size (drop (k * record_size) table))) same (c.0, c.2.0)

  module _ {F : Type 0} (g : Mut F (Bor (List ℕ) × Unit {0}) Bool) (f : F) (stays : CallKeepsClosure g f)
      (told : (x : Bor (List ℕ)) (r : Bool) → Called g f (x, tt) r f → r ≡ is_record x.now && record_sound x.now) where
    -- what the test of the chunk at k says
    row-told : (k : ℕ) (x : Bor (List ℕ)) (r : Bool) → p.at k ≡ Some x → Called g f (x, tt) r f → r ≡ record_sound (row_at record_size k table)
    row-told k x r e h =
        let its = its-row k x e in
        told x r h ∙ ap (λ (b : Bool). b && record_sound x.now) (is-record x.now its.0) ∙ ap record_sound its.1

    passed : (k : ℕ) → k < p.len → IfSome (p.at k) (λ x. Called g f (x, tt) true f) → record_sound (row_at record_size k table) ≡ true
    unfolding YieldsRun
    passed k h t = by (p.at k) refl t
      where
        by : (o : Option (Bor (List ℕ))) → p.at k ≡ o → IfSome o (λ x. Called g f (x, tt) true f) → record_sound (row_at record_size k table) ≡ true
        by None e t = absurd (there p.items k (omega (arith, p.long)) (sym (p.gave.1 k) ∙ e))
        by (Some x) e t = sym (row-told k x true e t)

    failed : (k : ℕ) → IsSomeAnd (p.at k) (λ x. Called g f (x, tt) false f) → record_sound (row_at record_size k table) ≡ false
    failed k t = by (p.at k) refl t
      where
        by : (o : Option (Bor (List ℕ))) → p.at k ≡ o → IsSomeAnd o (λ x. Called g f (x, tt) false f) → record_sound (row_at record_size k table) ≡ false
        by None e t = absurd t
        by (Some x) e t = sym (row-told k x false e t)

    pub chunks-sound : (b : Bool) → MatchBool b ((p.whole ≡ true) × AllItemsGive p g f true) (AnyItemGives p g f false)
        → b ≡ all record_sound (rows record_size (monitors table) table)
    unfolding monitors
    chunks-sound true m =
        let n = length table / record_size in
        sym (each-passes record_sound [] (rows record_size n table)
        (λ k h.
        let within : k < n = omega (arith, length-rows record_size n table) in
        ap record_sound (row-at record_size n table k [] within) ∙ passed k (omega (arith, cut.1 m.0)) (m.1 stays k)))
    chunks-sound false m =
        let n = length table / record_size in
        let one = m stays in
        let k = one.0 in
        let within : k < n = omega (arith, cut.0, one.1) in
        sym (all_fails record_sound (rows record_size n table) k [] (omega (arith, length-rows record_size n table))
        (ap record_sound (row-at record_size n table k [] within) ∙ failed k one.2))
