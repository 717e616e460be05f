-- A table with one record changed, where the change leaves a record as long: the table stays as long, that record is the changed one, every
-- other stays, every byte outside it stays; two changes of one record are one. Where the change also leaves a record as sound, a sound
-- table stays sound and keeps its monitors. By rows: the table is the same but for one of them.
-- Assumes nothing.
use mathlib.Core.Path.{◌≡◌, refl, sym, ap, ap₂, ◌∙◌, subst, subst⁻¹}
use mathlib.Core.Bool.{Bool, true, ◌&&◌}
use mathlib.Core.List.{List, [], ◌∷◌, ◌++◌, append_assoc}
use mathlib.Core.Logic.{inl, inr}
use Prim.Native.Nat.{ℕ, zero, suc, ◌+◌, ◌-◌, ◌*◌, ◌≤◌, ◌<◌}
use native.Mathlib.Omega.{arith}
use lib.ListN.{length, take, drop, set, get_or, length-append, length-drop}
use lib.Seq.{length-take-le, take_at, drop_at, get_or-set_other, get_or-take, get_or-drop, drop-drop}
use Rattle.laws.specs.Counts.{all}
use Rattle.laws.specs.Rows.{rows, row_at}
use Rattle.laws.proofs.Places.{by_place}
use Rattle.laws.proofs.Rows.{row_fits, length-rows, row-at, row_element, rows-set}
use Rattle.records.specs.declared.record.Part.{Part}
use Rattle.records.specs.Record.{record_size, record_sound}
use Rattle.judging.specs.Table.{monitors, sound, changed_at, Beside}
use Rattle.judging.proofs.Lent.{lent_length}
use Rattle.judging.proofs.Soundness.{both, is_sound}
use Rattle.judging.proofs.Keeps.{Keeps, keeps-by_records}

-- ---- one of a list

module _ {A : Type 0} (test : A → Bool) where
  all-at : (xs : List A) (k : ℕ) (d : A) → k < length xs → all test xs ≡ true → test (get_or xs k d) ≡ true
  unfolding all
  all-at [] k d h e = absurd (omega arith)
  all-at (x ∷ xs) zero d h e = (both (test x) (all test xs) e).0
  all-at (x ∷ xs) (suc k) d h e = all-at xs k d (omega arith) (both (test x) (all test xs) e).1

  all_set : (xs : List A) (k : ℕ) (x : A) → test x ≡ true → all test xs ≡ true → all test (set xs k x) ≡ true
  unfolding all
  all_set [] k x h e = refl
  all_set (y ∷ ys) zero x h e = ap₂ ◌&&◌ h (both (test y) (all test ys) e).1
  all_set (y ∷ ys) (suc k) x h e =
      let two = both (test y) (all test ys) e in
      ap₂ ◌&&◌ two.0 (all_set ys k x h two.1)

-- ---- a record that the table has whole

module _ (k : ℕ) (f : List ℕ → List ℕ) (as_long : (r : List ℕ) → length (f r) ≡ length r) (table : List ℕ) (fits : k * record_size + record_size ≤ length table) where
  new_length : length (f (row_at record_size k table)) ≡ record_size
  new_length = as_long (row_at record_size k table) ∙ lent_length k table fits

  before_it : length (take (k * record_size) table) ≡ k * record_size
  before_it = length-take-le (k * record_size) table (omega arith)

  pub length-changed : length (changed_at k f table) ≡ length table
  length-changed = simp (length-append, length-drop) (omega (arith, new_length, before_it))

  rest : List ℕ
  rest = f (row_at record_size k table) ++ drop (k * record_size + record_size) table

  before-rest : changed_at k f table ≡ take (k * record_size) table ++ rest
  unfolding rest
  before-rest = append_assoc (take (k * record_size) table) (f (row_at record_size k table)) (drop (k * record_size + record_size) table)

  dropped : drop (k * record_size) (changed_at k f table) ≡ rest
  dropped = ap (drop (k * record_size)) before-rest ∙ drop_at (take (k * record_size) table) rest (k * record_size) before_it

  front_stays : take (k * record_size) (changed_at k f table) ≡ take (k * record_size) table
  front_stays = ap (take (k * record_size)) before-rest ∙ take_at (take (k * record_size) table) rest (k * record_size) before_it

  pub changed_record : row_at record_size k (changed_at k f table) ≡ f (row_at record_size k table)
  unfolding row_at rest
  changed_record = ap (take record_size) dropped ∙ take_at (f (row_at record_size k table)) (drop (k * record_size + record_size) table) record_size new_length

  rest_stays : drop (k * record_size + record_size) (changed_at k f table) ≡ drop (k * record_size + record_size) table
  unfolding rest
  rest_stays =
      sym (drop-drop record_size (k * record_size) (changed_at k f table))
      ∙ ap (drop record_size) dropped
      ∙ drop_at (f (row_at record_size k table)) (drop (k * record_size + record_size) table) record_size new_length

  -- changed again: what both make of the record is what a third makes
  pub changed_twice : (g h : List ℕ → List ℕ) → ((r : List ℕ) → length r ≡ record_size → g (f r) ≡ h r)
      → changed_at k g (changed_at k f table) ≡ changed_at k h table
  changed_twice g h same =
      ap₂ (λ (front rest : List ℕ). front ++ g (row_at record_size k (changed_at k f table)) ++ rest) front_stays rest_stays
      ∙ ap (λ (r : List ℕ). take (k * record_size) table ++ r ++ drop (k * record_size + record_size) table)
      (ap g changed_record ∙ same (row_at record_size k table) (lent_length k table fits))

  -- ---- byte by byte

  byte_before : {i : ℕ} → i < k * record_size → get_or (changed_at k f table) i 0 ≡ get_or table i 0
  byte_before {i} h =
      sym (get_or-take (k * record_size) (changed_at k f table) i 0 h) ∙ ap (λ (xs : List ℕ). get_or xs i 0) front_stays ∙ get_or-take (k * record_size) table i 0 h

  byte_past : {i : ℕ} → k * record_size + record_size ≤ i → get_or (changed_at k f table) i 0 ≡ get_or table i 0
  byte_past {i} h =
      let end = k * record_size + record_size in
      let there : end + (i - end) ≡ i = omega arith in
      ap (λ (m : ℕ). get_or (changed_at k f table) m 0) (sym there)
      ∙ sym (get_or-drop end (changed_at k f table) (i - end) 0)
      ∙ ap (λ (xs : List ℕ). get_or xs (i - end) 0) rest_stays
      ∙ get_or-drop end table (i - end) 0
      ∙ ap (λ (m : ℕ). get_or table m 0) there

  byte_inside : {j : ℕ} → j < record_size → get_or (changed_at k f table) (k * record_size + j) 0 ≡ get_or (f (row_at record_size k table)) j 0
  byte_inside {j} h = sym (row_element record_size k (changed_at k f table) j 0 h) ∙ ap (λ (r : List ℕ). get_or r j 0) changed_record

  -- what holds of a byte that stays, and of every byte of the record, holds of each
  pub each_byte : (Q : ℕ → ℕ → Type 0) → ((x : ℕ) → Q x x) → (i : ℕ)
      → ((j : ℕ) → j < record_size → k * record_size + j ≡ i → Q (get_or (row_at record_size k table) j 0) (get_or (f (row_at record_size k table)) j 0))
      → Q (get_or table i 0) (get_or (changed_at k f table) i 0)
  each_byte Q same i inside =
      by_place (k * record_size) record_size i (λ h. as_it_was (byte_before h)) among (λ h. as_it_was (byte_past h))
    where
      as_it_was : get_or (changed_at k f table) i 0 ≡ get_or table i 0 → Q (get_or table i 0) (get_or (changed_at k f table) i 0)
      as_it_was e = subst⁻¹ (Q (get_or table i 0)) e (same (get_or table i 0))

      among : (j : ℕ) → j < record_size → k * record_size + j ≡ i → Q (get_or table i 0) (get_or (changed_at k f table) i 0)
      among j h e =
          subst (λ (m : ℕ). Q (get_or table m 0) (get_or (changed_at k f table) m 0)) e
          (subst (λ (x : ℕ). Q x (get_or (changed_at k f table) (k * record_size + j) 0)) (row_element record_size k table j 0 h)
          (subst⁻¹ (Q (get_or (row_at record_size k table) j 0)) (byte_inside h) (inside j h e)))

  -- a change of one part of the record leaves every byte beside it
  pub beside_stays : (p : Part) → ((j : ℕ) → j < p.at → get_or (f (row_at record_size k table)) j 0 ≡ get_or (row_at record_size k table) j 0)
      → ((j : ℕ) → p.at + p.size ≤ j → get_or (f (row_at record_size k table)) j 0 ≡ get_or (row_at record_size k table) j 0)
      → (i : ℕ) → Beside p k i → get_or (changed_at k f table) i 0 ≡ get_or table i 0
  beside_stays p below above i (inl h) = each_byte (λ x y. y ≡ x) (λ x. refl) i (λ j l e. below j (omega arith))
  beside_stays p below above i (inr h) = each_byte (λ x y. y ≡ x) (λ x. refl) i (λ j l e. above j (omega arith))

-- ---- all of them

module _ (k : ℕ) (f : List ℕ → List ℕ) (as_long : (r : List ℕ) → length (f r) ≡ length r) (n : ℕ) (table : List ℕ) (there : k < n) (whole : length table ≡ n * record_size) where
  rows-changed : rows record_size n (changed_at k f table) ≡ set (rows record_size n table) k (f (row_at record_size k table))
  rows-changed =
      rows-set record_size n table k (f (row_at record_size k table)) there (omega arith)
      (new_length k f as_long table (row_fits record_size there (omega arith)))

  pub other_record : (j : ℕ) → j < n → (j ≡ k → ⊥) → row_at record_size j (changed_at k f table) ≡ row_at record_size j table
  other_record j h apart =
      sym (row-at record_size n (changed_at k f table) j [] h)
      ∙ ap (λ (rs : List (List ℕ)). get_or rs j []) rows-changed
      ∙ get_or-set_other (rows record_size n table) k j (f (row_at record_size k table)) [] apart
      ∙ row-at record_size n table j [] h

  all_changed : ((r : List ℕ) → record_sound (f r) ≡ record_sound r) → all record_sound (rows record_size n table) ≡ true
      → all record_sound (rows record_size n (changed_at k f table)) ≡ true
  all_changed as-sound h =
      let within : k < length (rows record_size n table) = omega (arith, length-rows record_size n table) in
      let was : record_sound (row_at record_size k table) ≡ true = ap record_sound (sym (row-at record_size n table k [] there)) ∙ all-at record_sound (rows record_size n table) k [] within h in
      ap (all record_sound) rows-changed
      ∙ all_set record_sound (rows record_size n table) k (f (row_at record_size k table)) (as-sound (row_at record_size k table) ∙ was) h

pub changed-keeps : (k : ℕ) (f : List ℕ → List ℕ) → ((r : List ℕ) → length (f r) ≡ length r) → ((r : List ℕ) → record_sound (f r) ≡ record_sound r)
    → (table : List ℕ) → sound table ≡ true → k < monitors table → Keeps table (changed_at k f table)
changed-keeps k f as_long as-sound table s h =
    let t = is_sound table s in
    let fits : k * record_size + record_size ≤ length table = row_fits record_size h (omega (arith, t.whole)) in
    keeps-by_records table (changed_at k f table) t (length-changed k f as_long table fits ∙ t.whole)
    (all_changed k f as_long (monitors table) table h t.whole as-sound t.each)
