-- What a measurement finds, by cell and kind: a flag of a kind stands where it stood before, where a cell that is not left out violates the kind, and where
-- a diagnostic is pending; and nowhere else. So a monitor passes exactly where no flag stood, nothing is pending and no such cell violates anything.
-- Assumes nothing.
use mathlib.Core.Path.{◌≡◌, refl, sym, ap, ap₂, ◌∙◌}
use mathlib.Core.Bool.{Bool, true, false, cond, ◌||◌, ◌&&◌, false≢true}
use mathlib.Core.List.{List}
use mathlib.Core.Logic.{⊎_elim}
use Prim.Native.Nat.{ℕ, zero, suc, ◌+◌, ◌%◌, ◌^◌, ◌≤◌, ◌<◌}
use native.Mathlib.Nat.{zero-div, div-eq_of_lt, lt_of_lt_of_le, eq-or-lt_of_le, le_of_suc-le-suc}
use native.Mathlib.Omega.{arith}
use lib.Bits.{bit_or}
use lib.Dec.{eqb, lit<}
use lib.ListN.{length}
use lib.Pow.{pow_mono}
use borrow.Author.Tests.{eqb-true, eq-eqb}
use Rattle.laws.specs.Bits.{odd, bit_at}
use Rattle.laws.proofs.BitAt.{or_bits}
use Rattle.laws.proofs.Tests.{both_first}
use Rattle.records.specs.Record.{cell_count, cmf0, record_size, byte_of}
use Rattle.measuring.specs.Measuring.{masked, kinds, kinds_of, kinds_in, pending, found, measured, passes, violates}
use Rattle.measuring.proofs.Measured.{flag_measured, passes-by}

or_true : (b : Bool) → b || true ≡ true
or_true true = refl
or_true false = refl

bit_of_zero : (k : ℕ) → bit_at k 0 ≡ false
unfolding bit_at odd
bit_of_zero k = ap (λ (n : ℕ). eqb (n % 2) 1) (zero-div (2 ^ k))

-- ---- four bits as a number

abbrev four : Bool → Bool → Bool → Bool → ℕ
four a b c d = cond a 0x01 0 + cond b 0x02 0 + cond c 0x04 0 + cond d 0x08 0

each-its-own : (a b c d : Bool) → (bit_at 0 (four a b c d) ≡ a) × (bit_at 1 (four a b c d) ≡ b) × (bit_at 2 (four a b c d) ≡ c) × (bit_at 3 (four a b c d) ≡ d)
unfolding bit_at odd
each-its-own true true true true = (refl, refl, refl, refl)
each-its-own true true true false = (refl, refl, refl, refl)
each-its-own true true false true = (refl, refl, refl, refl)
each-its-own true true false false = (refl, refl, refl, refl)
each-its-own true false true true = (refl, refl, refl, refl)
each-its-own true false true false = (refl, refl, refl, refl)
each-its-own true false false true = (refl, refl, refl, refl)
each-its-own true false false false = (refl, refl, refl, refl)
each-its-own false true true true = (refl, refl, refl, refl)
each-its-own false true true false = (refl, refl, refl, refl)
each-its-own false true false true = (refl, refl, refl, refl)
each-its-own false true false false = (refl, refl, refl, refl)
each-its-own false false true true = (refl, refl, refl, refl)
each-its-own false false true false = (refl, refl, refl, refl)
each-its-own false false false true = (refl, refl, refl, refl)
each-its-own false false false false = (refl, refl, refl, refl)

at_most : (b : Bool) (n : ℕ) → cond b n 0 ≤ n
at_most true n = omega arith
at_most false n = omega arith

none_above : (k : ℕ) (a b c d : Bool) → 4 ≤ k → bit_at k (four a b c d) ≡ false
unfolding bit_at odd
none_above k a b c d h =
    let few : four a b c d < 2 ^ 4 = omega (arith, at_most a 0x01, at_most b 0x02, at_most c 0x04, at_most d 0x08) in
    ap (λ (n : ℕ). eqb (n % 2) 1) (div-eq_of_lt (lt_of_lt_of_le few (pow_mono h)))

all_eight : (k : ℕ) → k < 8 → bit_at k 0xFF ≡ true
unfolding bit_at odd
all_eight zero h = refl
all_eight (suc zero) h = refl
all_eight (suc (suc zero)) h = refl
all_eight (suc (suc (suc zero))) h = refl
all_eight (suc (suc (suc (suc zero)))) h = refl
all_eight (suc (suc (suc (suc (suc zero))))) h = refl
all_eight (suc (suc (suc (suc (suc (suc zero)))))) h = refl
all_eight (suc (suc (suc (suc (suc (suc (suc zero))))))) h = refl
all_eight (suc (suc (suc (suc (suc (suc (suc (suc k)))))))) h = absurd (omega arith)

module _ (r : List ℕ) where
  -- ---- one cell

  module _ (c : ℕ) where
    -- of a cell that is not left out
    abbrev tests : ℕ
    tests = four (violates 0 r c) (violates 1 r c) (violates 2 r c) (violates 3 r c)

    kinds-by : {out : Bool} → masked r c ≡ out → kinds_of r c ≡ cond out 0 tests
    unfolding kinds_of kinds violates
    kinds-by e = ap (λ (out : Bool). cond out 0 tests) e

    no_more : (k : ℕ) → violates (suc (suc (suc (suc k)))) r c ≡ false
    unfolding violates
    no_more k = refl

    own_bit : (k : ℕ) → bit_at k tests ≡ violates k r c
    own_bit zero = (each-its-own (violates 0 r c) (violates 1 r c) (violates 2 r c) (violates 3 r c)).0
    own_bit (suc zero) = (each-its-own (violates 0 r c) (violates 1 r c) (violates 2 r c) (violates 3 r c)).1
    own_bit (suc (suc zero)) = (each-its-own (violates 0 r c) (violates 1 r c) (violates 2 r c) (violates 3 r c)).2
    own_bit (suc (suc (suc zero))) = (each-its-own (violates 0 r c) (violates 1 r c) (violates 2 r c) (violates 3 r c)).3
    own_bit (suc (suc (suc (suc k)))) =
        none_above (suc (suc (suc (suc k)))) (violates 0 r c) (violates 1 r c) (violates 2 r c) (violates 3 r c) (omega arith) ∙ sym (no_more k)

    -- its kinds are the first four
    kind-below : (k : ℕ) → violates k r c ≡ true → k < 8
    kind-below zero h = lit< tt
    kind-below (suc zero) h = lit< tt
    kind-below (suc (suc zero)) h = lit< tt
    kind-below (suc (suc (suc zero))) h = lit< tt
    kind-below (suc (suc (suc (suc k)))) h = absurd (false≢true (sym (no_more k) ∙ h))

    pub kind_bit : (k : ℕ) → bit_at k (kinds_of r c) ≡ cond (masked r c) false (violates k r c)
    kind_bit k = by (masked r c) refl
      where
        by : (out : Bool) → masked r c ≡ out → bit_at k (kinds_of r c) ≡ cond out false (violates k r c)
        by true e = ap (bit_at k) (kinds-by e) ∙ bit_of_zero k
        by false e = ap (bit_at k) (kinds-by e) ∙ own_bit k

  -- ---- several

  one_sets : (n c k : ℕ) → c < n → bit_at k (kinds_of r c) ≡ true → bit_at k (kinds_in r n) ≡ true
  unfolding kinds_in
  one_sets zero c k h e = absurd (omega arith)
  one_sets (suc n) c k h e =
      or_bits k (kinds_in r n) (kinds_of r n)
      ∙ ⊎_elim (λ same. ap (λ (b : Bool). bit_at k (kinds_in r n) || b) (ap (λ (i : ℕ). bit_at k (kinds_of r i)) (sym same) ∙ e) ∙ or_true (bit_at k (kinds_in r n)))
      (λ less. ap (λ (b : Bool). b || bit_at k (kinds_of r n)) (one_sets n c k less e)) (eq-or-lt_of_le (le_of_suc-le-suc h))

  none_sets : (n k : ℕ) → ((c : ℕ) → c < n → bit_at k (kinds_of r c) ≡ false) → bit_at k (kinds_in r n) ≡ false
  unfolding kinds_in
  none_sets zero k h = bit_of_zero k
  none_sets (suc n) k h =
      or_bits k (kinds_in r n) (kinds_of r n) ∙ ap₂ ◌||◌ (none_sets n k (λ c less. h c (omega arith))) (h n (omega arith))

  nothing_in : (n : ℕ) → ((c : ℕ) → c < n → kinds_of r c ≡ 0) → kinds_in r n ≡ 0
  unfolding kinds_in
  nothing_in zero h = refl
  nothing_in (suc n) h = ap₂ bit_or (nothing_in n (λ c less. h c (omega arith))) (h n (omega arith))

  -- ---- and what is pending

  found-by : {is : Bool} → pending r ≡ is → found r ≡ cond is 0xFF (kinds_in r cell_count)
  unfolding found
  found-by e = ap (λ (is : Bool). cond is 0xFF (kinds_in r cell_count)) e

  module _ (whole : length r ≡ record_size) where
    -- a cell that is not left out and violates a kind sets its flag, and so does what is pending all eight
    pub violation_shows : (c k : ℕ) → c < cell_count → masked r c ≡ false → violates k r c ≡ true → bit_at k (byte_of cmf0 (measured r)) ≡ true
    violation_shows c k h counts e =
        flag_measured r whole k ∙ ap (λ (b : Bool). bit_at k (byte_of cmf0 r) || b) (by (pending r) refl) ∙ or_true (bit_at k (byte_of cmf0 r))
      where
        by : (is : Bool) → pending r ≡ is → bit_at k (found r) ≡ true
        by true p = ap (bit_at k) (found-by p) ∙ all_eight k (kind-below c k e)
        by false p =
            ap (bit_at k) (found-by p)
            ∙ one_sets cell_count c k h (kind_bit c k ∙ ap (λ (out : Bool). cond out false (violates k r c)) counts ∙ e)

    pub pending_shows : pending r ≡ true → (k : ℕ) → k < 8 → bit_at k (byte_of cmf0 (measured r)) ≡ true
    pending_shows p k h =
        flag_measured r whole k
        ∙ ap (λ (b : Bool). bit_at k (byte_of cmf0 r) || b) (ap (bit_at k) (found-by p) ∙ all_eight k h)
        ∙ or_true (bit_at k (byte_of cmf0 r))

    -- and nothing else sets a flag
    pub nothing_else : pending r ≡ false → (k : ℕ) → bit_at k (byte_of cmf0 r) ≡ false
        → ((c : ℕ) → c < cell_count → masked r c ≡ false → violates k r c ≡ false) → bit_at k (byte_of cmf0 (measured r)) ≡ false
    nothing_else p k clear none =
        flag_measured r whole k ∙ ap₂ ◌||◌ clear (ap (bit_at k) (found-by p) ∙ none_sets cell_count k (λ c h. kind_bit c k ∙ by c h (masked r c) refl))
      where
        by : (c : ℕ) → c < cell_count → (out : Bool) → masked r c ≡ out → cond out false (violates k r c) ≡ false
        by c h true e = refl
        by c h false e = none c h e

    -- so it passes where nothing stood, is pending or is violated
    pub passes_where : byte_of cmf0 r ≡ 0 → pending r ≡ false → ((c : ℕ) → c < cell_count → masked r c ≡ false → (k : ℕ) → violates k r c ≡ false)
        → passes r ≡ true
    passes_where clear p none =
        passes-by r whole
        ∙ ap₂ ◌&&◌ (eq-eqb (byte_of cmf0 r) 0 clear) (eq-eqb (found r) 0 (found-by p ∙ nothing_in cell_count (λ c h. by c h (masked r c) refl)))
      where
        by : (c : ℕ) → c < cell_count → (out : Bool) → masked r c ≡ out → kinds_of r c ≡ 0
        by c h true e = kinds-by c e
        by c h false e =
            kinds-by c e
            ∙ ap₂ ◌+◌ (ap₂ ◌+◌ (ap₂ ◌+◌ (ap (λ (b : Bool). cond b 0x01 0) (none c h e 0)) (ap (λ (b : Bool). cond b 0x02 0) (none c h e 1))) (ap (λ (b : Bool). cond b 0x04 0) (none c h e 2)))
            (ap (λ (b : Bool). cond b 0x08 0) (none c h e 3))

    -- and nowhere else
    module _ (passed : passes r ≡ true) where
      pub passed_clear : byte_of cmf0 r ≡ 0
      passed_clear = eqb-true (byte_of cmf0 r) 0 (both_first (eqb (byte_of cmf0 r) 0) (eqb (found r) 0) (sym (passes-by r whole) ∙ passed))

      no_flag : (k : ℕ) → bit_at k (byte_of cmf0 (measured r)) ≡ false
      unfolding passes
      no_flag k = ap (bit_at k) (eqb-true (byte_of cmf0 (measured r)) 0 passed) ∙ bit_of_zero k

      pub passed_nothing_pending : pending r ≡ false
      passed_nothing_pending = by (pending r) refl
        where
          by : (is : Bool) → pending r ≡ is → pending r ≡ false
          by true p = absurd (false≢true (sym (no_flag 0) ∙ pending_shows p 0 (lit< tt)))
          by false p = p

      pub passed_nothing_violated : (c : ℕ) → c < cell_count → masked r c ≡ false → (k : ℕ) → violates k r c ≡ false
      passed_nothing_violated c h counts k = by (violates k r c) refl
        where
          by : (is : Bool) → violates k r c ≡ is → violates k r c ≡ false
          by true e = absurd (false≢true (sym (no_flag k) ∙ violation_shows c k h counts e))
          by false e = e
