-- The verdicts on eight bytes against the counter that the host expects (L5), and which of two ports answers by them. By two tests: is the check right,
-- and is the counter the one expected.
-- Assumes nothing.
use mathlib.Core.Path.{◌≡◌, refl, sym, ap, ◌∙◌}
use mathlib.Core.Bool.{Bool, true, false, cond, not, ◌&&◌, false≢true}
use mathlib.Core.List.{List, [], ◌∷◌}
use mathlib.Core.Logic.{◌↔◌}
use Prim.Native.Nat.{ℕ}
use native.Mathlib.Omega.{arith}
use lib.Dec.{eqb}
use Rattle.laws.specs.Counts.{count}
use Rattle.pec.specs.Words.{counter_of, payload_right}
use Rattle.refusals.specs.Order.{Passed}
use Rattle.refusals.proofs.Deciding.{passes}
use Rattle.ports.specs.declared.checks.Checked.{Checked}
use Rattle.ports.specs.declared.checks.Checked.TheVariants.{Right, CounterDiffers, Damaged}
use Rattle.ports.specs.declared.ports.Port.TheVariants.{A, B}
use Rattle.ports.specs.Verdicts.{is_damaged, is_right, counter_differs}
use Rattle.ports.specs.Check.{check_refusals, checked}
use Rattle.ports.specs.Ports.{part_a, part_b, port_refusals, chosen, port_of}
use Rattle.ports.proofs.Choosing.{either, either-a, either-b, either-a_differs, either-b_differs}
use Rattle.std.specs.Prelude.{Result, Err, Ok}
use Rattle.refusals.specs.declared.Refusal.{Refusal}

-- ---- the three

-- one of them holds, and no other
pub three_verdicts : (eight : List ℕ) (expected : ℕ) → count (λ (b : Bool). b) (is_right eight expected ∷ counter_differs eight expected ∷ is_damaged eight ∷ []) ≡ 1
unfolding is_right counter_differs is_damaged count
three_verdicts eight expected = by (payload_right eight) (eqb (counter_of eight) expected)
  where
    by : (right same : Bool) → count (λ (b : Bool). b) ((right && same) ∷ (right && not same) ∷ not right ∷ []) ≡ 1
    by true true = refl
    by true false = refl
    by false same = refl

module _ (c : ℕ) where
  -- the answer, by both tests
  abbrev pub told : Bool → Bool → Result Checked Refusal
  told right same = Ok (cond (not right) Damaged (cond (right && not same) (CounterDiffers c) Right))

  told-right : (right same : Bool) → (told right same ≡ Ok Right) ↔ (right && same ≡ true)
  told-right true true = (λ e. refl, λ e. refl)
  told-right true false = (λ e. let z : ◌≡◌ {A = ℕ} 0 1 = cc in absurd (omega arith), λ e. absurd (false≢true e))
  told-right false same = (λ e. let z : ◌≡◌ {A = ℕ} 0 1 = cc in absurd (omega arith), λ e. absurd (false≢true e))

  told_damaged : (right same : Bool) → (told right same ≡ Ok Damaged) ↔ (not right ≡ true)
  told_damaged true true = (λ e. let z : ◌≡◌ {A = ℕ} 0 1 = cc in absurd (omega arith), λ e. absurd (false≢true e))
  told_damaged true false = (λ e. let z : ◌≡◌ {A = ℕ} 0 1 = cc in absurd (omega arith), λ e. absurd (false≢true e))
  told_damaged false same = (λ e. refl, λ e. refl)

  told_differs : (right same : Bool) (x : ℕ) → (told right same ≡ Ok (CounterDiffers x)) ↔ ((right && not same ≡ true) × (x ≡ c))
  told_differs true true x = (λ e. let z : ◌≡◌ {A = ℕ} 0 1 = cc in absurd (omega arith), λ e. absurd (false≢true e.0))
  told_differs true false x = (λ e. (refl, cc), λ e. ap (λ (d : ℕ). Ok (CounterDiffers d)) (sym e.1))
  told_differs false same x = (λ e. let z : ◌≡◌ {A = ℕ} 0 1 = cc in absurd (omega arith), λ e. absurd (false≢true e.0))

-- ---- the check of one payload

module _ (payload : List ℕ) (expected : ℕ) (none : Passed (check_refusals payload expected)) where
  abbrev right : Bool
  right = payload_right payload

  abbrev same : Bool
  same = eqb (counter_of payload) expected

  pub checked-told : checked payload expected ≡ told (counter_of payload) right same
  unfolding checked is_damaged counter_differs
  checked-told = passes (check_refusals payload expected) Err (told (counter_of payload) right same) none

  by-told : {v : Result Checked Refusal} {P : Type 0} → (told (counter_of payload) right same ≡ v) ↔ P → (checked payload expected ≡ v) ↔ P
  by-told both = (λ e. both.0 (sym checked-told ∙ e), λ p. checked-told ∙ both.1 p)

  pub checked-right : (checked payload expected ≡ Ok Right) ↔ (is_right payload expected ≡ true)
  unfolding is_right
  checked-right = by-told (told-right (counter_of payload) right same)

  pub checked_damaged : (checked payload expected ≡ Ok Damaged) ↔ (is_damaged payload ≡ true)
  unfolding is_damaged
  checked_damaged = by-told (told_damaged (counter_of payload) right same)

  pub checked_differs : (c : ℕ) → (checked payload expected ≡ Ok (CounterDiffers c)) ↔ ((counter_differs payload expected ≡ true) × (c ≡ counter_of payload))
  unfolding counter_differs
  checked_differs c = by-told (told_differs (counter_of payload) right same c)

-- ---- which of two parts answers

module _ (in_a in_b : List ℕ) (expected : ℕ) where
  -- A's, where its check is right, and B's is not right or A's is
  pub either-from_a : payload_right in_a ≡ true → (is_right in_b expected ≡ true → is_right in_a expected ≡ true) → either in_a in_b expected ≡ Ok (A (not (is_right in_a expected)))
  either-from_a whole no-better = by (is_right in_a expected) (is_right in_b expected) refl refl
    where
      by : (r s : Bool) → is_right in_a expected ≡ r → is_right in_b expected ≡ s → either in_a in_b expected ≡ Ok (A (not r))
      by true s e f = either-a in_a in_b expected e
      by false true e f = absurd (false≢true (sym e ∙ no-better f))
      by false false e f = either-a_differs in_a in_b expected e f whole

  -- B's, where its check is right and A's is wrong
  pub either-from_b : payload_right in_a ≡ false → payload_right in_b ≡ true → either in_a in_b expected ≡ Ok (B (not (is_right in_b expected)))
  either-from_b damaged whole = by (is_right in_b expected) refl
    where
      not_right : is_right in_a expected ≡ false
      not_right = unfold is_right in ap (λ (b : Bool). b && eqb (counter_of in_a) expected) damaged

      by : (s : Bool) → is_right in_b expected ≡ s → either in_a in_b expected ≡ Ok (B (not s))
      by true f = either-b in_a in_b expected not_right f
      by false f = either-b_differs in_a in_b expected damaged f whole

-- ---- the two ports

module _ (a b : List ℕ) (n k expected : ℕ) where
  pub port_chosen : Passed (port_refusals a b n k expected) → port_of a b n k expected ≡ Ok (chosen (part_a a n k) (part_b b n k) expected)
  unfolding port_of
  port_chosen none = passes (port_refusals a b n k expected) Err (Ok (chosen (part_a a n k) (part_b b n k) expected)) none

  -- where neither is right and A's counter does not differ, B's does
  pub last_differs : Passed (port_refusals a b n k expected)
      → is_right (part_a a n k) expected ≡ false → is_right (part_b b n k) expected ≡ false → counter_differs (part_a a n k) expected ≡ false → counter_differs (part_b b n k) expected ≡ true
  unfolding port_refusals is_damaged is_right counter_differs
  last_differs none =
      by (payload_right (part_a a n k)) (eqb (counter_of (part_a a n k)) expected) (payload_right (part_b b n k)) (eqb (counter_of (part_b b n k)) expected) none.1.1.1.0
    where
      by : (r s t u : Bool) → not r && not t ≡ false → r && s ≡ false → t && u ≡ false → r && not s ≡ false → t && not u ≡ true
      by true true t u d e f g = absurd (false≢true (sym e))
      by true false t u d e f g = absurd (false≢true (sym g))
      by false s true true d e f g = absurd (false≢true (sym f))
      by false s true false d e f g = refl
      by false s false u d e f g = absurd (false≢true (sym d))
