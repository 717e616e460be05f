-- Which of two parts answers: A's if right, else B's if right, else A's if only its counter differs, else B's likewise, and none where both are
-- damaged. By four tests: is A's check right and is its counter the one expected, and the same of B's.
-- Assumes nothing.
use mathlib.Core.Path.{◌≡◌, refl, sym}
use mathlib.Core.Bool.{Bool, true, false, cond, not, ◌&&◌, false≢true}
use mathlib.Core.List.{List}
use Prim.Native.Nat.{ℕ}
use lib.Dec.{eqb}
use Rattle.pec.specs.Words.{counter_of, payload_right}
use Rattle.refusals.specs.declared.Refusal.TheVariants.{BothDamaged}
use Rattle.ports.specs.declared.ports.Port.{Port}
use Rattle.ports.specs.declared.ports.Port.TheVariants.{A, B}
use Rattle.ports.specs.Verdicts.{is_damaged, is_right, counter_differs}
use Rattle.ports.specs.Ports.{chosen}
use Rattle.std.specs.Prelude.{Result, Ok, Err}
use Rattle.refusals.specs.declared.Refusal.{Refusal}

-- ---- by the tests

abbrev choice : Bool → Bool → Bool → Bool → Result Port Refusal
choice p q r s = cond (not p && not r) (Err BothDamaged) (Ok (cond (p && q) (A false) (cond (r && s) (B false) (cond (p && not q) (A true) (B true)))))

by-a : (p q r s : Bool) → p && q ≡ true → choice p q r s ≡ Ok (A false)
by-a true true r s h = refl
by-a true false r s h = absurd (false≢true h)
by-a false q r s h = absurd (false≢true h)

by-b : (p q r s : Bool) → p && q ≡ false → r && s ≡ true → choice p q r s ≡ Ok (B false)
by-b true true r s h e = absurd (false≢true (sym h))
by-b true false true true h e = refl
by-b true false true false h e = absurd (false≢true e)
by-b true false false s h e = absurd (false≢true e)
by-b false q true true h e = refl
by-b false q true false h e = absurd (false≢true e)
by-b false q false s h e = absurd (false≢true e)

by-a_differs : (p q r s : Bool) → p && q ≡ false → r && s ≡ false → p ≡ true → choice p q r s ≡ Ok (A true)
by-a_differs true true r s h e d = absurd (false≢true (sym h))
by-a_differs true false true true h e d = absurd (false≢true (sym e))
by-a_differs true false true false h e d = refl
by-a_differs true false false s h e d = refl
by-a_differs false q r s h e d = absurd (false≢true d)

by-b_differs : (p q r s : Bool) → p ≡ false → r && s ≡ false → r ≡ true → choice p q r s ≡ Ok (B true)
by-b_differs true q r s h e d = absurd (false≢true (sym h))
by-b_differs false q true true h e d = absurd (false≢true (sym e))
by-b_differs false q true false h e d = refl
by-b_differs false q false s h e d = absurd (false≢true d)

by-none : (p q r s : Bool) → p ≡ false → r ≡ false → choice p q r s ≡ Err BothDamaged
by-none true q r s h e = absurd (false≢true (sym h))
by-none false q true s h e = absurd (false≢true (sym e))
by-none false q false s h e = refl

-- ---- two parts

module _ (in_a in_b : List ℕ) (expected : ℕ) where
  -- which of the two, or none
  abbrev pub either : Result Port Refusal
  either = cond (is_damaged in_a && is_damaged in_b) (Err BothDamaged) (Ok (chosen in_a in_b expected))

  abbrev right_a : Bool
  right_a = payload_right in_a

  abbrev right_b : Bool
  right_b = payload_right in_b

  pub either-a : is_right in_a expected ≡ true → either ≡ Ok (A false)
  unfolding is_damaged is_right counter_differs chosen
  either-a h = by-a right_a (eqb (counter_of in_a) expected) right_b (eqb (counter_of in_b) expected) h

  pub either-b : is_right in_a expected ≡ false → is_right in_b expected ≡ true → either ≡ Ok (B false)
  unfolding is_damaged is_right counter_differs chosen
  either-b h e = by-b right_a (eqb (counter_of in_a) expected) right_b (eqb (counter_of in_b) expected) h e

  pub either-a_differs : is_right in_a expected ≡ false → is_right in_b expected ≡ false → right_a ≡ true → either ≡ Ok (A true)
  unfolding is_damaged is_right counter_differs chosen
  either-a_differs h e d = by-a_differs right_a (eqb (counter_of in_a) expected) right_b (eqb (counter_of in_b) expected) h e d

  pub either-b_differs : right_a ≡ false → is_right in_b expected ≡ false → right_b ≡ true → either ≡ Ok (B true)
  unfolding is_damaged is_right counter_differs chosen
  either-b_differs h e d = by-b_differs right_a (eqb (counter_of in_a) expected) right_b (eqb (counter_of in_b) expected) h e d

  pub either-none : right_a ≡ false → right_b ≡ false → either ≡ Err BothDamaged
  unfolding is_damaged is_right counter_differs chosen
  either-none h e = by-none right_a (eqb (counter_of in_a) expected) right_b (eqb (counter_of in_b) expected) h e
