-- Which port answers, and why none does: down the list of refusals, and back up it.
-- Assumes nothing.
use mathlib.Core.Path.{◌≡◌, sym, ap, ◌∙◌}
use mathlib.Core.Bool.{Bool, true, false, ◌&&◌}
use mathlib.Core.List.{List}
use Prim.Native.Nat.{ℕ, ◌+◌, ◌*◌, ◌≤◌}
use lib.Dec.{leb, ltb, eqb}
use lib.ListN.{length}
use native.Mathlib.Omega.{arith}
use borrow.Author.Tests.{not-false, eqb-true, eq-eqb, le-leb, le-ltb}
use Rattle.refusals.specs.declared.Refusal.TheVariants.{LengthWrong, PositionWrong}
use Rattle.refusals.specs.Order.{decide, Passed}
use Rattle.refusals.proofs.Deciding.{decide-map, has_passed}
use Rattle.laws.proofs.Tests.{both_first, both_second}
use Rattle.records.specs.Record.{most_count}
use Rattle.records.specs.Commands.{most_monitors, payload_size}
use Rattle.ports.specs.declared.ports.Port.TheVariants.{A, B}
use Rattle.ports.specs.Verdicts.{counter_row}
use Rattle.ports.specs.Ports.{place_a, place_b, part_a, part_b, chosen, port_refusals, port_of, by_port}
use Rattle.ports.proofs.Tests.{position-test}
use Rattle.ports.proofs.Choosing.{either}
use Rattle.std.specs.Prelude.{Ok, Err}

-- a question that no number refuses before its parts are looked at: monitor k of n, and two whole replies
pub record Asked (a b : List ℕ) (n k : ℕ) : Type 0 where
  pub most : n ≤ most_monitors
  pub first : 1 ≤ k
  pub last : k ≤ n
  pub size-a : length a ≡ payload_size * n
  pub size-b : length b ≡ payload_size * n

module _ (a b : List ℕ) (n k : ℕ) where
  abbrev position_test : Bool
  position_test = leb 1 n && leb n most_monitors && leb 1 k && leb k n

  abbrev length_test : Bool
  length_test = eqb (length a) (payload_size * n) && eqb (length b) (payload_size * n)

  -- ---- the tests of the numbers

  pub asked_by : position_test ≡ true → length_test ≡ true → Asked a b n k
  asked_by p l =
      let t = position-test n k p in
      record {
        most = t.0;
        first = t.1;
        last = t.2;
        size-a = eqb-true (length a) (payload_size * n) (both_first (eqb (length a) (payload_size * n)) (eqb (length b) (payload_size * n)) l);
        size-b = eqb-true (length b) (payload_size * n) (both_second (eqb (length a) (payload_size * n)) (eqb (length b) (payload_size * n)) l);
      }

  -- monitor k's part lies within each reply
  pub within_a : Asked a b n k → place_a n k * payload_size + payload_size ≤ length a
  unfolding place_a
  within_a q = omega arith

  pub within_b : Asked a b n k → place_b n k * payload_size + payload_size ≤ length b
  unfolding place_b
  within_b q = omega arith

  module _ (expected : ℕ) where
    -- ---- down the list

    pub counter_wrong : ltb most_count expected ≡ true → port_of a b n k expected ≡ Err PositionWrong
    unfolding port_of port_refusals counter_row decide
    counter_wrong c = simp c

    pub position_wrong : ltb most_count expected ≡ false → position_test ≡ false → port_of a b n k expected ≡ Err PositionWrong
    unfolding port_of port_refusals counter_row decide
    position_wrong c p = simp (c, p)

    pub length_wrong : ltb most_count expected ≡ false → position_test ≡ true → length_test ≡ false → port_of a b n k expected ≡ Err LengthWrong
    unfolding port_of port_refusals counter_row decide
    length_wrong c p l = simp (c, p, l)

    -- behind these it goes by the two parts
    pub by_parts : ltb most_count expected ≡ false → position_test ≡ true → length_test ≡ true → port_of a b n k expected ≡ either (part_a a n k) (part_b b n k) expected
    unfolding port_of port_refusals counter_row decide
    by_parts c p l = simp (c, p, l)

    -- so with a counter that may be expected it goes by the two parts
    pub answered : Asked a b n k → expected ≤ most_count → port_of a b n k expected ≡ either (part_a a n k) (part_b b n k) expected
    answered q e =
        by_parts (le-ltb most_count expected e)
        (simp (le-leb 1 n (omega arith), le-leb n most_monitors q.most, le-leb 1 k q.first, le-leb k n q.last))
        (simp (eq-eqb (length a) (payload_size * n) q.size-a, eq-eqb (length b) (payload_size * n) q.size-b))

    -- ---- back up the list

    -- where a port answers, no number was refused
    pub none-holds : by_port false true true (port_of a b n k expected) ≡ true → Passed (port_refusals a b n k expected)
    unfolding port_of
    none-holds h =
        has_passed (port_refusals a b n k expected) (λ r. false) (by_port false true true (Ok (chosen (part_a a n k) (part_b b n k) expected))) true (λ r. apart)
        (sym (decide-map (by_port false true true) (port_refusals a b n k expected) Err (Ok (chosen (part_a a n k) (part_b b n k) expected))) ∙ h)
      where
        apart : true ≡ false → ⊥
        apart e = let z : ◌≡◌ {A = ℕ} 0 1 = cc in omega arith

    asked_where : by_port false true true (port_of a b n k expected) ≡ true → Asked a b n k
    unfolding port_refusals
    asked_where h = let p = none-holds h in asked_by (not-false position_test p.1.0) (not-false length_test p.1.1.0)

    pub asked-a : (differs : Bool) → port_of a b n k expected ≡ Ok (A differs) → Asked a b n k
    asked-a differs e = asked_where (ap (by_port false true true) e)

    pub asked-b : (differs : Bool) → port_of a b n k expected ≡ Ok (B differs) → Asked a b n k
    asked-b differs e = asked_where (ap (by_port false true true) e)
