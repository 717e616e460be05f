-- What is counted and joined along a chain: one monitor more, at either end of a list of them; the number that a count shows; and the final pass value, which is
-- come to exactly where all of them pass.
-- Assumes nothing.
use mathlib.Core.Path.{◌≡◌, refl, sym, ap, ap₂, ◌∙◌}
use mathlib.Core.Bool.{Bool, true, false, cond, ◌&&◌}
use mathlib.Core.List.{List, [], ◌∷◌, ◌++◌}
use mathlib.Core.Logic.{◌↔◌}
use Prim.Native.Nat.{ℕ, ◌+◌, ◌-◌, ◌%◌, ◌≤◌, ◌<◌}
use native.Mathlib.Nat.{zero-add, mod-lt}
use native.Mathlib.Omega.{arith}
use lib.Bits.{bit_or, or_comm}
use lib.ListN.{length}
use lib.Dec.{ltb}
use borrow.Author.Tests.{eq-eqb, eqb-true, ltb-true, ltb-false}
use Rattle.laws.specs.Counts.{all, count}
use Rattle.laws.proofs.Counts.{count_most, count_snoc, all-counted, counted-all}
use Rattle.laws.proofs.Or.{or_assoc, or_none}
use Rattle.laws.proofs.Tests.{both_first, both_second}
use Rattle.records.specs.Record.{cmf0, byte_of}
use Rattle.records.specs.Commands.{most_monitors}
use Rattle.messages.specs.Messages.{pass_count}
use Rattle.measuring.specs.Measuring.{measured, passes}
use Rattle.heartbeats.specs.Steps.{counted_down, joined_to}
use Rattle.guarding.specs.Chains.{passing, union, less}

-- ---- one monitor more

pub passing_snoc : (rs : List (List ℕ)) (r : List ℕ) → passing (rs ++ r ∷ []) ≡ passing (r ∷ rs)
unfolding passing count
passing_snoc rs r = count_snoc passes rs r ∙ omega arith

pub union_snoc : (rs : List (List ℕ)) (r : List ℕ) → union (rs ++ r ∷ []) ≡ union (r ∷ rs)
unfolding union
union_snoc [] r = refl
union_snoc (q ∷ rs) r =
    let f = byte_of cmf0 (measured q) in
    let g = byte_of cmf0 (measured r) in
    ap (bit_or f) (union_snoc rs r)
    ∙ sym (or_assoc f g (union rs))
    ∙ ap (λ (x : ℕ). bit_or x (union rs)) (or_comm f g)
    ∙ or_assoc g f (union rs)

-- the flags of one join what came, and those of the others join these
pub joined-first : (r : List ℕ) (rs : List (List ℕ)) (f : ℕ) → bit_or (joined_to r f) (union rs) ≡ bit_or f (union (r ∷ rs))
unfolding joined_to union
joined-first r rs f = or_assoc f (byte_of cmf0 (measured r)) (union rs)

pub joined-last : (r : List ℕ) (rs : List (List ℕ)) → joined_to r (union rs) ≡ union (r ∷ rs)
unfolding joined_to union
joined-last r rs = or_comm (union rs) (byte_of cmf0 (measured r))

-- ---- counting down in eight bits

pub less_byte : (a b : ℕ) → less a b < 256
unfolding less
less_byte a b = mod-lt (a + (256 - b % 256)) (omega arith)

pub less_none : (a : ℕ) → a < 256 → less a 0 ≡ a
unfolding less
less_none a h = omega arith

pub counted_byte : (r : List ℕ) (c : ℕ) → c < 256 → counted_down r c < 256
unfolding counted_down
counted_byte r c h = by (passes r)
  where
    by : (b : Bool) → cond b ((c + 255) % 256) c < 256
    by true = mod-lt (c + 255) (omega arith)
    by false = h

one_down : (c p : ℕ) → less ((c + 255) % 256) p ≡ less c (1 + p)
unfolding less
one_down c p = omega arith

-- it counts one down, or not, and the others count down from there
pub counted-first : (r : List ℕ) (rs : List (List ℕ)) (c : ℕ) → less (counted_down r c) (passing rs) ≡ less c (passing (r ∷ rs))
unfolding counted_down passing count
counted-first r rs c = by (passes r)
  where
    by : (b : Bool) → less (cond b ((c + 255) % 256) c) (count passes rs) ≡ less c (cond b 1 0 + count passes rs)
    by true = one_down c (count passes rs)
    by false = ap (less c) (sym (zero-add (count passes rs)))

one_further : (c p : ℕ) → (less c p + 255) % 256 ≡ less c (1 + p)
unfolding less
one_further c p = omega arith

-- or the others count down first
pub counted-last : (r : List ℕ) (rs : List (List ℕ)) (c : ℕ) → counted_down r (less c (passing rs)) ≡ less c (passing (r ∷ rs))
unfolding counted_down passing count
counted-last r rs c = by (passes r)
  where
    by : (b : Bool) → cond b ((less c (count passes rs) + 255) % 256) (less c (count passes rs)) ≡ less c (cond b 1 0 + count passes rs)
    by true = one_further c (count passes rs)
    by false = ap (less c) (sym (zero-add (count passes rs)))

within : (a b : ℕ) → a < 256 → b ≤ a → less a b + b ≡ a
unfolding less
within a b h l = omega arith

beyond : (a b : ℕ) → b < 256 → a < b → less a b + b ≡ a + 256
unfolding less
beyond a b h l = omega arith

-- what is left of a number less what is left of it
pub less_back : (a b : ℕ) → a < 256 → b < 256 → less a (less a b) ≡ b
less_back a b h l = by (ltb a b) refl
  where
    by : (t : Bool) → ltb a b ≡ t → less a (less a b) ≡ b
    by true e =
        let sum : less a b + b ≡ a + 256 = beyond a b l (ltb-true a b e) in
        let byte : less a b < 256 = less_byte a b in
        omega (arith, beyond a (less a b) byte (omega arith))
    by false e =
        let sum : less a b + b ≡ a = within a b h (ltb-false a b e) in
        omega (arith, within a (less a b) h (omega arith))

-- ---- all of them

pub all-passing : (rs : List (List ℕ)) → (passing rs ≡ length rs) ↔ (all passes rs ≡ true)
unfolding passing
all-passing rs = (counted-all passes rs, all-counted passes rs)

no_flags : (rs : List (List ℕ)) → all passes rs ≡ true → union rs ≡ 0
unfolding all union passes
no_flags [] e = refl
no_flags (r ∷ rs) e =
    ap₂ bit_or (eqb-true (byte_of cmf0 (measured r)) 0 (both_first (passes r) (all passes rs) e)) (no_flags rs (both_second (passes r) (all passes rs) e))

-- and back: no flag in the union, none in any
flags-none : (rs : List (List ℕ)) → union rs ≡ 0 → all passes rs ≡ true
unfolding all union passes
flags-none [] e = refl
flags-none (r ∷ rs) e =
    let own = byte_of cmf0 (measured r) in
    let first : own ≡ 0 = or_none own (union rs) e in
    let rest : union rs ≡ 0 = or_none (union rs) own (or_comm (union rs) own ∙ e) in
    ap₂ ◌&&◌ (eq-eqb own 0 first) (flags-none rs rest)

pub passing_most : (rs : List (List ℕ)) → passing rs ≤ length rs
unfolding passing
passing_most rs = count_most passes rs

as_many : (a p : ℕ) → a ≤ most_monitors → p ≤ a → less (a + 0x42) p ≡ pass_count → p ≡ a
unfolding less
as_many a p h l e = omega arith

to_the_end : (a : ℕ) → a ≤ most_monitors → less (a + 0x42) a ≡ pass_count
unfolding less
to_the_end a h = omega arith

-- the final pass value
pub pass_value : (rs : List (List ℕ)) → length rs ≤ most_monitors
    → ((less (length rs + 0x42) (passing rs) ≡ pass_count) × (union rs ≡ 0)) ↔ (all passes rs ≡ true)
pass_value rs few = (
  λ e. (all-passing rs).0 (as_many (length rs) (passing rs) few (passing_most rs) e.0),
  λ e. (ap (less (length rs + 0x42)) ((all-passing rs).1 e) ∙ to_the_end (length rs) few, no_flags rs e),
)

-- and so for any CMC_NDEV of a byte: it is come to exactly where all pass and CMC_NDEV is the one for so many
its-ndev : (first a : ℕ) → first < 256 → a ≤ most_monitors → less first a ≡ pass_count → first ≡ a + 0x42
unfolding less
its-ndev first a h l e = omega arith

pub pass_exactly : (rs : List (List ℕ)) (first : ℕ) → first < 256 → length rs ≤ most_monitors
    → ((less first (passing rs) ≡ pass_count) × (union rs ≡ 0)) ↔ ((all passes rs ≡ true) × (first ≡ length rs + 0x42))
pass_exactly rs first byte few = (
  λ e.
      let each = flags-none rs e.1 in
      (each, its-ndev first (length rs) byte few (ap (less first) (sym ((all-passing rs).1 each)) ∙ e.0)),
  λ e. (ap (λ (n : ℕ). less n (passing rs)) e.1 ∙ ((pass_value rs few).1 e.0).0, no_flags rs e.0),
)
