-- `check_words::words::counter_in` meets its contract: of the two bytes that seal a payload the second is below what the counter counts in.
-- Assumes nothing.
use mathlib.Core.Path.{◌≡◌, ap, ◌∙◌}
use Prim.Native.Nat.{ℕ, ◌+◌, ◌*◌, ◌/◌, ◌<◌, ◌≤◌}
use native.Mathlib.Omega.{arith}
use lib.ListN.{get_or, get_or-eq_default}
use Rattle.pec.specs.Words.{word_at, counter_of}
use Rattle.check_words.proofs.words.counter_in.Goals as goal

pub returns-in-Some : goal.returns-in-Some
unfolding counter_of word_at
returns-in-Some c =
    let eight = c.args.eight.now in
    ap (λ (n : ℕ). n / 4) (c.in-Some.ensures.lookup.3.1 0) ∙ by (get_or eight 6 0) (get_or eight (6 + 1) 0) (c.type_inv.eight 7).fits
  where
    by : (x y : ℕ) → y < 256 → x / 4 ≡ (x * 256 + y) / 1024
    by x y h = omega arith

pub returns-in-None : goal.returns-in-None
unfolding counter_of word_at
returns-in-None c =
    let eight = c.args.eight.now in
    let none : (i : ℕ) → 6 ≤ i → get_or eight i 0 ≡ 0 = λ i h. get_or-eq_default eight 0 (omega (arith, c.in-None.ensures.lookup.3)) in
    omega (arith, none 6 (omega arith), none (6 + 1) (omega arith))
