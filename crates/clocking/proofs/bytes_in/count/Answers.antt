-- `clocking::bytes_in::count` meets its contract: the two bytes of the count take the place of the first two.
-- Assumes nothing.
use mathlib.Core.Path.{◌≡◌, refl, ap, ◌∙◌}
use mathlib.Core.List.{List, [], ◌∷◌, ◌++◌}
use Prim.Native.Nat.{ℕ, ◌/◌, ◌%◌, ◌≤◌}
use native.Mathlib.Omega.{arith}
use lib.ListN.{length, set}
use borrow.Rule.Slice.PartMut.{post_of}
use borrow.Author.Rules.{rules}
use Rattle.clocking.specs.Clock.{one_more}
use Rattle.clocking.specs.Bytes.{counted}
use Rattle.clocking.proofs.bytes_in.count.Goals as goal

placed : (s : List ℕ) (low high : ℕ) → 2 ≤ length s → (low ∷ high ∷ []) ++ post_of 0 2 s ≡ set (set s 0 low) 1 high
placed [] low high h = absurd (omega arith)
placed (x ∷ []) low high h = absurd (omega arith)
placed (x ∷ y ∷ s) low high h = refl

pub returns : goal.returns
unfolding counted
returns c =
    let s = c.args.state.now in
    let n = c.one_more-seen.result in
    let sized : 2 ≤ length s = search rules in
    let high : n / 256 % 256 ≡ n / 256 = omega (arith, c.one_more-seen.ensures.upper_bound) in
    ap (λ (two : List ℕ). two ++ post_of 0 2 s) (c.copy_from_slice.ensures.after ∙ c.to_le_bytes.ensures)
    ∙ placed s (n % 256) (n / 256 % 256) sized
    ∙ ap (λ (k : ℕ). set (set s 0 (n % 256)) 1 k) high
    ∙ ap (λ (k : ℕ). set (set s 0 (k % 256)) 1 (k / 256)) (c.one_more-seen.ensures.value ∙ ap one_more c.seen_in.ensures.value)
