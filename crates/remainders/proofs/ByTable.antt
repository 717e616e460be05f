-- The table gives the remainder: k bits at once, for k at most 8, and so byte after byte. Once over
-- the width. The entry for a number of k bits is the remainder of those k bits, since zeros in front of them leave 0.
-- Assumes nothing.
use mathlib.Core.Path.{◌≡◌, refl, sym, ap, ◌∙◌}
use mathlib.Core.List.{List, [], ◌∷◌}
use Prim.Native.Nat.{ℕ, suc, ◌+◌, ◌-◌, ◌*◌, ◌/◌, ◌%◌, ◌^◌, ◌≤◌, ◌<◌}
use native.Mathlib.Nat.{lt_of_lt_of_le}
use native.Mathlib.Omega.{arith}
use lib.ListN.{get_or}
use lib.Pow.{pow_mono}
use Rattle.laws.specs.Bits.{◌⊕◌, bits_of, bits_of_bytes}
use Rattle.laws.proofs.Xor.{xor_below}
use Rattle.laws.proofs.Tables.{at_each}
use Rattle.pec.specs.Remainder.{remainder}
use Rattle.remainders.specs.ByTable.{entry, table_of, table_step, by_table}
use Rattle.pec.proofs.Remainder.{remainder_append, remainder-below}
use Rattle.pec.proofs.ManyBits.{zeros_first, over_below, many_bits}

pub entry-of_bits : (w g k : ℕ) {x : ℕ} → k ≤ 8 → x < 2 ^ k → entry w g x ≡ remainder w g 0 (bits_of k x)
unfolding entry
entry-of_bits w g k {x} hk hx =
    let apart : (8 - k) + k ≡ 8 = omega arith in
    ap (λ (n : ℕ). remainder w g 0 (bits_of n x)) (sym apart) ∙ zeros_first w g (8 - k) k hx

-- the index of a step of k bits is a number of k bits
pub index_below : (w k : ℕ) {r x : ℕ} → r < 2 ^ w → x < 2 ^ k → (r * 2 ^ k / 2 ^ w) ⊕ x < 2 ^ k
index_below w k hr hx = xor_below k (over_below w k hr) hx

-- the table's rule, at every entry
pub table-rule : (w g : ℕ) {j : ℕ} → j < 256 → get_or (table_of w g) j 0 ≡ entry w g j
unfolding table_of
table-rule w g {j} h = at_each (entry w g) 256 j h

pub table_step_lem : (w g k : ℕ) {r x : ℕ} → k ≤ 8 → r < 2 ^ w → x < 2 ^ k → table_step w (table_of w g) k r x ≡ remainder w g r (bits_of k x)
unfolding table_step
table_step_lem w g k {r} {x} hk hr hx =
    let index = index_below w k hr hx in
    ap (λ (n : ℕ). (r * 2 ^ k % 2 ^ w) ⊕ n) (table-rule w g (lt_of_lt_of_le index (pow_mono hk)) ∙ entry-of_bits w g k hk index)
    ∙ sym (many_bits w g k x hr)

-- the two ways agree on every byte string
pub ways_agree : (w g : ℕ) → g < 2 ^ w → (bytes : List ℕ) → ((i : ℕ) → get_or bytes i 0 < 256)
    → {r : ℕ} → r < 2 ^ w → by_table w (table_of w g) r bytes ≡ remainder w g r (bits_of_bytes bytes)
unfolding by_table remainder bits_of_bytes
ways_agree w g hg [] hb hr = refl
ways_agree w g hg (b ∷ bs) hb {r} hr =
    ap (λ (x : ℕ). by_table w (table_of w g) x bs) (table_step_lem w g 8 (omega arith) hr (hb 0))
    ∙ ways_agree w g hg bs (λ i. hb (suc i)) (remainder-below w (bits_of 8 b) hg hr)
    ∙ sym (remainder_append w g r (bits_of 8 b) (bits_of_bytes bs))
