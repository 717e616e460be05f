-- A compare, flag by flag: every bit that was set stays set; a cell's two flags become what they were with those of its own code raised,
-- and those of a cleared cell stay. By the digits of the byte that holds four cells' flags.
-- Assumes nothing.
use mathlib.Core.Path.{◌≡◌, refl, sym, ap, ap₂, ◌∙◌}
use mathlib.Core.Bool.{Bool, true, cond}
use mathlib.Core.List.{List}
use Prim.Native.Nat.{ℕ, zero, suc, ◌+◌, ◌*◌, ◌/◌, ◌%◌, ◌^◌, ◌≤◌, ◌<◌}
use native.Mathlib.Omega.{arith}
use lib.Bits.{bit_or, or_self, or_zero_r, or_shr, or_mod}
use lib.ListN.{length, get_or}
use Rattle.laws.proofs.Or.{or_again}
use Rattle.laws.proofs.Places.{by_place}
use Rattle.records.specs.Record.{flags, cell_count, record_size}
use Rattle.records.proofs.Parts.{byte_of-part}
use Rattle.thresholds.specs.Thresholds.{vuv, vov, codes_of}
use Rattle.cells.specs.Cells.{code_at, is_cleared, flags_for, flags_of, flag_byte, compare, flags_in}
use Rattle.cells.proofs.Flags.{flags-at_most_three}
use Rattle.cells.proofs.Loaded.{compare-below, compare_above, compare_inside}

-- ---- four cells in a byte

four-apart : (a b c d k : ℕ) (pick : ℕ → ℕ) → a ≤ 3 → b ≤ 3 → c ≤ 3 → d ≤ 3 → a ≡ pick 0 → b ≡ pick 1 → c ≡ pick 2 → d ≡ pick 3 → k < 4
    → (a + b * 4 + c * 16 + d * 64) / 2 ^ (2 * k) % 4 ≡ pick k
four-apart a b c d zero pick ha hb hc hd ea eb ec ed h = let at : (a + b * 4 + c * 16 + d * 64) / 1 % 4 ≡ a = omega arith in at ∙ ea
four-apart a b c d (suc zero) pick ha hb hc hd ea eb ec ed h = let at : (a + b * 4 + c * 16 + d * 64) / 4 % 4 ≡ b = omega arith in at ∙ eb
four-apart a b c d (suc (suc zero)) pick ha hb hc hd ea eb ec ed h = let at : (a + b * 4 + c * 16 + d * 64) / 16 % 4 ≡ c = omega arith in at ∙ ec
four-apart a b c d (suc (suc (suc zero))) pick ha hb hc hd ea eb ec ed h = let at : (a + b * 4 + c * 16 + d * 64) / 64 % 4 ≡ d = omega arith in at ∙ ed
four-apart a b c d (suc (suc (suc (suc k)))) pick ha hb hc hd ea eb ec ed h = absurd (omega arith)

module _ (r : List ℕ) where
  own_in_byte : (c : ℕ) → flag_byte r (c / 4) / 2 ^ (2 * (c % 4)) % 4 ≡ flags_of r c
  unfolding flag_byte
  own_in_byte c =
      let j = c / 4 in
      let few : c % 4 < 4 = omega arith in
      let back : 4 * j + c % 4 ≡ c = omega arith in
      let first : 4 * j ≡ 4 * j + 0 = omega arith in
      four-apart (flags_of r (4 * j)) (flags_of r (4 * j + 1)) (flags_of r (4 * j + 2)) (flags_of r (4 * j + 3)) (c % 4) (λ k. flags_of r (4 * j + k))
      (flags-at_most_three r (4 * j)) (flags-at_most_three r (4 * j + 1)) (flags-at_most_three r (4 * j + 2)) (flags-at_most_three r (4 * j + 3))
      (ap (flags_of r) first) refl refl refl few
      ∙ ap (flags_of r) back

  -- ---- what a compare makes of them

  module _ (whole : length r ≡ record_size) where
    pub only_sets : (i : ℕ) → bit_or (get_or r i 0) (get_or (compare r) i 0) ≡ get_or (compare r) i 0
    only_sets i =
        by_place flags.at flags.size i (λ h. as_it_was (compare-below r h)) (λ j h e. ap₂ bit_or (ap (λ (k : ℕ). get_or r k 0) (sym e)) (raised h e) ∙ or_again (get_or r (flags.at + j) 0) (flag_byte r j) ∙ sym (raised h e))
        (λ h. as_it_was (compare_above r h))
      where
        as_it_was : get_or (compare r) i 0 ≡ get_or r i 0 → bit_or (get_or r i 0) (get_or (compare r) i 0) ≡ get_or (compare r) i 0
        as_it_was e = ap (bit_or (get_or r i 0)) e ∙ or_self (get_or r i 0) ∙ sym e

        raised : {j : ℕ} → j < flags.size → flags.at + j ≡ i → get_or (compare r) i 0 ≡ bit_or (get_or r (flags.at + j) 0) (flag_byte r j)
        raised {j} h e = ap (λ (k : ℕ). get_or (compare r) k 0) (sym e) ∙ compare_inside r j h whole

    pub own-flags : (c : ℕ) → c < cell_count → flags_in (compare r) c ≡ bit_or (flags_in r c) (flags_of r c)
    unfolding flags_in
    own-flags c h =
        let j = c / 4 in
        let m = 2 * (c % 4) in
        let there : j < flags.size = omega arith in
        ap (λ (b : ℕ). b / 2 ^ m % 4) (byte_of-part flags (compare r) there ∙ compare_inside r j there whole)
        ∙ ap (λ (b : ℕ). b % 4) (or_shr (get_or r (flags.at + j) 0) (flag_byte r j) m)
        ∙ or_mod (get_or r (flags.at + j) 0 / 2 ^ m) (flag_byte r j / 2 ^ m) 2
        ∙ ap₂ bit_or (ap (λ (b : ℕ). b / 2 ^ m % 4) (sym (byte_of-part flags r there))) (own_in_byte c)

    pub cleared_skipped : (c : ℕ) → c < cell_count → is_cleared (code_at r c).0 ≡ true → flags_in (compare r) c ≡ flags_in r c
    unfolding flags_of
    cleared_skipped c h cleared =
        own-flags c h
        ∙ ap (λ (b : Bool). bit_or (flags_in r c) (cond b 0 (flags_for (code_at r c) (codes_of (vuv r)) (codes_of (vov r))))) cleared
        ∙ or_zero_r (flags_in r c)
