-- What a store writes is what a comparison reads: cell c holds the code given for it, and a load's flags are those of the codes given. By
-- the two bytes of a code, which put together are its 16 bits.
-- Assumes nothing.
use mathlib.Core.Path.{◌≡◌, ap, ap₂, ◌∙◌}
use mathlib.Core.Bool.{Bool, false, cond}
use mathlib.Core.List.{List}
use Prim.Native.Nat.{ℕ, suc, ◌+◌, ◌-◌, ◌*◌, ◌/◌, ◌%◌, ◌<◌}
use native.Mathlib.Omega.{arith}
use lib.Bits.{bit_or}
use lib.IntN.{ℤ, pos, negsuc}
use lib.ListN.{length}
use borrow.Author.Tests.{le-ltb, lt-ltb}
use mir.Syntax.{w16}
use mir.Val.{SFits}
use Rattle.records.specs.Record.{cells, flags, configuration_b, cell_count, record_size, byte_in}
use Rattle.records.proofs.Parts.{byte_of-part}
use Rattle.thresholds.specs.Thresholds.{signed, lower, upper, vuv, vov, codes_of}
use Rattle.cells.specs.Cells.{word, store, code_in, code_at, is_cleared, flags_for, flags_of, flags_in, load}
use Rattle.cells.proofs.CodeBits.{given, low_byte, high_byte}
use Rattle.cells.proofs.Loaded.{length-store, store_inside, part-before-store, part-after-store}
use Rattle.cells.proofs.OwnFlags.{own-flags}

-- a code's 16 bits, read again
word_back : (z : ℤ) → SFits w16 z → signed 16 (word z) ≡ z
unfolding signed word
word_back (pos n) f = ap (λ (b : Bool). cond b (pos n) (negsuc (65536 - suc n))) (lt-ltb n 32768 (omega arith))
word_back (negsuc n) f =
    let back : 65536 - suc (65535 - n) ≡ n = omega arith in
    ap (λ (b : Bool). cond b (pos (65535 - n)) (negsuc (65536 - suc (65535 - n)))) (le-ltb (65535 - n) 32768 (omega arith)) ∙ ap negsuc back

module _ (codes : List ℤ) where
  module _ (r : List ℕ) (whole : length r ≡ record_size) (c : ℕ) (there : c < cell_count) (fits : SFits w16 (given codes c)) where
    pub own_code : code_at (store codes r) c ≡ record { 0 = given codes c }
    unfolding code_at code_in byte_in
    own_code =
        let low : 2 * c < cells.size = omega arith in
        let high : 2 * c + 1 < cells.size = omega arith in
        let together : word (given codes c) % 256 + word (given codes c) / 256 * 256 ≡ word (given codes c) = omega arith in
        ap (λ (n : ℕ). record { 0 = signed 16 n })
        (ap₂ (λ (a b : ℕ). a + b * 256) (byte_of-part cells (store codes r) low ∙ store_inside codes r (2 * c) low whole ∙ low_byte codes c)
        (byte_of-part cells (store codes r) high ∙ store_inside codes r (2 * c + 1) high whole ∙ high_byte codes c)
        ∙ together)
        ∙ ap (λ (z : ℤ). record { 0 = z }) (word_back (given codes c) fits)

    -- a load skips nothing, where none of its codes is that of a cleared cell
    pub load-flags : is_cleared (given codes c) ≡ false
        → flags_in (load codes r) c ≡ bit_or (flags_in r c) (flags_for (record { 0 = given codes c }) (codes_of (vuv r)) (codes_of (vov r)))
    unfolding load flags_of flags_in vuv vov lower upper byte_in
    load-flags uncleared =
        let b = part-before-store codes r configuration_b (omega arith) in
        let f = part-after-store codes r flags (omega arith) in
        own-flags (store codes r) (length-store codes r ∙ whole) c there
        ∙ rw (own_code, uncleared, b, f)
