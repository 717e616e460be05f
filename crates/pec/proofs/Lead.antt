-- Four bytes that lead the check of ten bits back to its start value. With them in front, a byte string has the check and the seal that it has
-- alone: so two bytes are sealed, and are right, as the six that end in them.
-- Assumes nothing.
use mathlib.Core.Path.{◌≡◌, refl, ap, ap₂, ◌∙◌}
use mathlib.Core.Bool.{Bool, xor, ◌&&◌}
use mathlib.Core.List.{List, [], ◌∷◌, ◌++◌, append_assoc}
use Prim.Native.Nat.{ℕ, ◌+◌, ◌*◌, ◌/◌, ◌%◌}
use native.Mathlib.Omega.{arith}
use lib.Dec.{eqb}
use lib.ListN.{length, take}
use Rattle.laws.specs.Bits.{◌⊕◌, odd, bits_of, bits_of_bytes}
use Rattle.laws.proofs.Bits.{bits_of_bytes_append}
use Rattle.laws.proofs.Tests.{same_test}
use Rattle.pec.specs.Remainder.{once, step, remainder}
use Rattle.pec.specs.Words.{two_bytes, word_at, polynomial10, data_pec, seal, sealed_right, payload_right}
use Rattle.pec.proofs.Remainder.{remainder_append}

abbrev pub lead : List ℕ
lead = 0x00 ∷ 0x00 ∷ 0x01 ∷ 0x1A ∷ []

back_at-start : remainder 10 polynomial10 16 (bits_of_bytes lead) ≡ 16
unfolding remainder step once bits_of bits_of_bytes odd ◌⊕◌ xor
back_at-start = refl

module _ (own : List ℕ) (counter : ℕ) where
  pub lead_check : data_pec (lead ++ own) counter ≡ data_pec own counter
  unfolding data_pec
  lead_check =
      let rest = bits_of_bytes own ++ bits_of 6 counter in
      ap (remainder 10 polynomial10 16)
      (ap (λ (bs : List Bool). bs ++ bits_of 6 counter) (bits_of_bytes_append lead own) ∙ append_assoc (bits_of_bytes lead) (bits_of_bytes own) (bits_of 6 counter))
      ∙ remainder_append 10 polynomial10 16 (bits_of_bytes lead) rest
      ∙ ap (λ (r : ℕ). remainder 10 polynomial10 r rest) back_at-start

  pub lead-seal : seal (lead ++ own) counter ≡ seal own counter
  unfolding seal
  lead-seal = ap (λ (n : ℕ). two_bytes (counter % 64 * 1024 + n)) lead_check

-- two bytes and their seal; of another length neither is right
pub lead-right : (own : List ℕ) → payload_right (lead ++ own) ≡ sealed_right 2 own
unfolding payload_right sealed_right word_at
lead-right own =
    ap₂ ◌&&◌ (same_test (length (lead ++ own)) 8 (length own) 4 (λ e. omega arith) (λ e. omega arith))
    (ap (eqb (word_at own 2 % 1024)) (lead_check (take 2 own) (word_at own 2 / 1024)))
