-- Eight bytes are a payload that is right exactly when their number is. Bytes that are not eight are none, and neither is the number 0 that
-- stands for them.
-- Assumes nothing.
use mathlib.Core.Path.{◌≡◌, refl, sym, ap, ◌∙◌}
use mathlib.Core.Bool.{Bool, false, xor, ◌&&◌}
use mathlib.Core.List.{List}
use Prim.Native.Nat.{ℕ, ◌/◌, ◌%◌}
use native.Mathlib.Omega.{arith}
use lib.Dec.{eqb}
use lib.ListN.{length, take}
use borrow.Author.Tests.{eq-eqb}
use Rattle.laws.specs.Bits.{◌⊕◌, odd, bits_of, Bytes, number_of}
use Rattle.laws.proofs.Numbers.{bits_of_string}
use Rattle.pec.specs.Remainder.{once, step, remainder}
use Rattle.pec.specs.Words.{word_at, polynomial10, data_pec, sealed_right, payload_right, number_right}
use Rattle.pec.proofs.Right.{sealed-left}

-- the check, where there are eight bytes
abbrev checked : List ℕ → Bool
checked eight = eqb (word_at eight 6 % 1024) (data_pec (take 6 eight) (word_at eight 6 / 1024))

pub eight_right : (eight : List ℕ) → Bytes eight → length eight ≡ 8 → number_right (number_of eight) ≡ payload_right eight
unfolding number_right payload_right sealed_right
eight_right eight h e =
    ap (λ (bs : List Bool). eqb (remainder 10 polynomial10 16 bs) 0) (bits_of_string 64 eight h (omega arith))
    ∙ sealed-left eight h 6 e
    ∙ sym (ap (λ (b : Bool). b && checked eight) (eq-eqb (length eight) 8 e))

zero_wrong : number_right 0 ≡ false
unfolding number_right remainder step once bits_of odd ◌⊕◌ xor
zero_wrong = refl

pub none_right : (bytes : List ℕ) → eqb (length bytes) 8 ≡ false → number_right 0 ≡ payload_right bytes
unfolding payload_right sealed_right
none_right bytes other = zero_wrong ∙ sym (ap (λ (b : Bool). b && checked bytes) other)
