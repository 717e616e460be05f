-- The same once more: of two stores the second counts, and a compare after a compare raises nothing. By bytes made anew twice: a store
-- looks at no byte that it makes anew, and what a compare raises does not depend on the flags.
-- Assumes nothing.
use mathlib.Core.Path.{◌≡◌, ap, ◌∙◌}
use mathlib.Core.List.{List}
use Prim.Native.Nat.{ℕ}
use native.Mathlib.Omega.{arith}
use lib.Bits.{bit_or}
use lib.IntN.{ℤ}
use lib.ListN.{length, get_or}
use Rattle.laws.proofs.Or.{or_once_more}
use Rattle.records.specs.Record.{cells, flags, record_size, anew, on_bytes}
use Rattle.records.proofs.Anew.{anew-same, anew_twice}
use Rattle.cells.specs.Cells.{code_byte, store, flag_byte, compare}
use Rattle.cells.proofs.Flags.{flag_byte_stays}

pub store-store : (first second : List ℤ) (r : List ℕ) → length r ≡ record_size → store second (store first r) ≡ store second r
unfolding store on_bytes
store-store first second r whole =
    anew_twice (λ i old. code_byte second i) (λ i old. code_byte first i) cells.at cells.size r (omega arith)

pub compare-compare : (r : List ℕ) → length r ≡ record_size → compare (compare r) ≡ compare r
unfolding compare on_bytes
compare-compare r whole =
    let raises : List ℕ → ℕ → ℕ → ℕ = λ s j old. bit_or old (flag_byte s j) in
    let once = anew (raises r) flags.at flags.size r in
    anew-same (raises once) (raises r) flags.at flags.size once
    (λ j h. ap (bit_or (get_or once _ 0)) (flag_byte_stays (raises r) flags.size r j))
    ∙ anew_twice (raises r) (raises r) flags.at flags.size r (omega arith)
    ∙ anew-same (λ j old. raises r j (raises r j old)) (raises r) flags.at flags.size r (λ j h. or_once_more (get_or r _ 0) (flag_byte r j))
