-- `check_words::words::sealed` meets its contract: behind the six bytes stand the last two of their sealed number, which are their seal.
-- Assumes nothing.
use mathlib.Core.Path.{◌≡◌, refl, ap, ◌∙◌}
use mathlib.Core.List.{List, [], ◌∷◌, ◌++◌}
use Prim.Native.Nat.{ℕ, ◌+◌, ◌*◌}
use native.Mathlib.Omega.{arith}
use lib.ListN.{length, get_or}
use Rattle.std.specs.Int.{w64, to_be_bytes}
use Rattle.laws.specs.Bits.{number_of}
use Rattle.pec.specs.Words.{two_bytes, seal}
use Rattle.check_words.proofs.BigEndian.{number_of-parts, sealed_number, sealed_bytes}
use Rattle.check_words.proofs.words.sealed.Goals as goal

-- six bytes, and behind them the last two of eight
abbrev with_last : List ℕ → List ℕ → List ℕ
with_last six eight = get_or six 0 0 ∷ get_or six 1 0 ∷ get_or six 2 0 ∷ get_or six 3 0 ∷ get_or six 4 0 ∷ get_or six 5 0 ∷ get_or eight 6 0 ∷ get_or eight 7 0 ∷ []

-- where the eight begin with the six
joined : (six : List ℕ) → length six ≡ 6 → (a b : ℕ) → with_last six (six ++ a ∷ b ∷ []) ≡ six ++ a ∷ b ∷ []
joined (u ∷ v ∷ w ∷ x ∷ y ∷ z ∷ []) e a b = refl
joined [] e a b = absurd (omega (arith, e))
joined (u ∷ []) e a b = absurd (omega (arith, e))
joined (u ∷ v ∷ []) e a b = absurd (omega (arith, e))
joined (u ∷ v ∷ w ∷ []) e a b = absurd (omega (arith, e))
joined (u ∷ v ∷ w ∷ x ∷ []) e a b = absurd (omega (arith, e))
joined (u ∷ v ∷ w ∷ x ∷ y ∷ []) e a b = absurd (omega (arith, e))
joined (u ∷ v ∷ w ∷ x ∷ y ∷ z ∷ more ∷ rest) e a b = absurd (omega (arith, e))

pub returns : goal.returns
unfolding seal two_bytes
returns c =
    let six = c.args.six.now in
    let number : (((c.from.result * 256 + c.from-2.result) * 256 + c.from-3.result) * 256 + c.from-4.result) * 65536 + (c.from-5.result * 256 + c.from-6.result) ≡ number_of six =
    omega (arith, c.from.ensures, c.from-2.ensures, c.from-3.ensures, c.from-4.ensures, c.from-5.ensures, c.from-6.ensures, number_of-parts six c.told-six)
    in
    ap (with_last six)
    (c.to_be_bytes.ensures
    ∙ ap (to_be_bytes w64) (c.sealed_number.ensures ∙ ap (sealed_number c.args.counter) number)
    ∙ sealed_bytes six c.args.counter c.fits-six c.told-six)
    ∙ joined six c.told-six _ _
