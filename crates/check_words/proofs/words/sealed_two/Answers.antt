-- `check_words::words::sealed_two` meets its contract: behind the lead stand the two bytes, with the seal that they have alone.
-- Assumes nothing.
use mathlib.Core.Path.{◌≡◌, sym, ap, ◌∙◌}
use mathlib.Core.List.{List, [], ◌∷◌, ◌++◌}
use Prim.Native.Nat.{ℕ, ◌+◌, ◌*◌, ◌^◌}
use native.Mathlib.Omega.{arith}
use lib.ListN.{length, length-append, get_or}
use Rattle.std.specs.Int.{w64, to_be_bytes}
use Rattle.laws.specs.Bits.{number_of}
use Rattle.laws.specs.Tables.{tabulate}
use Rattle.laws.proofs.Tables.{rebuilt}
use Rattle.pec.specs.Words.{two_bytes, seal}
use Rattle.pec.proofs.Lead.{lead, lead-seal}
use Rattle.check_words.proofs.BigEndian.{number_of-2, number_of_led, bytes_of_led, sealed_number, sealed_bytes}
use Rattle.check_words.proofs.words.sealed_two.Goals as goal

-- the last four of eight bytes
abbrev last : List ℕ → List ℕ
last eight = get_or eight 4 0 ∷ get_or eight 5 0 ∷ get_or eight 6 0 ∷ get_or eight 7 0 ∷ []

module _ (two : List ℕ) (counter : ℕ) (whole : length two ≡ 2) where
  long : length (two ++ seal (lead ++ two) counter) ≡ 4
  unfolding seal two_bytes
  long = length-append two (seal (lead ++ two) counter) ∙ ap (λ (n : ℕ). n + 2) whole

  behind : last ((lead ++ two) ++ seal (lead ++ two) counter) ≡ two ++ seal two counter
  unfolding tabulate
  behind = rebuilt (two ++ seal (lead ++ two) counter) 4 long ∙ ap (λ (l : List ℕ). two ++ l) (lead-seal two counter)

pub returns : goal.returns
returns c =
    let two = c.args.two.now in
    let counter = c.args.counter in
    let whole = c.told-two in
    let number : 0x11A * 2 ^ 16 + c.from.result ≡ number_of (lead ++ two) =
    ap (λ (n : ℕ). 0x11A * 2 ^ 16 + n) (c.from.ensures ∙ c.from_be_bytes.ensures ∙ number_of-2 two whole)
    ∙ ap (λ (n : ℕ). 0x11A * 2 ^ (8 * n) + number_of two) (sym whole)
    ∙ sym (number_of_led two)
    in
    ap last
    (c.to_be_bytes.ensures
    ∙ ap (to_be_bytes w64) (c.sealed_number.ensures ∙ ap (sealed_number counter) number)
    ∙ sealed_bytes (lead ++ two) counter (bytes_of_led two c.fits-two) (omega (arith, whole)))
    ∙ behind two counter whole
