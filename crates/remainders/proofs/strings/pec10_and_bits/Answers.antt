-- `remainders::strings::pec10_and_bits` meets its contract: the bits go on from the remainder of the bytes.
-- Assumes nothing.
use mathlib.Core.Path.{sym, ap, ◌∙◌, subst⁻¹}
use Prim.Native.Nat.{ℕ, ◌^◌, ◌<◌}
use lib.Dec.{lit<}
use Rattle.laws.specs.Bits.{bits_of, bits_of_bytes}
use Rattle.pec.specs.Remainder.{remainder}
use Rattle.pec.specs.Words.{polynomial10}
use Rattle.pec.proofs.Remainder.{remainder-below, remainder_append}
use Rattle.remainders.proofs.strings.pec10_and_bits.Goals as goal

pub step_bits-requires-clause-below : goal.step_bits-requires-clause-below
step_bits-requires-clause-below c =
    subst⁻¹ (λ (n : ℕ). n < 2 ^ 10) c.over_bytes-r.ensures (remainder-below 10 (bits_of_bytes c.args.bytes.now) (lit< tt) (lit< tt))

pub returns : goal.returns
returns c =
    let a = c.args in
    c.step_bits.ensures
    ∙ ap (λ (r : ℕ). remainder 10 polynomial10 r (bits_of a.k a.x)) c.over_bytes-r.ensures
    ∙ sym (remainder_append 10 polynomial10 16 (bits_of_bytes a.bytes.now) (bits_of a.k a.x))
