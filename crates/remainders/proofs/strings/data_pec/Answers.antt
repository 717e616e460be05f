-- `remainders::strings::data_pec` meets its contract: the six bits of a counter are those of its remainder by 64.
-- Assumes nothing.
use mathlib.Core.Path.{ap, ◌∙◌}
use mathlib.Core.List.{◌++◌}
use Prim.Native.Nat.{ℕ}
use Rattle.laws.specs.Bits.{bits_of, bits_of_bytes}
use Rattle.pec.specs.Remainder.{remainder}
use Rattle.pec.specs.Words.{polynomial10, data_pec}
use Rattle.pec.proofs.CheckWords.{counter_bits}
use Rattle.remainders.proofs.strings.data_pec.Goals as goal

pub returns : goal.returns
unfolding data_pec
returns c =
    let a = c.args in
    c.pec10_and_bits.ensures
    ∙ ap (λ (n : ℕ). remainder 10 polynomial10 16 (bits_of_bytes a.bytes.now ++ bits_of 6 n)) c.from.ensures
    ∙ counter_bits a.bytes.now a.counter
