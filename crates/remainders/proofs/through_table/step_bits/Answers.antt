-- `remainders::through_table::step_bits` meets its contract: the machine's shifts lose nothing in a word of 32 bits, and what is
-- left is the law of k bits through a table.
-- Assumes nothing.
use mathlib.Core.Path.{◌≡◌, ap₂, ◌∙◌, subst⁻¹}
use Prim.Native.Nat.{ℕ, ◌*◌, ◌/◌, ◌%◌, ◌^◌, ◌≤◌, ◌<◌}
use native.Mathlib.Nat.{mod-eq_of_lt, lt_of_lt_of_le}
use native.Mathlib.Omega.{arith}
use lib.Bits.{bit_xor}
use lib.ListN.{get_or}
use lib.Pow.{pow_mono}
use Rattle.laws.specs.Bits.{◌⊕◌}
use Rattle.laws.proofs.Shifts.{power, up_fits}
use Rattle.pec.specs.Remainder.{Fitting}
use Rattle.remainders.specs.ByTable.{table_of, table_step}
use Rattle.remainders.proofs.ByTable.{index_below, table_step_lem}
use Rattle.remainders.proofs.through_table.step_bits.Goals as goal

module _ (w k : ℕ) {r x : ℕ} (narrow : w < 16) (few : k ≤ 8) (hr : r < 2 ^ w) (hx : x < 2 ^ k) where
  up : r * 2 ^ k % 2 ^ 32 ≡ r * 2 ^ k
  up = mod-eq_of_lt (up_fits w k 32 (omega arith) hr)

  index : bit_xor (r * 2 ^ k % 2 ^ 32 / 2 ^ w) x < 256
  unfolding ◌⊕◌
  index = subst⁻¹ (λ (n : ℕ). bit_xor (n / 2 ^ w) x < 256) up (lt_of_lt_of_le (index_below w k hr hx) (pow_mono few))

pub bounds-table-index : goal.bounds-table-index
bounds-table-index g c =
    let w = g.W.CheckWord.WIDTH in
    let fit : Fitting w g.W.CheckWord.POLYNOMIAL 16 = g.met.W.CheckWord.fitting in
    rw (c.from.ensures, c.WIDTH-2.ensures, c.from-2.ensures)
    (index w c.args.k fit.width c.requires.k_bound.0 c.requires.below c.requires.k_bound.1)

pub returns : goal.returns
unfolding ◌⊕◌ table_step
returns g c =
    let w = g.W.CheckWord.WIDTH in
    let p = g.W.CheckWord.POLYNOMIAL in
    let a = c.args in
    let fit : Fitting w p 16 = g.met.W.CheckWord.fitting in
    rw (c.from.ensures, c.WIDTH.ensures, c.WIDTH-2.ensures, c.from-2.ensures, c.table.ensures)
    (ap₂ (λ (n m : ℕ). bit_xor (n % m) (get_or (table_of w p) (bit_xor (n / 2 ^ w) a.x) 0))
    (up w a.k fit.width c.requires.k_bound.0 c.requires.below c.requires.k_bound.1) (power 32 (omega (arith, fit.width)))
    ∙ table_step_lem w p a.k c.requires.k_bound.0 c.requires.below c.requires.k_bound.1)
