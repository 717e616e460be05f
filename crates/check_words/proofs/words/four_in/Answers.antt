-- `check_words::words::four_in` meets its contract: with the lead in front four bytes are right exactly when they are right alone. Of another
-- length neither is.
-- Assumes nothing.
use mathlib.Core.Path.{◌≡◌, sym, ap, ◌∙◌}
use mathlib.Core.Bool.{Bool, cond}
use mathlib.Core.List.{◌++◌}
use Prim.Native.Nat.{ℕ, ◌+◌, ◌*◌, ◌^◌}
use native.Mathlib.Omega.{arith}
use lib.ListN.{length}
use borrow.Author.Tests.{eq-eqb, ne_eqb}
use Rattle.std.specs.Int.{w32, from_be_bytes}
use Rattle.laws.specs.Bits.{number_of}
use Rattle.pec.specs.Words.{number_in, number_right}
use Rattle.pec.proofs.Lead.{lead, lead-right}
use Rattle.check_words.proofs.Zero.{eight_right, none_right}
use Rattle.check_words.proofs.BigEndian.{number_of-4, number_of_led, bytes_of_led}
use Rattle.check_words.proofs.words.four_in.Goals as goal

pub returns-in_default : goal.returns-in_default
unfolding number_in
returns-in_default c =
    let four = c.args.four.now in
    let other = ne_eqb (length (lead ++ four)) 8 (λ e. c.in_default.ensures.1 (omega (arith, e))) in
    record { value = sym (ap (λ (b : Bool). cond b (number_of (lead ++ four)) 0) other); result_value = none_right (lead ++ four) other ∙ lead-right four }

pub returns : goal.returns
unfolding number_in
returns c =
    let four = c.args.four.now in
    let taken = c.in-Ok.ensures.1 in
    let whole : length (lead ++ four) ≡ 8 = omega (arith, taken.long) in
    let number : 0x11A * 2 ^ 32 + c.from.result ≡ number_of (lead ++ four) =
    ap (λ (n : ℕ). 0x11A * 2 ^ 32 + n) (c.from.ensures ∙ c.from_be_bytes.ensures ∙ ap (from_be_bytes w32) taken.same ∙ number_of-4 four taken.long)
    ∙ ap (λ (n : ℕ). 0x11A * 2 ^ (8 * n) + number_of four) (sym taken.long)
    ∙ sym (number_of_led four)
    in
    record {
      value = number ∙ sym (ap (λ (b : Bool). cond b (number_of (lead ++ four)) 0) (eq-eqb (length (lead ++ four)) 8 whole));
      result_value = ap number_right number ∙ eight_right (lead ++ four) (bytes_of_led four (λ i. (c.type_inv.four i).fits)) whole ∙ lead-right four;
    }
