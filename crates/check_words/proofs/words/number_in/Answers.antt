-- `check_words::words::number_in` meets its contract: eight bytes are right exactly when their number is, and of another length neither is.
-- Assumes nothing.
use mathlib.Core.Path.{◌≡◌, sym, ap, ◌∙◌}
use mathlib.Core.Bool.{Bool, cond}
use lib.ListN.{length}
use borrow.Author.Tests.{eq-eqb, ne_eqb}
use Rattle.std.specs.Int.{w64, from_be_bytes}
use Rattle.laws.specs.Bits.{number_of}
use Rattle.pec.specs.Words.{number_in, number_right}
use Rattle.check_words.proofs.Zero.{eight_right, none_right}
use Rattle.check_words.proofs.BigEndian.{number_of-8}
use Rattle.check_words.proofs.words.number_in.Goals as goal

pub returns-in_default : goal.returns-in_default
unfolding number_in
returns-in_default c =
    let eight = c.args.eight.now in
    let other = ne_eqb (length eight) 8 c.in_default.ensures.1 in
    record { value = sym (ap (λ (b : Bool). cond b (number_of eight) 0) other); result_value = none_right eight other }

pub returns : goal.returns
unfolding number_in
returns c =
    let eight = c.args.eight.now in
    let taken = c.in-Ok.ensures.1 in
    let number : c.from_be_bytes.result ≡ number_of eight = c.from_be_bytes.ensures ∙ ap (from_be_bytes w64) taken.same ∙ number_of-8 eight taken.long in
    record {
      value = number ∙ sym (ap (λ (b : Bool). cond b (number_of eight) 0) (eq-eqb (length eight) 8 taken.long));
      result_value = ap number_right number ∙ eight_right eight (λ i. (c.type_inv.eight i).fits) taken.long;
    }
