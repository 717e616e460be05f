-- What byte four finds out. A command is known only where the table is sound, so N and the replies of a known read fit a state; and
-- the windows that then lie in the register are those that the clock has. By whether the table is sound, and by the command. A
-- code that is not listed is no command, so refusal 4 changes nothing.
-- Assumes nothing.
use mathlib.Core.Path.{◌≡◌, refl, sym, ap, ap₂, ◌∙◌, subst⁻¹}
use mathlib.Core.Bool.{Bool, true, false, cond, not}
use mathlib.Core.List.{List, [], ◌∷◌}
use Prim.Native.Nat.{ℕ, ◌*◌, ◌≤◌}
use native.Mathlib.Nat.{mul_comm}
use native.Mathlib.Omega.{arith}
use lib.ListN.{length, take, drop, length-map}
use lib.Seq.{length-take-le, take_at}
use Rattle.laws.specs.Rows.{rows}
use Rattle.laws.proofs.Rows.{Every, length-rows, every_image}
use Rattle.wire.specs.Order.{reply_data, reply_parts}
use Rattle.wire.proofs.Order.{length-reply_data, reply_round}
use Rattle.refusals.specs.Order.{decide}
use Rattle.refusals.proofs.Deciding.{holds_here, holds_not}
use Rattle.pec.specs.Words.{command_right}
use Rattle.records.specs.declared.commands.Command.{Command}
use Rattle.records.specs.declared.commands.Command.TheVariants.{Reads, Writes, Bares, Unlisted}
use Rattle.records.specs.Record.{record_size}
use Rattle.records.specs.Commands.{is_listed, most_monitors, payload_size, width_of, reply_length}
use Rattle.records.proofs.Widths.{width_most, width_some}
use Rattle.reads.specs.Reply.{reply}
use Rattle.reads.proofs.Showing.{length-reply}
use Rattle.judging.specs.Table.{monitors, sound}
use Rattle.judging.specs.Refusals.{command_in, listed_row}
use Rattle.replying.specs.Replied.{replied}
use Rattle.judging.proofs.Soundness.{is_sound}
use Rattle.replying.proofs.Turns.{replies}
use Rattle.clock_state.specs.State.{kind_byte, kind_by, width_in}
use Rattle.clock_state.proofs.Widths.{Wide, fills_back}
use Rattle.clocking.specs.Clock.{known, kind_of, filled_for, chained_by}
use Rattle.clocking.specs.Bytes.{windows_in}
use Rattle.clocking.proofs.Register.{register-fits, windows-none}

-- ---- the table, and the command

-- without a sound table no command is known
pub known_unsound : (table head : List ℕ) → sound table ≡ false → known table head ≡ Unlisted
unfolding known
known_unsound table head e = holds_here _ _ (λ r. Unlisted) _ (ap not e)

-- nor where the check is wrong
pub known_wrong : (table head : List ℕ) → sound table ≡ true → command_right head ≡ false → known table head ≡ Unlisted
unfolding known
known_wrong table head s e = holds_not _ _ (λ r. Unlisted) _ (ap not s) ∙ holds_here _ _ (λ r. Unlisted) _ (ap not e)

-- refusal 4 changes nothing
listed_or_none : (c : Command) → cond (not (is_listed c)) Unlisted c ≡ c
listed_or_none (Reads part) = refl
listed_or_none (Writes w) = refl
listed_or_none (Bares b) = refl
listed_or_none Unlisted = refl

by_the_last : (head : List ℕ) → decide (listed_row head ∷ []) (λ r. Unlisted) (command_in head) ≡ command_in head
unfolding decide
by_the_last head = listed_or_none (command_in head)

-- where both are right it is the code's, and none where the code is not listed
pub known-right : (table head : List ℕ) → sound table ≡ true → command_right head ≡ true → known table head ≡ command_in head
unfolding known
known-right table head s e =
    holds_not _ _ (λ r. Unlisted) _ (ap not s) ∙ holds_not _ _ (λ r. Unlisted) _ (ap not e) ∙ by_the_last head

-- N of a sound table
pub chained-sound : (table : List ℕ) → sound table ≡ true → chained_by table ≡ monitors table
unfolding chained_by
chained-sound table e = ap (λ (b : Bool). cond b (monitors table) 0) e

-- N is no more than a chain has
pub chained_by-few : (table : List ℕ) → chained_by table ≤ most_monitors
unfolding chained_by
chained_by-few table = go (sound table) refl
  where
    go : (b : Bool) → sound table ≡ b → cond b (monitors table) 0 ≤ most_monitors
    go true e = (is_sound table e).few
    go false e = omega arith

-- a reply is no longer than the places of as many monitors
pub reply_short : (c : Command) (n : ℕ) → reply_length c n ≤ payload_size * n
reply_short (Reads part) n = omega arith
reply_short (Writes c) n = omega arith
reply_short (Bares c) n = omega arith
reply_short Unlisted n = omega arith

-- a known read's replies fit
pub replies-fit : (table head : List ℕ) → reply_length (known table head) (monitors table) ≤ payload_size * most_monitors
replies-fit table head = go (sound table) refl
  where
    go : (b : Bool) → sound table ≡ b → reply_length (known table head) (monitors table) ≤ payload_size * most_monitors
    go true e = let few = (is_sound table e).few in omega (arith, reply_short (known table head) (monitors table))
    go false e = subst⁻¹ (λ (c : Command). reply_length c (monitors table) ≤ payload_size * most_monitors) (known_unsound table head e) (omega arith)

-- ---- the kind

-- a command's width is one that a window can have
pub wide_of : (c : Command) → Wide (width_of c)
wide_of c = record { some = omega (arith, width_some c); most = width_most c }

-- the kind of a command comes back from its byte
pub kind_back : (c : Command) → kind_by (kind_byte (kind_of c)) ≡ kind_of c
kind_back (Reads part) = refl
kind_back (Writes c) = fills_back (width_of (Writes c)) (omega (arith, width_some (Writes c))) (width_most (Writes c))
kind_back (Bares c) = refl
kind_back Unlisted = refl

-- ---- the windows after byte four

-- the windows by the kind of a command, after byte four, of a register that has such places
abbrev windows_four : Command → ℕ → List ℕ → List (List ℕ)
windows_four c n places = windows_in (kind_of c) 4 n (take (width_in (kind_of c) * n) places)

-- of a known command: a read's register has the replies, a write's windows are empty whatever the register has
filled : (c : Command) (n : ℕ) (table places : List ℕ) → n ≤ most_monitors → length places ≡ payload_size * most_monitors
    → windows_four c n (replied c n table places) ≡ filled_for c n table
unfolding windows_in filled_for replied
filled (Reads part) n table places few sized =
    let each : Every payload_size (replies part table n) = every_image payload_size (reply part) (length-reply part) (rows record_size n table) in
    let count : length (replies part table n) ≡ n = length-map (rows record_size n table) (reply part) ∙ length-rows record_size n table in
    let size : length (reply_data (replies part table n)) ≡ payload_size * n = length-reply_data payload_size (replies part table n) each ∙ omega arith in
    ap₂ (reply_parts payload_size) (sym count) (take_at (reply_data (replies part table n)) (drop (payload_size * n) places) (payload_size * n) size)
    ∙ reply_round payload_size (replies part table n) each
filled (Writes c) n table places few sized =
    let w : ℕ = width_of (Writes c) in
    let wide : Wide w = wide_of (Writes c) in
    let room : w * n ≤ length places = omega (arith, register-fits wide few) in
    windows-none w n (take (w * n) places) wide (length-take-le (w * n) places room ∙ mul_comm w n)
filled (Bares c) n table places few sized = refl
filled Unlisted n table places few sized = refl

-- of any command, by whether the table is sound
pub filled_known : (table head places : List ℕ) → length places ≡ payload_size * most_monitors
    → windows_four (known table head) (chained_by table) (replied (known table head) (monitors table) table places)
    ≡ filled_for (known table head) (chained_by table) table
unfolding windows_in filled_for replied
filled_known table head places sized = go (sound table) refl
  where
    n : ℕ
    n = chained_by table

    from : Command → ℕ → List (List ℕ)
    from c m = windows_four c n (replied c m table places)

    go : (b : Bool) → sound table ≡ b → from (known table head) (monitors table) ≡ filled_for (known table head) n table
    go true e = ap (from (known table head)) (sym (chained-sound table e)) ∙ filled (known table head) n table places (chained_by-few table) sized
    go false e = subst⁻¹ (λ (c : Command). from c (monitors table) ≡ filled_for c n table) (known_unsound table head e) refl
