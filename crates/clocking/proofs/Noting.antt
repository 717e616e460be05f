-- The code's steps at byte four come to what the state then is: the kind and N are stored, and the part of the windows is lent for
-- the replies and comes back. By whether the table is sound; where it is not, no command is known and nothing is replied.
-- Assumes nothing.
use mathlib.Core.Path.{◌≡◌, refl, ap, ap₂, ◌∙◌, subst⁻¹}
use mathlib.Core.Bool.{Bool, true, false, cond, ◌&&◌}
use mathlib.Core.List.{List, ◌++◌, append-nil}
use Prim.Native.Nat.{ℕ, ◌-◌, ◌*◌, ◌≤◌}
use native.Mathlib.Omega.{arith}
use lib.Dec.{leb, lit<}
use lib.ListN.{length, set, take, drop, length-set, length-drop, drop_of_length-le}
use lib.Seq.{take_all, take-set-lt, drop-set-lt}
use borrow.Author.Tests.{le-leb}
use borrow.Rule.Slice.PartMut.{put_mid}
use Rattle.laws.proofs.LentParts.{part_back}
use Rattle.records.specs.declared.commands.Command.{Command}
use Rattle.records.specs.Commands.{most_monitors, payload_size, reply_length}
use Rattle.judging.specs.Table.{monitors, sound}
use Rattle.replying.specs.Replied.{replied, replies_into}
use Rattle.clocking.specs.Clock.{known, kind_of, chained_by}
use Rattle.clock_state.specs.State.{windows_at, state_size, kind_at, chained_at, kind_byte, head_in}
use Rattle.clocking.specs.Bytes.{noted}
use Rattle.clocking.proofs.Known.{known_unsound, replies-fit}

-- what the chain replies to a known command, at any part with room for the longest reply
module _ (table head part : List ℕ) (room : payload_size * most_monitors ≤ length part) where
  abbrev its : Command
  its = known table head

  replies-noted : cond (replies_into its table (length part)) (replied its (monitors table) table part) part ≡ replied its (monitors table) table part
  unfolding replies_into
  replies-noted = go (sound table) refl
    where
      go : (b : Bool) → sound table ≡ b → cond (sound table && leb (reply_length its (monitors table)) (length part)) (replied its (monitors table) table part) part ≡ replied its (monitors table) table part
      go true e =
          let fits : reply_length its (monitors table) ≤ length part = omega (arith, replies-fit table head) in
          ap₂ (λ (a b : Bool). cond (a && b) (replied its (monitors table) table part) part) e (le-leb _ _ fits)
      go false e =
          ap (λ (a : Bool). cond (a && leb (reply_length its (monitors table)) (length part)) (replied its (monitors table) table part) part) e
          ∙ subst⁻¹ (λ (c : Command). part ≡ replied c (monitors table) table part) (known_unsound table head e) (unfold replied in refl)

module _ (table s : List ℕ) (kind n : ℕ) (sized : length s ≡ state_size) where
  -- the kind and N are stored
  abbrev pub stored : List ℕ
  stored = set (set s kind_at kind) chained_at n

  pub length-stored : length stored ≡ state_size
  length-stored = length-set (set s kind_at kind) chained_at n ∙ length-set s kind_at kind ∙ sized

  -- the part of the windows, as it is lent
  abbrev pub places : List ℕ
  places = take (state_size - windows_at) (drop windows_at stored)

  windows-kept : places ≡ drop windows_at s
  windows-kept =
      let all : length (drop windows_at stored) ≤ state_size - windows_at = omega (arith, length-drop windows_at stored, length-stored) in
      take_all (state_size - windows_at) (drop windows_at stored) all
      ∙ drop-set-lt windows_at (set s kind_at kind) chained_at n (lit< tt)
      ∙ drop-set-lt windows_at s kind_at kind (lit< tt)

  front : take windows_at stored ≡ set (set (take windows_at s) kind_at kind) chained_at n
  front =
      take-set-lt windows_at (set s kind_at kind) chained_at n (lit< tt)
      ∙ ap (λ (r : List ℕ). set r chained_at n) (take-set-lt windows_at s kind_at kind (lit< tt))

  pub noted-by : {command : Command} {after : List ℕ} → command ≡ known table (head_in s) → kind ≡ kind_byte (kind_of command) → n ≡ chained_by table
      → after ≡ cond (replies_into command table (length places)) (replied command (monitors table) table places) places
      → put_mid windows_at (state_size - windows_at) stored after ≡ noted table s
  unfolding noted
  noted-by {command} {after} its-command its-kind its-count a =
      let room : payload_size * most_monitors ≤ length places = omega (arith, ap length windows-kept, length-drop windows_at s, sized) in
      let past : length stored ≤ state_size = omega (arith, length-stored) in
      let known-here = known table (head_in s) in
      part_back windows_at (payload_size * most_monitors) stored after
      ∙ ap₂ (λ (x y : List ℕ). take windows_at stored ++ x ++ y)
      (a
      ∙ ap (λ (c : Command). cond (replies_into c table (length places)) (replied c (monitors table) table places) places) its-command
      ∙ replies-noted table (head_in s) places room
      ∙ ap (replied known-here (monitors table) table) windows-kept)
      (drop_of_length-le stored past)
      ∙ append-nil (take windows_at stored ++ replied known-here (monitors table) table (drop windows_at s))
      ∙ ap (λ (x : List ℕ). x ++ replied known-here (monitors table) table (drop windows_at s)) front
      ∙ ap₂ (λ (k m : ℕ). set (set (take windows_at s) kind_at k) chained_at m ++ replied known-here (monitors table) table (drop windows_at s))
      (its-kind ∙ ap (λ (c : Command). kind_byte (kind_of c)) its-command) its-count
