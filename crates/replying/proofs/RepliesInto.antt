-- When a reply is written, part by part: the table's test decides first, then the room.
-- Assumes nothing.
use mathlib.Core.Path.{◌≡◌, refl, sym, ap, ap₂, ◌∙◌}
use mathlib.Core.Bool.{Bool, true, false, cond, ◌&&◌}
use mathlib.Core.List.{List}
use Prim.Native.Nat.{ℕ, ◌≤◌, ◌<◌}
use native.Mathlib.Omega.{arith}
use lib.Dec.{leb}
use lib.ListN.{length}
use borrow.Author.Tests.{le-leb, lt-leb}
use Rattle.records.specs.declared.commands.Command.{Command}
use Rattle.records.specs.declared.commands.Command.TheVariants.{Reads, Writes, Bares, Unlisted}
use Rattle.records.specs.declared.record.Part.{Part}
use Rattle.records.specs.Commands.{reply_length}
use Rattle.judging.specs.Table.{monitors, whole_table, sound}
use Rattle.replying.specs.Replied.{replied, replies_fit, replies_into}
use Rattle.judging.proofs.Whole.{sound-whole}

-- a test of the table, and then the room for so many bytes
module _ (test : Bool) (size room : ℕ) where
  test_fails : test ≡ false → test && leb size room ≡ false
  test_fails e = ap (λ (b : Bool). b && leb size room) e

  room_fails : test ≡ true → room < size → test && leb size room ≡ false
  room_fails e h = ap₂ ◌&&◌ e (lt-leb size room h)

  none_fails : test ≡ true → size ≤ room → test && leb size room ≡ true
  none_fails e h = ap₂ ◌&&◌ e (le-leb size room h)

-- ---- by whether the table is sound

module _ (c : Command) (table : List ℕ) (room : ℕ) where
  pub no_table : sound table ≡ false → replies_into c table room ≡ false
  unfolding replies_into
  no_table e = test_fails (sound table) (reply_length c (monitors table)) room e

  pub no_room : sound table ≡ true → room < reply_length c (monitors table) → replies_into c table room ≡ false
  unfolding replies_into
  no_room e h = room_fails (sound table) (reply_length c (monitors table)) room e h

  pub both_hold : sound table ≡ true → reply_length c (monitors table) ≤ room → replies_into c table room ≡ true
  unfolding replies_into
  both_hold e h = none_fails (sound table) (reply_length c (monitors table)) room e h

-- ---- by how many records the table holds

module _ (c : Command) (n : ℕ) (table : List ℕ) (room : ℕ) where
  pub not-whole : whole_table n table ≡ false → replies_fit c n table room ≡ false
  unfolding replies_fit
  not-whole e = test_fails (whole_table n table) (reply_length c n) room e

  pub not_fitting : whole_table n table ≡ true → room < reply_length c n → replies_fit c n table room ≡ false
  unfolding replies_fit
  not_fitting e h = room_fails (whole_table n table) (reply_length c n) room e h

  pub fitting : whole_table n table ≡ true → reply_length c n ≤ room → replies_fit c n table room ≡ true
  unfolding replies_fit
  fitting e h = none_fails (whole_table n table) (reply_length c n) room e h

  -- of a sound table, which holds as many as it counts, it is the same test
  pub by_count : sound table ≡ true → n ≡ monitors table → replies_fit c n table room ≡ replies_into c table room
  unfolding replies_fit replies_into
  by_count e count =
      ap₂ ◌&&◌ (ap (λ (m : ℕ). whole_table m table) count ∙ sound-whole table e ∙ sym e) (ap (λ (m : ℕ). leb (reply_length c m) room) count)

-- ---- no reply

-- one thing either way
either : {A : Type 0} (b : Bool) (x : A) → x ≡ cond b x x
either true x = refl
either false x = refl

-- a command that is no read leaves the buffer
pub no_read : (c : Command) (n : ℕ) (table buffer : List ℕ) → ((part : Part) → c ≡ Reads part → ⊥) → replied c n table buffer ≡ buffer
unfolding replied
no_read (Reads part) n table buffer h = absurd (h part refl)
no_read (Writes what) n table buffer h = refl
no_read (Bares what) n table buffer h = refl
no_read Unlisted n table buffer h = refl

-- and has no reply, whatever the table and the room
pub no_reply : (c : Command) (table buffer : List ℕ) → reply_length c 1 ≡ 0
    → (0 ≡ cond (replies_into c table (length buffer)) (reply_length c (monitors table)) 0)
    × (buffer ≡ cond (replies_into c table (length buffer)) (replied c (monitors table) table buffer) buffer)
unfolding replied
no_reply (Reads part) table buffer e = absurd (omega arith)
no_reply (Writes what) table buffer e = (either (replies_into (Writes what) table (length buffer)) 0, either (replies_into (Writes what) table (length buffer)) buffer)
no_reply (Bares what) table buffer e = (either (replies_into (Bares what) table (length buffer)) 0, either (replies_into (Bares what) table (length buffer)) buffer)
no_reply Unlisted table buffer e = (either (replies_into Unlisted table (length buffer)) 0, either (replies_into Unlisted table (length buffer)) buffer)
