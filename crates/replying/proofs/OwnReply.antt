-- What a monitor replies depends on its own record alone, and lies at its own place of the reply; bytes past the reply stay. By rows: the
-- reply is the monitors' parts end to end.
-- Assumes nothing.
use mathlib.Core.Path.{◌≡◌, refl, ap, ◌∙◌}
use mathlib.Core.List.{List, [], map}
use Prim.Native.Nat.{ℕ, ◌+◌, ◌*◌, ◌≤◌, ◌<◌}
use native.Mathlib.Nat.{mul_comm}
use native.Mathlib.Omega.{arith}
use lib.ListN.{length, drop, length-append, length-drop, length-map}
use lib.Seq.{drop_at}
use Rattle.laws.specs.Rows.{rows, row_at, joined}
use Rattle.laws.proofs.Lists.{get_d_map}
use Rattle.laws.proofs.Rows.{Every, length-rows, row-at, row_front, row-joined, length-joined, every_image}
use Rattle.wire.specs.Order.{reply_data}
use Rattle.records.specs.declared.commands.Command.{Command}
use Rattle.records.specs.declared.commands.Command.TheVariants.{Reads, Writes, Bares, Unlisted}
use Rattle.records.specs.declared.record.Part.{Part}
use Rattle.records.specs.Record.{record_size}
use Rattle.records.specs.Commands.{payload_size, reply_length}
use Rattle.reads.specs.Reply.{reply}
use Rattle.reads.proofs.Showing.{length-reply}
use Rattle.replying.specs.Replied.{replied}

module _ (part : Part) (n : ℕ) (table : List ℕ) where
  abbrev replies : List (List ℕ)
  replies = map (reply part) (rows record_size n table)

  every_reply : Every payload_size replies
  every_reply = every_image payload_size (reply part) (length-reply part) (rows record_size n table)

  length-replies : length replies ≡ n
  length-replies = length-map (rows record_size n table) (reply part) ∙ length-rows record_size n table

  length_data : length (joined replies) ≡ payload_size * n
  length_data = length-joined payload_size replies every_reply ∙ ap (λ (m : ℕ). m * payload_size) length-replies ∙ mul_comm n payload_size

  -- of the replies by themselves, and of a buffer that begins with them
  pub own-part : (k : ℕ) → k < n → row_at payload_size k (reply_data replies) ≡ reply part (row_at record_size k table)
  unfolding reply_data
  own-part k h =
      let there : k < length replies = omega (arith, length-replies) in
      let in_rows : k < length (rows record_size n table) = omega (arith, length-rows record_size n table) in
      row-joined payload_size replies k [] every_reply there
      ∙ get_d_map (reply part) (rows record_size n table) k [] [] in_rows
      ∙ ap (reply part) (row-at record_size n table k [] h)

  pub own-reply : (buffer : List ℕ) (k : ℕ) → k < n → row_at payload_size k (replied (Reads part) n table buffer) ≡ reply part (row_at record_size k table)
  unfolding replied reply_data
  own-reply buffer k h =
      let fits : k * payload_size + payload_size ≤ length (joined replies) = omega (arith, length_data) in
      row_front payload_size k (joined replies) (drop (payload_size * n) buffer) fits ∙ own-part k h

  pub past_reply : (buffer : List ℕ) → drop (payload_size * n) (replied (Reads part) n table buffer) ≡ drop (payload_size * n) buffer
  unfolding replied reply_data
  past_reply buffer = drop_at (joined replies) (drop (payload_size * n) buffer) (payload_size * n) length_data

  length_read : (buffer : List ℕ) → payload_size * n ≤ length buffer → length (replied (Reads part) n table buffer) ≡ length buffer
  unfolding replied reply_data
  length_read buffer h =
      length-append (joined replies) (drop (payload_size * n) buffer) ∙ omega (arith, length_data, length-drop (payload_size * n) buffer)

-- the buffer stays as long as it was
pub length-replied : (c : Command) (n : ℕ) (table buffer : List ℕ) → reply_length c n ≤ length buffer → length (replied c n table buffer) ≡ length buffer
unfolding replied
length-replied (Reads part) n table buffer h = length_read part n table buffer h
length-replied (Writes c) n table buffer h = refl
length-replied (Bares c) n table buffer h = refl
length-replied Unlisted n table buffer h = refl
