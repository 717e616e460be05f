-- A frame clocked a byte at a time, over one table, comes to what the rule for whole frames says: the same answer, the same table,
-- and the bytes that came back after the fourth are the reply. A release has no refusal 6, so there it is so where a reply would
-- have room. Both are refused alike; what is left is a frame that passes every refusal, and that one acts alike.
-- Assumes nothing.
use mathlib.Core.Path.{◌≡◌, sym, ap, ap₂, ◌∙◌}
use mathlib.Core.Bool.{true, not}
use mathlib.Core.List.{List, [], ◌∷◌, ◌++◌, map}
use Prim.Native.Nat.{ℕ, ◌*◌, ◌≤◌}
use native.Mathlib.Nat.{le_trans}
use native.Mathlib.Omega.{arith}
use lib.Dec.{lit≤}
use lib.ListN.{length, take, drop, replicate}
use borrow.Author.Tests.{ltb-false, le-ltb, eqb-true, not-false}
use Rattle.laws.specs.Rows.{rows, joined, along}
use Rattle.wire.specs.Order.{reply_data}
use Rattle.refusals.specs.declared.Refusal.{Refusal}
use Rattle.refusals.specs.Order.{decide, Passed}
use Rattle.refusals.proofs.Deciding.{decide_append, passes, has_passed}
use Rattle.records.specs.declared.commands.Command.{Command}
use Rattle.records.specs.declared.commands.Command.TheVariants.{Reads, Unlisted}
use Rattle.records.specs.declared.record.Part.{Part}
use Rattle.records.specs.Record.{record_size}
use Rattle.records.specs.Commands.{is_listed, most_monitors, payload_size, frame_length, reply_length}
use Rattle.monitor.specs.Effects.{keeps}
use Rattle.reads.specs.Reply.{reply}
use Rattle.judging.specs.Table.{monitors, sound}
use Rattle.judging.specs.Refusals.{command_in, room_row}
use Rattle.serving.specs.Served.{takers, taken_by, kept}
use Rattle.replying.specs.Replied.{replied}
use Rattle.chain.specs.Frame.{frame_refusals, answer, table_after, reply_after}
use Rattle.judging.proofs.Soundness.{is_sound}
use Rattle.chain.proofs.Refused.{accepted-apart, accepted-reply, accepted-length}
use Rattle.clocking.specs.Clock.{Clock, start, known}
use Rattle.releasing.specs.Release.{release_refusals, taken_of, kept_of, released, table_released}
use Rattle.clocked.specs.Frames.{clocked_all, answered_all, kept_back, settle_refusals, settled, table_settled, buffer_settled}
use Rattle.clocked.proofs.Run.{windows_for, came_for, run, back}
use Rattle.clocking.proofs.Known.{chained-sound, reply_short}
use Rattle.clocked.proofs.SameRefusals.{command-head, same_outcome}
use Rattle.clocked.proofs.Acting.{same_taken, same_kept, came-reply, length-came, same-reply, same_buffer}
use Rattle.std.specs.Prelude.{Err}
use Rattle.chain.specs.Frame.{took}

-- ---- a release needs no room for a reply

-- where it has room, refusal 6 does not hold
no_sixth : {A : Type 0} (c : Clock) (table : List ℕ) (room : ℕ) (refused : Refusal → A) (accepted : A) → payload_size * monitors table ≤ room
    → decide (settle_refusals c table room) refused accepted ≡ decide (release_refusals c table) refused accepted
unfolding settle_refusals
no_sixth c table room refused accepted h =
    decide_append (release_refusals c table) (room_row room (command_in c.head) (monitors table) ∷ []) refused accepted
    ∙ ap (decide (release_refusals c table) refused)
    (passes (room_row room (command_in c.head) (monitors table) ∷ []) refused accepted
    (le-ltb room (reply_length (command_in c.head) (monitors table)) (le_trans (reply_short (command_in c.head) (monitors table)) h), tt))

module _ (table frame : List ℕ) where
  -- the clock after the frame
  abbrev clock : Clock
  clock = clocked_all table frame start

  -- ---- a frame that passes every refusal

  module _ (room : ℕ) (p : Passed (frame_refusals table frame room)) where
    -- the table is sound
    its-sound : sound table ≡ true
    unfolding frame_refusals
    its-sound = not-false (sound table) p.0

    -- it has its four bytes
    long : 4 ≤ length frame
    unfolding frame_refusals
    long = ltb-false (length frame) 4 p.1.0

    -- its code is listed
    listed : is_listed (command_in frame) ≡ true
    unfolding frame_refusals
    listed = not-false (is_listed (command_in frame)) p.1.1.1.0

    -- its length is the one for its command and N
    whole : length frame ≡ frame_length (command_in frame) (monitors table)
    unfolding frame_refusals
    whole = eqb-true (length frame) (frame_length (command_in frame) (monitors table)) (not-false _ p.1.1.1.1.0)

    -- so its command is known
    its-command : known table (take 4 frame) ≡ command_in frame
    unfolding known frame_refusals
    its-command =
        passes _ (λ r. Unlisted) (command_in (take 4 frame))
        (p.0, (p.1.1.0, (ap (λ (c : Command). not (is_listed c)) (command-head frame) ∙ p.1.1.1.0, tt)))
        ∙ command-head frame

    -- the clock has it
    head-command : command_in clock.head ≡ command_in frame
    head-command = ap (λ (c : Clock). command_in c.head) (run table frame long) ∙ command-head frame

    -- the windows by it
    its-windows : clock.windows ≡ windows_for table frame (command_in frame) (monitors table)
    its-windows =
        ap (λ (c : Clock). c.windows) (run table frame long)
        ∙ ap₂ (windows_for table frame) its-command (chained-sound table its-sound)

    -- what came back after byte four by it
    its_back : drop 4 (answered_all table frame start) ≡ came_for table frame (command_in frame) (monitors table)
    its_back = ap (drop 4) (back table frame long) ∙ ap₂ (came_for table frame) its-command (chained-sound table its-sound)

    -- as many monitors take it
    acts-taken : taken_of clock table ≡ taken_by (command_in frame) (monitors table) table frame
    unfolding taken_of
    acts-taken =
        ap₂ (λ (c : Command) (ws : List (List ℕ)). takers c (rows record_size (monitors table) table) ws) head-command its-windows
        ∙ same_taken table frame (command_in frame) (monitors table) whole

    -- each keeps the same
    acts-kept : kept_of clock table ≡ kept (command_in frame) (monitors table) table frame
    unfolding kept_of
    acts-kept =
        ap₂ (λ (c : Command) (ws : List (List ℕ)). joined (along (λ r window. keeps c window r) (rows record_size (monitors table) table) ws)) head-command its-windows
        ∙ same_kept table frame (command_in frame) (monitors table) whole

  -- ---- where a reply buffer is lent

  -- the answer
  pub judged-whole : (room : ℕ) → settled clock table room ≡ answer table frame room
  unfolding settled answer
  judged-whole room =
      same_outcome table frame room Err _ _
      (λ p. ap₂ took (acts-taken room p) (ap (λ (c : Command). reply_length c (monitors table)) (head-command room p)))

  -- the table
  pub table-whole : (room : ℕ) → table_settled clock table room ≡ table_after table frame room
  unfolding table_settled table_after
  table-whole room = same_outcome table frame room (λ r. table) _ _ (λ p. acts-kept room p)

  -- the reply buffer: what came back may be kept in any buffer that has room for the longest reply
  pub buffer_kept : (own buffer : List ℕ) → payload_size * most_monitors ≤ length own
      → buffer_settled clock table (kept_back (answered_all table frame start) own) buffer ≡ reply_after table frame buffer
  unfolding buffer_settled reply_after
  buffer_kept own buffer fits = same_outcome table frame (length buffer) (λ r. buffer) _ _ accepted
    where
      put : Command → List ℕ
      put c = take (reply_length c (monitors table)) (kept_back (answered_all table frame start) own) ++ drop (reply_length c (monitors table)) buffer

      accepted : Passed (frame_refusals table frame (length buffer)) → put (command_in clock.head) ≡ replied (command_in frame) (monitors table) table buffer
      accepted p =
          let few = (is_sound table (its-sound (length buffer) p)).few in
          let room : reply_length (command_in frame) (monitors table) ≤ length own = omega (arith, reply_short (command_in frame) (monitors table)) in
          ap put (head-command (length buffer) p)
          ∙ same_buffer table frame (command_in frame) (monitors table) (answered_all table frame start) own buffer room (whole (length buffer) p) (its_back (length buffer) p)

  -- such as one of 256 zeros
  pub buffer_whole : (buffer : List ℕ)
      → buffer_settled clock table (kept_back (answered_all table frame start) (replicate (payload_size * most_monitors) 0)) buffer ≡ reply_after table frame buffer
  buffer_whole buffer = buffer_kept (replicate (payload_size * most_monitors) 0) buffer (lit≤ tt)

  -- ---- where none is lent

  -- the answer
  pub released-whole : (room : ℕ) → payload_size * monitors table ≤ room → released clock table ≡ answer table frame room
  unfolding released settled
  released-whole room h = sym (no_sixth clock table room Err _ h) ∙ judged-whole room

  -- the table
  pub table_released-whole : (room : ℕ) → payload_size * monitors table ≤ room → table_released clock table ≡ table_after table frame room
  unfolding table_released table_settled
  table_released-whole room h = sym (no_sixth clock table room (λ r. table) _ h) ∙ table-whole room

  -- ---- the reply is what came back after byte four

  module _ (room taken bytes : ℕ) (e : answer table frame room ≡ took taken bytes) where
    -- an accepted frame passes every refusal
    passed : Passed (frame_refusals table frame room)
    unfolding answer
    passed = has_passed (frame_refusals table frame room) Err _ (took taken bytes) (accepted-apart taken bytes) e

    module _ (part : Part) (c : command_in frame ≡ Reads part) where
      -- a read's length
      its-length : length frame ≡ frame_length (Reads part) (monitors table)
      its-length = whole room passed ∙ ap (λ (x : Command). frame_length x (monitors table)) c

      -- what came back by it
      its-reply : drop 4 (answered_all table frame start) ≡ came_for table frame (Reads part) (monitors table)
      its-reply = its_back room passed ∙ ap (λ (x : Command). came_for table frame x (monitors table)) c

      -- it is the monitors' replies, nearest monitor first
      pub read_whole : drop 4 (answered_all table frame start) ≡ reply_data (map (reply part) (rows record_size (monitors table) table))
      read_whole = its-reply ∙ came-reply table frame part (monitors table) its-length

      -- and no byte more
      pub read_length : length (drop 4 (answered_all table frame start)) ≡ payload_size * monitors table
      read_length = ap length its-reply ∙ length-came table frame part (monitors table) its-length

  -- the same where it is the release that accepts the read
  pub released_read : (taken bytes : ℕ) → released clock table ≡ took taken bytes → (part : Part) → command_in frame ≡ Reads part
      → drop 4 (answered_all table frame start) ≡ reply_data (map (reply part) (rows record_size (monitors table) table))
  released_read taken bytes e = read_whole (payload_size * monitors table) taken bytes (sym (released-whole (payload_size * monitors table) (omega arith)) ∙ e)

  -- of any accepted frame it begins as the reply buffer does
  pub reply-whole : (buffer : List ℕ) (taken bytes : ℕ) → answer table frame (length buffer) ≡ took taken bytes
      → take bytes (drop 4 (answered_all table frame start)) ≡ take bytes (reply_after table frame buffer)
  reply-whole buffer taken bytes e =
      let p = passed (length buffer) taken bytes e in
      ap₂ take its (its_back (length buffer) p)
      ∙ same-reply table frame (command_in frame) (monitors table) buffer (whole (length buffer) p)
      ∙ sym (ap₂ take its (accepted-reply table frame taken bytes buffer e))
    where
      its : bytes ≡ reply_length (command_in frame) (monitors table)
      its = accepted-length table frame taken bytes (length buffer) e
