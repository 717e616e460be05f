-- What comes of an accepted frame, command by command: after the bytes of a whole frame each monitor's window makes of the command
-- what its own bytes of the frame make of it, and the bytes that came back are the reply. By the laws of the windows, of any width; a
-- read and a bare command do not look at the bytes, so there the number of windows is all that counts.
-- Assumes nothing.
use mathlib.Core.Path.{◌≡◌, refl, sym, ap, ◌∙◌}
use mathlib.Core.List.{List, ◌++◌, map}
use Prim.Native.Nat.{ℕ, ◌+◌, ◌*◌, ◌≤◌}
use native.Mathlib.Nat.{mul_comm}
use native.Mathlib.Omega.{arith}
use lib.Dec.{lit<}
use lib.ListN.{length, take, drop, length-drop, length-map}
use lib.Seq.{take_all, take_at}
use Rattle.laws.specs.Counts.{count}
use Rattle.laws.specs.Rows.{rows, joined, along}
use Rattle.laws.proofs.Rows.{Every, length-rows, length-joined, every_image, along_blind}
use Rattle.wire.specs.Order.{write_payloads, reply_data}
use Rattle.wire.specs.Windows.{empty}
use Rattle.wire.proofs.Windows.{windows-after_write, length-enter_all, length-empty, length-drawn, left-whole}
use Rattle.records.specs.declared.commands.Command.{Command}
use Rattle.records.specs.declared.commands.Command.TheVariants.{Reads, Writes, Bares, Unlisted}
use Rattle.records.specs.declared.commands.Write.{Write}
use Rattle.records.specs.declared.record.Part.{Part}
use Rattle.records.specs.Record.{record_size}
use Rattle.records.specs.Commands.{payload_size, width_of, frame_length, reply_length}
use Rattle.monitor.specs.Effects.{takes, keeps}
use Rattle.reads.specs.Reply.{reply}
use Rattle.reads.proofs.Showing.{length-reply}
use Rattle.serving.specs.Served.{takers, payloads_in, taken_by, kept}
use Rattle.replying.specs.Replied.{replied}
use Rattle.serving.proofs.OwnPayload.{length-payloads_in}
use Rattle.clocking.specs.Clock.{far, filled_for}
use Rattle.clocking.proofs.Known.{wide_of}
use Rattle.clocked.specs.Frames.{kept_back}
use Rattle.clocked.proofs.Run.{windows_for, came_for}

module _ (table frame : List ℕ) where
  -- how many bytes come after the fourth, of a frame that has w for each monitor
  later-bytes : (w n : ℕ) → length frame ≡ 4 + w * n → length (drop 4 frame) ≡ n * w
  later-bytes w n e = length-drop 4 frame ∙ omega (arith, mul_comm w n)

  -- ---- the windows

  -- one for each monitor
  as_many : (c : Command) (n : ℕ) → length (windows_for table frame c n) ≡ n
  unfolding filled_for
  as_many (Reads part) n =
      length-drawn far (length (drop 4 frame)) (map (reply part) (rows record_size n table))
      ∙ length-map (rows record_size n table) (reply part)
      ∙ length-rows record_size n table
  as_many (Writes c) n = length-enter_all (width_of (Writes c)) (drop 4 frame) (empty n) ∙ length-empty ℕ n
  as_many (Bares c) n = length-empty ℕ n
  as_many Unlisted n = length-empty ℕ n

  -- in a write each has its monitor's own bytes
  own-windows : (c : Write) (n : ℕ) → length frame ≡ frame_length (Writes c) n → windows_for table frame (Writes c) n ≡ write_payloads (width_of (Writes c)) n (drop 4 frame)
  unfolding filled_for
  own-windows c n e = let w : ℕ = width_of (Writes c) in windows-after_write w n (drop 4 frame) (wide_of (Writes c)).some (later-bytes w n e)

  -- as many monitors take the frame; any window does where the command does not look at it
  blind_taken : (c : Command) (n : ℕ) → ((r x y : List ℕ) → takes c x r ≡ takes c y r)
      → takers c (rows record_size n table) (windows_for table frame c n) ≡ taken_by c n table frame
  unfolding taken_by takers
  blind_taken c n same =
      ap (count (λ took. took)) (along_blind (λ r window. takes c window r) same (rows record_size n table) _ _ (as_many c n ∙ sym (length-payloads_in c n table frame)))

  pub same_taken : (c : Command) (n : ℕ) → length frame ≡ frame_length c n
      → takers c (rows record_size n table) (windows_for table frame c n) ≡ taken_by c n table frame
  unfolding filled_for taken_by payloads_in
  same_taken (Reads part) n e = blind_taken (Reads part) n (λ r x y. refl)
  same_taken (Writes c) n e = ap (takers (Writes c) (rows record_size n table)) (own-windows c n e)
  same_taken (Bares c) n e = blind_taken (Bares c) n (λ r x y. refl)
  same_taken Unlisted n e = blind_taken Unlisted n (λ r x y. refl)

  -- what the monitors keep by their windows
  abbrev kept_for : Command → ℕ → List (List ℕ) → List ℕ
  kept_for c n windows = joined (along (λ r window. keeps c window r) (rows record_size n table) windows)

  -- any window does where the command does not look at it
  blind : (c : Command) (n : ℕ) → ((r x y : List ℕ) → keeps c x r ≡ keeps c y r) → kept_for c n (windows_for table frame c n) ≡ kept c n table frame
  unfolding kept
  blind c n same = ap joined (along_blind (λ r window. keeps c window r) same (rows record_size n table) _ _ (as_many c n ∙ sym (length-payloads_in c n table frame)))

  -- each keeps the same
  pub same_kept : (c : Command) (n : ℕ) → length frame ≡ frame_length c n
      → joined (along (λ r window. keeps c window r) (rows record_size n table) (windows_for table frame c n)) ≡ kept c n table frame
  unfolding filled_for kept keeps payloads_in
  same_kept (Reads part) n e = blind (Reads part) n (λ r x y. refl)
  same_kept (Writes c) n e = ap (kept_for (Writes c) n) (own-windows c n e)
  same_kept (Bares c) n e = blind (Bares c) n (λ r x y. refl)
  same_kept Unlisted n e = blind Unlisted n (λ r x y. refl)

  -- ---- what came back after byte four

  module _ (part : Part) (n : ℕ) (e : length frame ≡ 4 + payload_size * n) where
    -- what the windows hold after byte four
    abbrev replies : List (List ℕ)
    replies = map (reply part) (rows record_size n table)

    -- eight bytes each
    each : Every payload_size replies
    each = every_image payload_size (reply part) (length-reply part) (rows record_size n table)

    -- one for each monitor
    all : length replies ≡ n
    all = length-map (rows record_size n table) (reply part) ∙ length-rows record_size n table

    -- of a read it is the reply
    pub came-reply : came_for table frame (Reads part) n ≡ reply_data replies
    unfolding filled_for reply_data
    came-reply = left-whole payload_size far (length (drop 4 frame)) replies (lit< tt) each (later-bytes payload_size n e ∙ ap (λ (m : ℕ). m * payload_size) (sym all))

    -- eight bytes for each monitor
    pub length-came : length (came_for table frame (Reads part) n) ≡ payload_size * n
    unfolding reply_data
    length-came = ap length came-reply ∙ length-joined payload_size replies each ∙ ap (λ (m : ℕ). m * payload_size) all ∙ mul_comm n payload_size

  -- it begins as the reply buffer does
  pub same-reply : (c : Command) (n : ℕ) (buffer : List ℕ) → length frame ≡ frame_length c n
      → take (reply_length c n) (came_for table frame c n) ≡ take (reply_length c n) (replied c n table buffer)
  unfolding replied
  same-reply (Reads part) n buffer e =
      take_all (payload_size * n) (came_for table frame (Reads part) n) (omega (arith, length-came part n e))
      ∙ came-reply part n e
      ∙ sym (take_at _ (drop (payload_size * n) buffer) (payload_size * n) (ap length (sym (came-reply part n e)) ∙ length-came part n e))
  same-reply (Writes c) n buffer e = refl
  same-reply (Bares c) n buffer e = refl
  same-reply Unlisted n buffer e = refl

  -- kept in a buffer of our own and put there, it makes the reply buffer what it is
  pub same_buffer : (c : Command) (n : ℕ) (back own buffer : List ℕ) → reply_length c n ≤ length own → length frame ≡ frame_length c n → drop 4 back ≡ came_for table frame c n
      → take (reply_length c n) (kept_back back own) ++ drop (reply_length c n) buffer ≡ replied c n table buffer
  unfolding replied kept_back
  same_buffer (Reads part) n back own buffer fits e came = ap (λ (front : List ℕ). front ++ drop (payload_size * n) buffer) front
    where
      l : length (drop 4 back) ≡ payload_size * n
      l = ap length came ∙ length-came part n e

      front : take (payload_size * n) (kept_back back own) ≡ reply_data (replies part n e)
      front =
          ap (λ (x : List ℕ). take (payload_size * n) (x ++ drop (length (drop 4 back)) own)) (take_all (length own) (drop 4 back) (omega (arith, l)))
          ∙ take_at (drop 4 back) _ (payload_size * n) l
          ∙ came
          ∙ came-reply part n e
  same_buffer (Writes c) n back own buffer fits e came = refl
  same_buffer (Bares c) n back own buffer fits e came = refl
  same_buffer Unlisted n back own buffer fits e came = refl
