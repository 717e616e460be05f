-- Our host and the chain. For every sound table and every frame that our host builds for its N: the chain accepts it; in a write all
-- monitors take it that are not in LPCM, and each keeps what it would keep of its own data, the k-th of the list; in a read every
-- monitor's part of the reply is right.
-- Assumes nothing.
use mathlib.Core.Path.{◌≡◌, refl, sym, ap, ◌∙◌, subst}
use mathlib.Core.Bool.{Bool, true, not, ◌&&◌}
use mathlib.Core.List.{List, [], map}
use Prim.Native.Nat.{ℕ, suc, ◌-◌, ◌*◌, ◌≤◌, ◌<◌}
use native.Mathlib.Nat.{mul_comm}
use native.Mathlib.Omega.{arith}
use lib.ListN.{length, get_or, drop}
use borrow.Author.Tests.{le-ltb, eq-eqb}
use Rattle.laws.specs.Rows.{rows, row_at}
use Rattle.laws.specs.Tables.{tabulate}
use Rattle.laws.proofs.Lists.{get_d_map}
use Rattle.laws.proofs.Counts.{and_true}
use Rattle.laws.proofs.CountsAlong.{count-first}
use Rattle.laws.proofs.Rows.{length-rows, length_row-at, row-at}
use Rattle.pec.specs.Words.{sealed_right, payload_right}
use Rattle.pec.proofs.CheckWords.{seal-right}
use Rattle.wire.proofs.Order.{write_at}
use Rattle.refusals.specs.Order.{Passed}
use Rattle.refusals.proofs.Deciding.{passes}
use Rattle.records.specs.declared.commands.Command.{Command}
use Rattle.records.specs.declared.commands.Command.TheVariants.{Reads, Writes, Bares}
use Rattle.records.specs.declared.commands.Write.{Write}
use Rattle.records.specs.declared.commands.Bare.{Bare}
use Rattle.records.specs.declared.record.Part.{Part}
use Rattle.records.specs.Record.{record_size, counter, in_lpcm, byte_of}
use Rattle.records.specs.Commands.{commands, command_of, is_listed, data_size, register_size, payload_size, width_of, frame_length, reply_length}
use Rattle.monitor.specs.Effects.{accepts, keeps}
use Rattle.monitor.proofs.Keeping.{right-good}
use Rattle.reads.specs.Reply.{six_bytes, register, reply}
use Rattle.judging.specs.Table.{monitors, sound}
use Rattle.judging.specs.Refusals.{command_in}
use Rattle.serving.specs.Served.{takers, Awake, awake_of, payloads_in, taken_by, kept}
use Rattle.replying.specs.Replied.{replied}
use Rattle.chain.specs.Frame.{frame_refusals, answer, table_after, reply_after}
use Rattle.chain.specs.Judged.{judged}
use Rattle.judging.proofs.Soundness.{is_sound}
use Rattle.chain.proofs.Outcome.{head, the_answer, the_table, the_buffer}
use Rattle.serving.proofs.OwnRecord.{own_record}
use Rattle.serving.proofs.OwnPayload.{own-bytes, length-payloads_in}
use Rattle.replying.proofs.OwnReply.{own-reply}
use Rattle.serving.proofs.Taken.{taken_read, taken_bare, awake_all}
use Rattle.host.specs.Frames.{sealed, value_count, frame_for}
use Rattle.host.proofs.FrameFor.{length-frame, frame_right, frame-code, write-payloads}
use Rattle.host.proofs.Payloads.{sealed-right}
use Rattle.std.specs.Prelude.{Err}
use Rattle.judging.specs.Heads.{good}
use Rattle.chain.specs.Frame.{took}

-- ---- any frame that our host builds for a sound table's N

module _ (table values : List ℕ) (code room : ℕ) (c : Command) (its : command_of code commands ≡ c) (listed : is_listed c ≡ true)
    (is-sound-table : sound table ≡ true) (right-count : length values ≡ value_count c (monitors table)) (enough : reply_length c (monitors table) ≤ room) where
  abbrev its-frame : List ℕ
  its-frame = frame_for code (monitors table) values

  pub command-in : command_in its-frame ≡ c
  unfolding command_in
  command-in = ap (λ (x : ℕ). command_of x commands) (frame-code code (monitors table) values) ∙ its

  frame-length : length its-frame ≡ frame_length c (monitors table)
  frame-length =
      length-frame code (monitors table) values (right-count ∙ ap (λ (k : Command). value_count k (monitors table)) (sym its))
      ∙ ap (λ (k : Command). frame_length k (monitors table)) its

  -- no refusal holds
  pub host_passes : Passed (frame_refusals table its-frame room)
  unfolding frame_refusals
  host_passes =
      let n = monitors table in
      let four : 4 ≤ length its-frame = omega (arith, frame-length, head c n) in
      let long : length its-frame ≡ frame_length (command_in its-frame) n = frame-length ∙ ap (λ (k : Command). frame_length k n) (sym command-in) in
      let fits : reply_length (command_in its-frame) n ≤ room = subst (λ (k : Command). reply_length k n ≤ room) (sym command-in) enough in (
        ap not is-sound-table,
        (
          le-ltb _ _ four,
          (
            ap not (frame_right code n values),
            (
              ap not (ap is_listed command-in ∙ listed),
              (
                ap not (eq-eqb _ _ long),
                (le-ltb _ _ fits, tt),
              ),
            ),
          ),
        ),
      )

module _ (table values buffer : List ℕ) (code : ℕ) (c : Command) (its : command_of code commands ≡ c) (listed : is_listed c ≡ true)
    (is-sound-table : sound table ≡ true) (right-count : length values ≡ value_count c (monitors table)) (enough : reply_length c (monitors table) ≤ length buffer) where
  abbrev frame : List ℕ
  frame = frame_for code (monitors table) values

  pub judged-good : judged table frame (length buffer) ≡ good c (monitors table)
  unfolding judged
  judged-good =
      passes (frame_refusals table frame (length buffer)) Err (good (command_in frame) (monitors table))
      (host_passes table values code (length buffer) c its listed is-sound-table right-count enough)
      ∙ ap (λ (k : Command). good k (monitors table)) (command-in table values code (length buffer) c its listed is-sound-table right-count enough)

  pub accepted : answer table frame (length buffer) ≡ took (taken_by c (monitors table) table frame) (reply_length c (monitors table))
  accepted = the_answer table frame buffer judged-good

  pub table-after : table_after table frame (length buffer) ≡ kept c (monitors table) table frame
  table-after = the_table table frame buffer judged-good

  pub reply-after : reply_after table frame buffer ≡ replied c (monitors table) table buffer
  reply-after = the_buffer table frame buffer judged-good

-- ---- writes

-- right bytes are accepted by every monitor that is not in LPCM
pub accepts-right : (w : Write) (own r : List ℕ) → sealed_right (data_size w) own ≡ true → accepts w own r ≡ not (in_lpcm r)
unfolding accepts
accepts-right w own r h = ap (λ (b : Bool). not (in_lpcm r) && b) (right-good w own h) ∙ and_true (not (in_lpcm r))

module _ (code n : ℕ) (values : List ℕ) (w : Write) (its : command_of code commands ≡ Writes w) (right-count : length values ≡ data_size w * n) where
  own-payloads : payloads_in (Writes w) (frame_for code n values) n ≡ map sealed (rows (data_size w) n values)
  unfolding payloads_in
  own-payloads = write-payloads code n values w its right-count

  -- the own bytes of the monitor at k, counted from 0, are the k-th data of the list, sealed; on the wire they are the k-th from the end
  pub own_data : (k : ℕ) → k < n → row_at (width_of (Writes w)) (n - suc k) (drop 4 (frame_for code n values)) ≡ sealed (row_at (data_size w) k values)
  unfolding payloads_in
  own_data k h =
      let within = length-rows (data_size w) n values in
      sym (write_at (width_of (Writes w)) n (drop 4 (frame_for code n values)) k [] h)
      ∙ ap (λ (ps : List (List ℕ)). get_or ps k []) own-payloads
      ∙ get_d_map sealed (rows (data_size w) n values) k [] [] (omega arith)
      ∙ ap sealed (row-at (data_size w) n values k [] h)

  -- and right
  pub own_data_right : (k : ℕ) → k < n → sealed_right (data_size w) (row_at (width_of (Writes w)) (n - suc k) (drop 4 (frame_for code n values))) ≡ true
  own_data_right k h =
      ap (sealed_right (data_size w)) (own_data k h)
      ∙ sealed-right (row_at (data_size w) k values) (length_row-at (data_size w) n values k h (omega (arith, right-count, mul_comm n (data_size w))))

module _ (table values buffer : List ℕ) (code : ℕ) (w : Write) (its : command_of code commands ≡ Writes w)
    (is-sound-table : sound table ≡ true) (right-count : length values ≡ data_size w * monitors table) where
  abbrev written-frame : List ℕ
  written-frame = frame_for code (monitors table) values

  -- all take it that are not in LPCM
  awake_taken : taken_by (Writes w) (monitors table) table written-frame ≡ awake_of (monitors table) table
  unfolding taken_by takers awake_of
  awake_taken =
      let n = monitors table in
      let owns = payloads_in (Writes w) written-frame n in
      let as_many : length (rows record_size n table) ≡ length owns = length-rows record_size n table ∙ sym (length-payloads_in (Writes w) n table written-frame) in
      count-first (λ r own. accepts w own r) [] [] (λ r. not (in_lpcm r)) (rows record_size n table) owns as_many
      (λ k l.
      let within : k < n = omega (arith, length-rows record_size n table) in
      let right = ap (sealed_right (data_size w)) (own-bytes (Writes w) n table written-frame k within) ∙ own_data_right code n values w its right-count k within in
      accepts-right w (get_or owns k []) (get_or (rows record_size n table) k []) right)

  -- the chain accepts the frame, and so in a chain with none in LPCM all N monitors take it
  pub write_taken : answer table written-frame (length buffer) ≡ took (awake_of (monitors table) table) 0
  write_taken = accepted table values buffer code (Writes w) its refl is-sound-table right-count (omega arith) ∙ ap (λ (t : ℕ). took t 0) awake_taken

  pub write_taken_by-all : Awake (monitors table) table → answer table written-frame (length buffer) ≡ took (monitors table) 0
  write_taken_by-all awake = write_taken ∙ ap (λ (t : ℕ). took t 0) (awake_all (monitors table) table awake)

  pub each-keeps-its-own : (k : ℕ) → k < monitors table
      → row_at record_size k (table_after table written-frame (length buffer)) ≡ keeps (Writes w) (sealed (row_at (data_size w) k values)) (row_at record_size k table)
  each-keeps-its-own k h =
      ap (row_at record_size k) (table-after table values buffer code (Writes w) its refl is-sound-table right-count (omega arith))
      ∙ own_record (Writes w) (monitors table) table written-frame k h (sym (is_sound table is-sound-table).whole)
      ∙ ap (λ (own : List ℕ). keeps (Writes w) own (row_at record_size k table)) (own_data code (monitors table) values w its right-count k h)

-- ---- reads

pub length-six : (part : Part) (r : List ℕ) → length (six_bytes part r) ≡ register_size
unfolding six_bytes tabulate
length-six part r = refl

pub length-register : (part : Part) (r : List ℕ) → length (register part r) ≡ register_size
unfolding register
length-register part r = length-six _ r

pub reply-right : (part : Part) (r : List ℕ) → payload_right (reply part r) ≡ true
unfolding reply
reply-right part r = seal-right (register part r) (byte_of counter r) (length-register part r)

module _ (table buffer : List ℕ) (code : ℕ) (part : Part) (its : command_of code commands ≡ Reads part)
    (is-sound-table : sound table ≡ true) (enough : payload_size * monitors table ≤ length buffer) where
  pub read_taken_by-all : answer table (frame_for code (monitors table) []) (length buffer) ≡ took (monitors table) (payload_size * monitors table)
  read_taken_by-all =
      accepted table [] buffer code (Reads part) its refl is-sound-table refl enough
      ∙ ap (λ (t : ℕ). took t (payload_size * monitors table)) (taken_read part (monitors table) table (frame_for code (monitors table) []))

  -- monitor by monitor: its part of the reply is what it replies, and that is right
  pub each-reply-its-own : (k : ℕ) → k < monitors table → row_at payload_size k (reply_after table (frame_for code (monitors table) []) buffer) ≡ reply part (row_at record_size k table)
  each-reply-its-own k h =
      ap (row_at payload_size k) (reply-after table [] buffer code (Reads part) its refl is-sound-table refl enough)
      ∙ own-reply part (monitors table) table buffer k h

  pub each-reply-right : (k : ℕ) → k < monitors table → payload_right (row_at payload_size k (reply_after table (frame_for code (monitors table) []) buffer)) ≡ true
  each-reply-right k h = ap payload_right (each-reply-its-own k h) ∙ reply-right part (row_at record_size k table)

-- ---- bare commands

pub bare_taken_by-all : (table buffer : List ℕ) (code : ℕ) (c : Bare) → command_of code commands ≡ Bares c → sound table ≡ true
    → answer table (frame_for code (monitors table) []) (length buffer) ≡ took (monitors table) 0
bare_taken_by-all table buffer code c its is-sound-table =
    accepted table [] buffer code (Bares c) its refl is-sound-table refl (omega arith)
    ∙ ap (λ (t : ℕ). took t 0) (taken_bare c (monitors table) table (frame_for code (monitors table) []))
