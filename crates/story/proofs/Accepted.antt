-- What comes of a frame, a store, a compare, a load, a question about the outputs and a host's frame of which no refusal holds: the answer, each monitor's record and reply, and what our
-- host writes. With no refusal the outcome is the accepted one; it is taken apart by the laws of `chain` and `host`.
-- Assumes nothing.
use mathlib.Core.Path.{◌≡◌, refl, sym, ap, ◌∙◌}
use mathlib.Core.Bool.{Bool, true, not, ◌&&◌}
use mathlib.Core.List.{List, ◌++◌}
use Prim.Native.Nat.{ℕ, suc, ◌-◌, ◌*◌, ◌<◌}
use native.Mathlib.Nat.{mul_comm}
use native.Mathlib.Omega.{arith}
use lib.IntN.{ℤ}
use lib.ListN.{length, take, drop, length-drop}
use borrow.Author.Tests.{eqb-true, not-false}
use Rattle.laws.specs.Counts.{count}
use Rattle.laws.specs.Bits.{Bytes}
use Rattle.laws.specs.Rows.{row_at}
use Rattle.laws.specs.Tables.{tabulate}
use Rattle.laws.proofs.Rows.{length_row-at}
use Rattle.pec.specs.Words.{command_right, sealed_right}
use Rattle.pec.proofs.Messages.{bytes_of-take, bytes_of-drop}
use Rattle.refusals.specs.declared.Refusal.{Refusal}
use Rattle.refusals.specs.Order.{Row, decide, Passed}
use Rattle.refusals.proofs.Deciding.{passes}
use Rattle.records.specs.declared.commands.Bare.{Bare}
use Rattle.records.specs.declared.commands.Command.{Command}
use Rattle.records.specs.declared.commands.Command.TheVariants.{Reads, Writes, Bares}
use Rattle.records.specs.declared.commands.Write.{Write}
use Rattle.records.specs.declared.commands.Write.TheVariants.{Wrrr}
use Rattle.records.specs.declared.record.Part.{Part}
use Rattle.records.specs.Record.{cell_count, record_size, in_lpcm}
use Rattle.records.specs.Commands.{data_size, payload_size, width_of, frame_length, reply_length}
use Rattle.writes.proofs.Written.{needs_but_wrrr}
use Rattle.monitor.specs.Effects.{accepts, keeps}
use Rattle.monitor.proofs.Keeping.{good-checked}
use Rattle.reads.specs.Reply.{reply}
use Rattle.judging.specs.Table.{monitors, sound, changed_at}
use Rattle.judging.specs.Refusals.{command_in}
use Rattle.serving.specs.Served.{Awake, awake_of, payloads_in, taken_by, kept}
use Rattle.replying.specs.Replied.{replied}
use Rattle.chain.specs.Frame.{frame_refusals, answer, table_after, reply_after}
use Rattle.serving.proofs.OwnRecord.{own_record}
use Rattle.serving.proofs.Taken.{taken_read, taken_bare, taken-checked, taken_unchecked, taken_places}
use Rattle.replying.proofs.OwnReply.{own-reply, past_reply}
use Rattle.judging.proofs.Keeps.{Keeps}
use Rattle.judging.proofs.Lent.{lent_length}
use Rattle.judging.proofs.Soundness.{is_sound}
use Rattle.chain.proofs.FrameKeeps.{frame-keeps}
use Rattle.cells.specs.Cells.{store, compare, load}
use Rattle.cells.proofs.Loaded.{length-store, length-compare, length-load}
use Rattle.judging.proofs.Changed.{changed_record, other_record}
use Rattle.loads.specs.Load.{store_refusals, stored, table_after_store, compare_refusals, compared, table_after_compare, load_refusals, loaded, table_after_load}
use Rattle.judging.proofs.Place.{Place, there, fits}
use Rattle.loads.proofs.Place.{compare_place, store_place}
use Rattle.priorities.specs.declared.outputs.Events.{Events}
use Rattle.priorities.specs.Outputs.{outputs, count_on}
use Rattle.discharge.specs.Question.{discharge_refusals, discharged, outputs_after}
use Rattle.host.specs.Frames.{frame_for, build_refusals, built, buffer_after}
use Rattle.host.proofs.FrameFor.{length-frame}
use Rattle.story.specs.Numbers.{First}
use Rattle.story.proofs.Numbers.{first_refuses}
use Rattle.std.specs.Prelude.{Ok, Err}
use Rattle.chain.specs.Frame.{took}

-- ---- a frame

pub frame_refused : (table frame : List ℕ) (room : ℕ) (r : Refusal) → First (frame_refusals table frame room) r → answer table frame room ≡ Err r
unfolding answer
frame_refused table frame room r first = first_refuses (frame_refusals table frame room) Err _ r first

module _ (table frame : List ℕ) (room : ℕ) (none : Passed (frame_refusals table frame room)) where
  abbrev n : ℕ
  n = monitors table

  -- its table is sound, and stays so with its monitors; its first four bytes are right, and it has the length for its command
  pub frame-sound : sound table ≡ true
  unfolding frame_refusals
  frame-sound = not-false (sound table) none.0

  pub frame_right : command_right (take 4 frame) ≡ true
  unfolding frame_refusals
  frame_right = not-false (command_right (take 4 frame)) none.1.1.0

  pub kept_table : Keeps table (table_after table frame room)
  kept_table = frame-keeps table frame room frame-sound

  pub frame-whole : {c : Command} → command_in frame ≡ c → length frame ≡ frame_length c n
  unfolding frame_refusals
  frame-whole its =
      eqb-true (length frame) (frame_length (command_in frame) n) (not-false _ none.1.1.1.1.0) ∙ ap (λ (x : Command). frame_length x n) its

  answer-by : {c : Command} → command_in frame ≡ c → answer table frame room ≡ took (taken_by c n table frame) (reply_length c n)
  unfolding answer
  answer-by its =
      passes (frame_refusals table frame room) Err _ none
      ∙ ap (λ (x : Command). took (taken_by x n table frame) (reply_length x n)) its

  -- the own bytes of the monitor at k
  abbrev pub own_at : Command → ℕ → List ℕ
  own_at c k = row_at (width_of c) (n - suc k) (drop 4 frame)

  -- a write other than WRRR: of any chain the monitors that are not in LPCM and whose own bytes are right; of one with none in LPCM, those last
  pub write_answer : (c : Write) → (c ≡ Wrrr → ⊥) → command_in frame ≡ Writes c
      → answer table frame room
      ≡ took (count (λ k. not (in_lpcm (row_at record_size k table)) && sealed_right (data_size c) (own_at (Writes c) k)) (tabulate (λ k. k) 0 n)) 0
  write_answer c other its =
      answer-by its ∙ ap (λ (taken : ℕ). took taken 0) (taken_places c n table frame ∙ λ j. count (λ k. by_check k j) (tabulate (λ k. k) 0 n))
    where
      by_check : (k : ℕ) → accepts c (own_at (Writes c) k) (row_at record_size k table) ≡ not (in_lpcm (row_at record_size k table)) && sealed_right (data_size c) (own_at (Writes c) k)
      by_check k = unfold accepts in ap (λ (b : Bool). not (in_lpcm (row_at record_size k table)) && b) (good-checked c (own_at (Writes c) k) (needs_but_wrrr c other))

  pub write_answer_awake : (c : Write) → (c ≡ Wrrr → ⊥) → command_in frame ≡ Writes c → Awake n table
      → answer table frame room ≡ took (count (sealed_right (data_size c)) (payloads_in (Writes c) frame n)) 0
  write_answer_awake c other its awake = answer-by its ∙ ap (λ (taken : ℕ). took taken 0) (taken-checked c n table frame (needs_but_wrrr c other) awake)

  -- WRRR: those that are not in LPCM
  pub wrrr_answer : command_in frame ≡ Writes Wrrr → answer table frame room ≡ took (awake_of n table) 0
  wrrr_answer its = answer-by its ∙ ap (λ (taken : ℕ). took taken 0) (taken_unchecked Wrrr n table frame refl (frame-whole its))

  pub read_answer : (part : Part) → command_in frame ≡ Reads part → answer table frame room ≡ took n (payload_size * n)
  read_answer part its = answer-by its ∙ ap (λ (taken : ℕ). took taken (payload_size * n)) (taken_read part n table frame)

  pub bare_answer : (c : Bare) → command_in frame ≡ Bares c → answer table frame room ≡ took n 0
  bare_answer c its = answer-by its ∙ ap (λ (taken : ℕ). took taken 0) (taken_bare c n table frame)

  pub record_after : (k : ℕ) → k < n
      → row_at record_size k (table_after table frame room) ≡ keeps (command_in frame) (own_at (command_in frame) k) (row_at record_size k table)
  unfolding table_after
  record_after k h =
      ap (row_at record_size k) (passes (frame_refusals table frame room) (λ r. table) (kept (command_in frame) n table frame) none)
      ∙ own_record (command_in frame) n table frame k h (sym (is_sound table frame-sound).whole)

  -- the monitor at k: its own bytes, its record, and what it keeps of a command
  pub own-long : {c : Write} → command_in frame ≡ Writes c → (k : ℕ) → k < n → length (own_at (Writes c) k) ≡ width_of (Writes c)
  own-long {c} its k h =
      length_row-at (width_of (Writes c)) n (drop 4 frame) (n - suc k) (omega arith) (omega (arith, length-drop 4 frame, frame-whole its, mul_comm n (width_of (Writes c))))

  pub own-all-bytes : Bytes frame → (c : Command) (k : ℕ) → Bytes (own_at c k)
  unfolding row_at
  own-all-bytes bytes c k =
      bytes_of-take (drop ((n - suc k) * width_of c) (drop 4 frame)) (bytes_of-drop (drop 4 frame) (bytes_of-drop frame bytes 4) ((n - suc k) * width_of c)) (width_of c)

  pub record_at : (k : ℕ) → k < n → length (row_at record_size k table) ≡ record_size
  record_at k h = lent_length k table (omega (arith, (is_sound table frame-sound).whole))

  pub kept_at : {c : Command} → command_in frame ≡ c → (k : ℕ) → k < n
      → row_at record_size k (table_after table frame room) ≡ keeps c (own_at c k) (row_at record_size k table)
  kept_at its k h = record_after k h ∙ ap (λ (x : Command). keeps x (own_at x k) (row_at record_size k table)) its

module _ (table frame buffer : List ℕ) (none : Passed (frame_refusals table frame (length buffer))) where
  buffer_by : {c : Command} → command_in frame ≡ c → reply_after table frame buffer ≡ replied c (monitors table) table buffer
  unfolding reply_after
  buffer_by its =
      passes (frame_refusals table frame (length buffer)) (λ r. buffer) _ none ∙ ap (λ (x : Command). replied x (monitors table) table buffer) its

  module _ (part : Part) (its : command_in frame ≡ Reads part) where
    pub reply-own : (k : ℕ) → k < monitors table → row_at payload_size k (reply_after table frame buffer) ≡ reply part (row_at record_size k table)
    reply-own k h = ap (row_at payload_size k) (buffer_by its) ∙ own-reply part (monitors table) table buffer k h

    pub reply_past : drop (payload_size * monitors table) (reply_after table frame buffer) ≡ drop (payload_size * monitors table) buffer
    reply_past = ap (drop (payload_size * monitors table)) (buffer_by its) ∙ past_reply part (monitors table) table buffer

  pub write_no_reply : (c : Write) → command_in frame ≡ Writes c → reply_after table frame buffer ≡ buffer
  unfolding replied
  write_no_reply c its = buffer_by its

  pub bare_no_reply : (c : Bare) → command_in frame ≡ Bares c → reply_after table frame buffer ≡ buffer
  unfolding replied
  bare_no_reply c its = buffer_by its

-- ---- a store, a compare and a load

-- one record becomes what f makes of it, and every other stays
module _ (rows : List Row) (table : List ℕ) (position : ℕ) (f : List ℕ → List ℕ) (as_long : (r : List ℕ) → length (f r) ≡ length r) (place : Place table position) (none : Passed rows) where
  abbrev after : List ℕ
  after = decide rows (λ r. table) (changed_at (position - 1) f table)

  is_changed : after ≡ changed_at (position - 1) f table
  is_changed = passes rows (λ r. table) (changed_at (position - 1) f table) none

  pub own : row_at record_size (position - 1) after ≡ f (row_at record_size (position - 1) table)
  own = ap (row_at record_size (position - 1)) is_changed ∙ changed_record (position - 1) f as_long table (fits table position place)

  pub others : (j : ℕ) → j < monitors table → (j ≡ position - 1 → ⊥) → row_at record_size j after ≡ row_at record_size j table
  others j h apart =
      ap (row_at record_size j) is_changed
      ∙ other_record (position - 1) f as_long (monitors table) table (there table position place) (is_sound table place.its-sound).whole j h apart

module _ (table : List ℕ) (position : ℕ) (none : Passed (compare_refusals table position)) where
  pub compare-done : compared table position ≡ (Ok tt)
  unfolding compared
  compare-done = passes (compare_refusals table position) Err (Ok tt) none

  pub compare-own : row_at record_size (position - 1) (table_after_compare table position) ≡ compare (row_at record_size (position - 1) table)
  unfolding table_after_compare
  compare-own = own (compare_refusals table position) table position compare length-compare (compare_place table position none) none

  pub compare-others : (j : ℕ) → j < monitors table → (j ≡ position - 1 → ⊥) → row_at record_size j (table_after_compare table position) ≡ row_at record_size j table
  unfolding table_after_compare
  compare-others = others (compare_refusals table position) table position compare length-compare (compare_place table position none) none

module _ (table : List ℕ) (position : ℕ) (codes : List ℤ) (none : Passed (store_refusals table position codes)) where
  pub store-done : stored table position codes ≡ (Ok tt)
  unfolding stored
  store-done = passes (store_refusals table position codes) Err (Ok tt) none

  pub store-own : row_at record_size (position - 1) (table_after_store table position codes) ≡ store codes (row_at record_size (position - 1) table)
  unfolding table_after_store
  store-own = own (store_refusals table position codes) table position (store codes) (length-store codes) (store_place table position codes none) none

  pub store-others : (j : ℕ) → j < monitors table → (j ≡ position - 1 → ⊥) → row_at record_size j (table_after_store table position codes) ≡ row_at record_size j table
  unfolding table_after_store
  store-others = others (store_refusals table position codes) table position (store codes) (length-store codes) (store_place table position codes none) none

module _ (table : List ℕ) (position : ℕ) (codes : List ℤ) (none : Passed (load_refusals table position codes)) where
  its_place : Place table position
  unfolding load_refusals store_refusals
  its_place = store_place table position codes none

  pub load-done : loaded table position codes ≡ (Ok tt)
  unfolding loaded
  load-done = passes (load_refusals table position codes) Err (Ok tt) none

  pub load-own : row_at record_size (position - 1) (table_after_load table position codes) ≡ load codes (row_at record_size (position - 1) table)
  unfolding table_after_load
  load-own = own (load_refusals table position codes) table position (load codes) (length-load codes) its_place none

  pub load-others : (j : ℕ) → j < monitors table → (j ≡ position - 1 → ⊥) → row_at record_size j (table_after_load table position codes) ≡ row_at record_size j table
  unfolding table_after_load
  load-others = others (load_refusals table position codes) table position (load codes) (length-load codes) its_place none

-- ---- the discharge outputs

pub discharge_answer : (table : List ℕ) (position : ℕ) (events : Events) (phase : ℕ) (out : List ℕ) → Passed (discharge_refusals table position phase (length out))
    → (discharged table position events phase (length out) ≡ Ok (count_on events phase (row_at record_size (position - 1) table)))
    × (outputs_after table position events phase out ≡ outputs events phase (row_at record_size (position - 1) table) ++ drop cell_count out)
unfolding discharged outputs_after
discharge_answer table position events phase out none = (
  passes (discharge_refusals table position phase (length out)) Err _ none,
  passes (discharge_refusals table position phase (length out)) (λ r. out) _ none,
)

-- ---- a host's frame

pub host_writes : (code n : ℕ) (values buffer : List ℕ) → Passed (build_refusals code n values (length buffer))
    → (built code n values (length buffer) ≡ Ok (length (frame_for code n values)))
    × (buffer_after code n values buffer ≡ frame_for code n values ++ drop (length (frame_for code n values)) buffer)
unfolding built buffer_after build_refusals
host_writes code n values buffer none =
    let long = sym (length-frame code n values (eqb-true _ _ (not-false _ none.1.1.0))) in (
      passes (build_refusals code n values (length buffer)) Err _ none ∙ ap Ok long,
      passes (build_refusals code n values (length buffer)) (λ r. buffer) _ none ∙ ap (λ (m : ℕ). frame_for code n values ++ drop m buffer) long,
    )
