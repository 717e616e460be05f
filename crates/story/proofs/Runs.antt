-- One event by each engine is one event by the rules. A whole frame: its refusals are the rules' and one more, which a full reply's
-- room passes, and its answer, table and buffer go by the same refusals. A clocked frame: its state stands for the clock at every
-- byte, and a clocked frame comes to what a whole one does.
-- Assumes nothing.
use mathlib.Core.Path.{◌≡◌, refl, ap, ap₂, ◌∙◌}
use mathlib.Core.Bool.{Bool, true, false, cond, not, ◌&&◌, ◌||◌}
use mathlib.Core.List.{List, [], ◌∷◌, map}
use Prim.Native.Nat.{ℕ, ◌*◌, ◌≤◌}
use native.Mathlib.Nat.{le_trans, mul_comm}
use native.Mathlib.Omega.{arith}
use lib.Dec.{eqb}
use lib.ListN.{length, take, drop, replicate, length-map, length-drop, length-replicate}
use lib.Seq.{take_at}
use borrow.Author.Tests.{le-ltb, eq-eqb, eqb-true, not-false}
use Rattle.laws.specs.Counts.{count}
use Rattle.laws.specs.Rows.{rows}
use Rattle.laws.proofs.Rows.{length-rows, length-joined, every_image, along-same}
use Rattle.wire.specs.Order.{reply_data}
use Rattle.wire.proofs.Order.{every_write_payloads}
use Rattle.refusals.specs.declared.Refusal.{Refusal}
use Rattle.refusals.specs.Order.{decide, Passed}
use Rattle.pec.specs.Words.{sealed_right}
use Rattle.refusals.proofs.Deciding.{decide_append, passes, passed_agree}
use Rattle.records.specs.declared.commands.Command.{Command}
use Rattle.records.specs.declared.commands.Command.TheVariants.{Reads, Writes, Bares, Unlisted}
use Rattle.records.specs.declared.commands.Write.{Write}
use Rattle.records.specs.declared.record.Part.{Part}
use Rattle.records.specs.Record.{record_size, in_lpcm}
use Rattle.records.specs.Commands.{data_size, payload_size, width_of, frame_length, reply_length}
use Rattle.writes.specs.Writes.{rules_of}
use Rattle.monitor.specs.Effects.{good_for, accepts}
use Rattle.reads.specs.Reply.{reply}
use Rattle.reads.proofs.Showing.{length-reply}
use Rattle.chain.specs.declared.frames.Answer.{Answer}
use Rattle.judging.specs.Table.{monitors}
use Rattle.judging.specs.Refusals.{command_in, room_row}
use Rattle.serving.specs.Served.{takers, payloads_in, taken_by, kept}
use Rattle.replying.specs.Replied.{replied}
use Rattle.chain.specs.Frame.{frame_refusals, answer, table_after, reply_after}
use Rattle.replying.proofs.OwnReply.{length-replied}
use Rattle.refusals.proofs.Decided.{either_way}
use Rattle.serving.proofs.Taken.{taken_read, taken_bare, taken_none}
use Rattle.clocking.specs.Clock.{Clock, start, answered}
use Rattle.releasing.specs.Release.{released, table_released}
use Rattle.clocked.specs.Frames.{clocked_all, answered_all}
use Rattle.clock_state.specs.State.{state_size, idle}
use Rattle.clocking.specs.Bytes.{clock_of, state_after}
use Rattle.clocking.proofs.Known.{reply_short}
use Rattle.clocking.proofs.Lengths.{length-state_after}
use Rattle.clocking.proofs.View.{view, view_idle}
use Rattle.clocked.proofs.Whole.{released-whole, table_released-whole, reply-whole}
use Rattle.story.proofs.Operations.{decide_three, step_to}
use Rattle.story.specs.Runs.{Frame, Seen, Answered, Step, reply_bytes, rule_refusals, takes_write, takers_of, replies, obeyed, ruled, state_after_all, came_back}
use Rattle.std.specs.Prelude.{Result, Err, Ok}
use Rattle.chain.specs.Frame.{took}

-- ---- what an accepted frame makes, in the rules' words

-- what a monitor takes of a write is what the rules say, of as many own bytes as the write has
rules-take : (c : Write) (r own : List ℕ) → length own ≡ width_of (Writes c) → accepts c own r ≡ takes_write c r own
unfolding accepts takes_write good_for
rules-take c r own l = ap (λ (b : Bool). not (in_lpcm r) && b) (by (rules_of c).needs_check)
  where
    by : (needs : Bool) → cond needs (sealed_right (data_size c) own) (eqb (length own) (width_of (Writes c))) ≡ not needs || sealed_right (data_size c) own
    by true = refl
    by false = eq-eqb (length own) (width_of (Writes c)) l

-- so as many take it
pub same-takers : (c : Command) (n : ℕ) (table frame : List ℕ) → length frame ≡ frame_length c n → taken_by c n table frame ≡ takers_of c n table frame
unfolding takers_of
same-takers (Reads part) n table frame whole = taken_read part n table frame
same-takers (Writes c) n table frame whole =
    unfold taken_by takers payloads_in in
    ap (count (λ took. took))
    (along-same (λ r own. accepts c own r) (takes_write c) (width_of (Writes c)) (rules-take c) (rows record_size n table)
    (payloads_in (Writes c) frame n) (every_write_payloads (width_of (Writes c)) n (drop 4 frame) (omega (arith, length-drop 4 frame, whole, mul_comm n (width_of (Writes c))))))
same-takers (Bares c) n table frame whole = taken_bare c n table frame
same-takers Unlisted n table frame whole = taken_none n table frame

pub length-replies : (part : Part) (n : ℕ) (table : List ℕ) → length (reply_data (map (reply part) (rows record_size n table))) ≡ payload_size * n
unfolding reply_data
length-replies part n table =
    let all = map (reply part) (rows record_size n table) in
    length-joined payload_size all (every_image payload_size (reply part) (length-reply part) (rows record_size n table))
    ∙ ap (λ (m : ℕ). m * payload_size) (length-map (rows record_size n table) (reply part) ∙ length-rows record_size n table)
    ∙ mul_comm n payload_size

-- the reply is the first bytes of the buffer
same-replies : (c : Command) (n : ℕ) (table buffer : List ℕ) → take (reply_length c n) (replied c n table buffer) ≡ replies c n table
unfolding replied replies
same-replies (Reads part) n table buffer = take_at _ _ (payload_size * n) (length-replies part n table)
same-replies (Writes c) n table buffer = refl
same-replies (Bares c) n table buffer = refl
same-replies Unlisted n table buffer = refl

-- ---- a whole frame

-- what is seen of an answer and a buffer
abbrev seen_in : Result Answer Refusal → List ℕ → Seen
seen_in said left = Answered said (take (reply_bytes said) left)

module _ (table frame buffer : List ℕ) (room : payload_size * monitors table ≤ length buffer) where
  abbrev c : Command
  c = command_in frame

  abbrev n : ℕ
  n = monitors table

  -- refusal 6 does not hold
  no_sixth : {A : Type 0} (refused : Refusal → A) (accepted : A)
      → decide (frame_refusals table frame (length buffer)) refused accepted ≡ decide (rule_refusals table frame) refused accepted
  unfolding frame_refusals rule_refusals
  no_sixth refused accepted =
      let sixth = room_row (length buffer) c n ∷ [] in
      decide_append (rule_refusals table frame) sixth refused accepted
      ∙ ap (decide (rule_refusals table frame) refused) (passes sixth refused accepted (le-ltb (length buffer) (reply_length c n) (le_trans (reply_short c n) room), tt))

  -- a frame that no refusal stops has the length for its command
  whole-frame : Passed (rule_refusals table frame) → length frame ≡ frame_length c n
  unfolding rule_refusals
  whole-frame p = eqb-true (length frame) (frame_length c n) (not-false _ p.1.1.1.1.0)

  pub frame_step : step_to (table_after table frame (length buffer)) (seen_in (answer table frame (length buffer)) (reply_after table frame buffer)) ≡ ruled table (Frame frame)
  unfolding table_after answer reply_after ruled obeyed kept
  frame_step =
      let rows = frame_refusals table frame (length buffer) in
      decide_three seen_in rows table Err buffer _ _ _
      ∙ no_sixth (λ r. step_to table (Answered (Err r) [])) _
      ∙ passed_agree (rule_refusals table frame) (λ r. step_to table (Answered (Err r) [])) _ _
      (λ p. ap₂ (λ (taken : ℕ) (back : List ℕ). step_to (kept c n table frame) (Answered (took taken (reply_length c n)) back))
      (same-takers c n table frame (whole-frame p)) (same-replies c n table buffer))

  -- the buffer stays as long as it was
  pub length-after : length (reply_after table frame buffer) ≡ length buffer
  unfolding reply_after
  length-after =
      either_way (λ (left : List ℕ). length left ≡ length buffer) (frame_refusals table frame (length buffer)) (λ r. buffer) (replied c n table buffer)
      (λ r. refl) (length-replied c n table buffer (le_trans (reply_short c n) room))

-- ---- a clocked frame

-- the state stands for the clock, byte by byte
view_all : (table frame state : List ℕ) → length state ≡ state_size → clock_of (state_after_all table frame state) ≡ clocked_all table frame (clock_of state)
unfolding state_after_all clocked_all
view_all table [] state sized = refl
view_all table (byte ∷ frame) state sized =
    view_all table frame (state_after table byte state) (length-state_after table byte state sized) ∙ ap (clocked_all table frame) (view table byte state sized)

same_back : (table frame state : List ℕ) → length state ≡ state_size → came_back table frame state ≡ answered_all table frame (clock_of state)
unfolding came_back answered_all
same_back table [] state sized = refl
same_back table (byte ∷ frame) state sized =
    ap (λ (back : List ℕ). answered (clock_of state) ∷ back)
    (same_back table frame (state_after table byte state) (length-state_after table byte state sized) ∙ ap (answered_all table frame) (view table byte state sized))

length-idle : length idle ≡ state_size
unfolding idle
length-idle = length-replicate {A = ℕ} state_size 0

-- a buffer for a full reply
abbrev pub full : List ℕ → List ℕ
full table = replicate (payload_size * monitors table) 0

pub has_room : (table : List ℕ) → payload_size * monitors table ≤ length (full table)
has_room table = omega (arith, length-replicate {A = ℕ} (payload_size * monitors table) 0)

module _ (table frame : List ℕ) where
  -- from the start
  pub clock-whole : clock_of (state_after_all table frame idle) ≡ clocked_all table frame start
  clock-whole = view_all table frame idle length-idle ∙ ap (clocked_all table frame) view_idle

  pub back_whole : came_back table frame idle ≡ answered_all table frame start
  back_whole = same_back table frame idle length-idle ∙ ap (answered_all table frame) view_idle

  -- what came back begins as a buffer for a full reply does
  same-reply : (said : Result Answer Refusal) → answer table frame (length (full table)) ≡ said
      → take (reply_bytes said) (drop 4 (answered_all table frame start)) ≡ take (reply_bytes said) (reply_after table frame (full table))
  same-reply (Err r) e = refl
  same-reply (Ok a) e = reply-whole table frame (full table) a.taken a.reply e

  abbrev step_by : Clock → List ℕ → Step
  step_by clock back = step_to (table_released clock table) (seen_in (released clock table) (drop 4 back))

  pub clocked-step : step_by (clock_of (state_after_all table frame idle)) (came_back table frame idle) ≡ ruled table (Frame frame)
  clocked-step =
      let clock = clocked_all table frame start in
      let back = drop 4 (answered_all table frame start) in
      let said = answer table frame (length (full table)) in
      ap₂ step_by clock-whole back_whole
      ∙ ap₂ (λ (after : List ℕ) (a : Result Answer Refusal). step_to after (seen_in a back)) (table_released-whole table frame (length (full table)) (has_room table)) (released-whole table frame (length (full table)) (has_room table))
      ∙ ap (λ (left : List ℕ). step_to (table_after table frame (length (full table))) (Answered said left)) (same-reply said refl)
      ∙ frame_step table frame (full table) (has_room table)
