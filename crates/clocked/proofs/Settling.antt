-- What comes of a clocked frame where a reply buffer is lent is what comes of the release's judgement, and then of the room. Where the
-- room does not stop it, it is what the release leaves, and the reply at the start of the buffer.
-- Assumes nothing.
use mathlib.Core.Path.{◌≡◌, refl, sym, ap, ◌∙◌, subst}
use mathlib.Core.Bool.{Bool, true, false, cond}
use mathlib.Core.List.{List, [], ◌∷◌, ◌++◌}
use Prim.Native.Nat.{ℕ, ◌*◌, ◌≤◌, ◌<◌}
use native.Mathlib.Omega.{arith}
use lib.Dec.{leb}
use lib.ListN.{length, take, drop}
use borrow.Author.Tests.{lt-ltb, le-ltb, leb-true}
use Rattle.laws.specs.Rows.{rows, joined, along}
use Rattle.refusals.specs.declared.Refusal.{Refusal}
use Rattle.refusals.specs.declared.Refusal.TheVariants.{NoRoom}
use Rattle.refusals.specs.Order.{decide}
use Rattle.refusals.proofs.Deciding.{decide_append, decide-map, holds_here, holds_not, none_left}
use Rattle.records.specs.declared.commands.Command.{Command}
use Rattle.records.specs.Record.{record_size}
use Rattle.records.specs.Commands.{most_monitors, payload_size, reply_length}
use Rattle.monitor.specs.Effects.{keeps}
use Rattle.serving.specs.Served.{takers}
use Rattle.chain.specs.declared.frames.Answer.{Answer}
use Rattle.judging.specs.declared.heads.Judged.{Judged}
use Rattle.judging.specs.Table.{monitors}
use Rattle.judging.specs.Refusals.{command_in, room_row}
use Rattle.judging.proofs.Judging.{within_most}
use Rattle.clocking.specs.Clock.{Clock}
use Rattle.releasing.specs.Release.{release_refusals, taken_of, kept_of, released, table_released}
use Rattle.releasing.specs.Judged.{judged}
use Rattle.clocked.specs.Frames.{reply_of, settle_refusals, settled, table_settled, buffer_settled}
use Rattle.clocking.proofs.Known.{reply_short}
use Rattle.releasing.proofs.ReleaseJudging.{ready}
use Rattle.releasing.proofs.ReleaseOutcome as release
use Rattle.std.specs.Prelude.{Result, Ok, Err}
use Rattle.judging.specs.Heads.{good}
use Rattle.chain.specs.Frame.{took}

-- a reply has room among the bytes of the longest, however the release is judged
pub reply-fits : (j : Result Judged Refusal) → reply_of j ≤ payload_size * most_monitors
reply-fits (Err r) = omega arith
reply-fits (Ok j) = go (leb j.monitors most_monitors) refl
  where
    go : (b : Bool) → leb j.monitors most_monitors ≡ b → cond b (reply_length j.command j.monitors) 0 ≤ payload_size * most_monitors
    go true e = let few = leb-true j.monitors most_monitors e in omega (arith, reply_short j.command j.monitors)
    go false e = omega arith

-- one of the three outcomes: `refused`, or what the command and the number of monitors lead to
module _ {A : Type 0} (c : Clock) (table : List ℕ) (room : ℕ) (refused : Refusal → A) (of : Command → ℕ → A) where
  abbrev outcome : A
  outcome = decide (settle_refusals c table room) refused (of (command_in c.head) (monitors table))

  abbrev next : Result Judged Refusal → A
  next (Err r) = refused r
  next (Ok j) = decide (room_row room j.command j.monitors ∷ []) refused (of j.command j.monitors)

  module _ {j : Result Judged Refusal} (e : judged c table ≡ j) where
    by-judgement : outcome ≡ next j
    unfolding settle_refusals judged
    by-judgement =
        decide_append (release_refusals c table) (room_row room (command_in c.head) (monitors table) ∷ []) refused (of (command_in c.head) (monitors table))
        ∙ sym (decide-map next (release_refusals c table) Err (good (command_in c.head) (monitors table)))
        ∙ ap next e

  -- refused by the judgement
  by-refusal : {r : Refusal} → judged c table ≡ Err r → outcome ≡ refused r
  by-refusal e = by-judgement e

  module _ {command : Command} {n : ℕ} (e : judged c table ≡ good command n) where
    -- refused for the room
    by_room : room < reply_length command n → outcome ≡ refused NoRoom
    by_room h = by-judgement e ∙ holds_here (room_row room command n) [] refused (of command n) (lt-ltb room (reply_length command n) h)

    -- not refused
    by-none : reply_length command n ≤ room → outcome ≡ of command n
    by-none h =
        by-judgement e
        ∙ holds_not (room_row room command n) [] refused (of command n) (le-ltb room (reply_length command n) h)
        ∙ none_left refused (of command n)

-- ---- the answer, the table and the reply buffer

module _ (c : Clock) (table back buffer : List ℕ) where
  abbrev answers : Command → ℕ → Result Answer Refusal
  answers command n = took (takers command (rows record_size n table) c.windows) (reply_length command n)

  abbrev tables : Command → ℕ → List ℕ
  tables command n = joined (along (λ r window. keeps command window r) (rows record_size n table) c.windows)

  abbrev buffers : Command → ℕ → List ℕ
  buffers command n = take (reply_length command n) back ++ drop (reply_length command n) buffer

  -- what was settled
  pub record Settled (answer : Result Answer Refusal) (after : List ℕ) (left : List ℕ) : Type 0 where
    pub the_answer : answer ≡ settled c table (length buffer)
    pub the_table : after ≡ table_settled c table (length buffer)
    pub the_buffer : left ≡ buffer_settled c table back buffer

  -- the length of the reply is the command's, where the release is accepted
  its-length : {command : Command} {n : ℕ} → judged c table ≡ good command n → reply_of (good command n) ≡ reply_length command n
  its-length {command} {n} e = within_most n (reply_length command n) (ready c table e).few refl

  -- the room stops it
  room_by : (j : Result Judged Refusal) → judged c table ≡ j → length buffer < reply_of j → Settled (Err NoRoom) table buffer
  unfolding settled taken_of table_settled kept_of buffer_settled
  room_by (Err r) e h = absurd (omega arith)
  room_by (Ok j) e h =
      let small : length buffer < reply_length j.command j.monitors = subst (λ (k : ℕ). length buffer < k) (its-length e) h in
      record {
        the_answer = sym (by_room c table (length buffer) Err answers e small);
        the_table = sym (by_room c table (length buffer) (λ r. table) tables e small);
        the_buffer = sym (by_room c table (length buffer) (λ r. buffer) buffers e small);
      }

  -- it does not
  none-by : (j : Result Judged Refusal) → judged c table ≡ j → {answer : Result Answer Refusal} {after left : List ℕ} → reply_of j ≤ length buffer → answer ≡ released c table
      → after ≡ table_released c table → left ≡ take (reply_of j) back ++ drop (reply_of j) buffer → Settled answer after left
  unfolding settled taken_of table_settled kept_of buffer_settled
  none-by (Err r) e h a t b =
      record {
        the_answer = a ∙ release.the_answer c table e ∙ sym (by-refusal c table (length buffer) Err answers e);
        the_table = t ∙ release.the_table c table e ∙ sym (by-refusal c table (length buffer) (λ r. table) tables e);
        the_buffer = b ∙ sym (by-refusal c table (length buffer) (λ r. buffer) buffers e);
      }
  none-by (Ok j) e h a t b =
      let enough : reply_length j.command j.monitors ≤ length buffer = subst (λ (k : ℕ). k ≤ length buffer) (its-length e) h in
      record {
        the_answer = a ∙ release.the_answer c table e ∙ sym (by-none c table (length buffer) Err answers e enough);
        the_table = t ∙ release.the_table c table e ∙ sym (by-none c table (length buffer) (λ r. table) tables e enough);
        the_buffer = b ∙ ap (λ (k : ℕ). take k back ++ drop k buffer) (its-length e) ∙ sym (by-none c table (length buffer) (λ r. buffer) buffers e enough);
      }

  -- by the length that the code made out
  module _ {size : ℕ} (its : size ≡ reply_of (judged c table)) where
    pub settled_room : length buffer < size → Settled (Err NoRoom) table buffer
    settled_room h = room_by (judged c table) refl (subst (λ (k : ℕ). length buffer < k) its h)

    pub settled-none : {answer : Result Answer Refusal} {after left : List ℕ} → size ≤ length buffer → answer ≡ released c table → after ≡ table_released c table
        → left ≡ take size back ++ drop size buffer → Settled answer after left
    settled-none h a t b =
        none-by (judged c table) refl (subst (λ (k : ℕ). k ≤ length buffer) its h) a t (b ∙ ap (λ (k : ℕ). take k back ++ drop k buffer) its)
