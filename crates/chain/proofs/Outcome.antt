-- What comes of a frame is what comes of its judgement: the answer, the table and the reply buffer.
-- Assumes nothing.
use mathlib.Core.Path.{◌≡◌, sym, ap, ◌∙◌}
use mathlib.Core.List.{List}
use Prim.Native.Nat.{ℕ, ◌≤◌}
use native.Mathlib.Omega.{arith}
use lib.Dec.{lit≤}
use lib.ListN.{length}
use Rattle.refusals.proofs.Deciding.{decide-map}
use Rattle.records.specs.declared.commands.Command.{Command}
use Rattle.records.specs.declared.commands.Command.TheVariants.{Reads, Writes, Bares, Unlisted}
use Rattle.records.specs.Commands.{frame_length, reply_length}
use Rattle.chain.specs.declared.frames.Answer.{Answer}
use Rattle.judging.specs.declared.heads.Judged.{Judged}
use Rattle.judging.specs.Table.{monitors}
use Rattle.judging.specs.Refusals.{command_in}
use Rattle.serving.specs.Served.{taken_by, kept}
use Rattle.replying.specs.Replied.{replied}
use Rattle.chain.specs.Frame.{frame_refusals, answer, table_after, reply_after}
use Rattle.chain.specs.Judged.{judged}
use Rattle.std.specs.Prelude.{Result, Ok, Err}
use Rattle.refusals.specs.declared.Refusal.{Refusal}
use Rattle.judging.specs.Heads.{good}
use Rattle.chain.specs.Frame.{took}

-- every frame of a command has its head of four bytes
pub head : (c : Command) (n : ℕ) → 4 ≤ frame_length c n
head (Reads part) n = omega arith
head (Writes c) n = omega arith
head (Bares c) n = lit≤ tt
head Unlisted n = lit≤ tt

module _ (table frame buffer : List ℕ) where
  abbrev to_answer : Result Judged Refusal → Result Answer Refusal
  to_answer (Err r) = Err r
  to_answer (Ok j) = took (taken_by j.command j.monitors table frame) (reply_length j.command j.monitors)

  abbrev to_table : Result Judged Refusal → List ℕ
  to_table (Err r) = table
  to_table (Ok j) = kept j.command j.monitors table frame

  abbrev to_buffer : Result Judged Refusal → List ℕ
  to_buffer (Err r) = buffer
  to_buffer (Ok j) = replied j.command j.monitors table buffer

  module _ {j : Result Judged Refusal} (e : judged table frame (length buffer) ≡ j) where
    pub the_answer : answer table frame (length buffer) ≡ to_answer j
    unfolding answer judged
    the_answer = sym (decide-map to_answer (frame_refusals table frame (length buffer)) Err (good (command_in frame) (monitors table))) ∙ ap to_answer e

    pub the_table : table_after table frame (length buffer) ≡ to_table j
    unfolding table_after judged
    the_table = sym (decide-map to_table (frame_refusals table frame (length buffer)) Err (good (command_in frame) (monitors table))) ∙ ap to_table e

    pub the_buffer : reply_after table frame buffer ≡ to_buffer j
    unfolding reply_after judged
    the_buffer = sym (decide-map to_buffer (frame_refusals table frame (length buffer)) Err (good (command_in frame) (monitors table))) ∙ ap to_buffer e
