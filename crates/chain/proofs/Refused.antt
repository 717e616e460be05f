-- A refusal changes nothing: where the answer is a refusal, the table and the reply buffer are as they were; where it is none, the
-- table, the buffer and the two numbers are what the accepted frame makes of them. By going down the refusals: the first that
-- holds is the same for all of them.
-- Assumes nothing.
use mathlib.Core.Path.{◌≡◌, sym, ap}
use mathlib.Core.List.{List}
use Prim.Native.Nat.{ℕ}
use native.Mathlib.Omega.{arith}
use lib.ListN.{length}
use Rattle.refusals.specs.declared.Refusal.{Refusal}
use Rattle.records.specs.Commands.{reply_length}
use Rattle.judging.specs.Table.{monitors}
use Rattle.judging.specs.Refusals.{command_in}
use Rattle.serving.specs.Served.{taken_by, kept}
use Rattle.replying.specs.Replied.{replied}
use Rattle.chain.specs.Frame.{frame_refusals, answer, table_after, reply_after}
use Rattle.refusals.proofs.Decided.{stays_so, goes_on, is_accepted}
use Rattle.std.specs.Prelude.{Result, Ok, Err}
use Rattle.chain.specs.declared.frames.Answer.{Answer}
use Rattle.chain.specs.Frame.{took}

-- two that are accepted alike have the same values
same_answer : {a b : Answer} → ◌≡◌ {A = Result Answer Refusal} (Ok a) (Ok b) → a ≡ b
same_answer e = cc

pub accepted-apart : (taken reply : ℕ) (r : Refusal) → took taken reply ≡ Err r → ⊥
accepted-apart taken reply r e = let z : ◌≡◌ {A = ℕ} 0 1 = cc in omega arith

pub refused-table : (table frame : List ℕ) (room : ℕ) (r : Refusal) → answer table frame room ≡ Err r → table_after table frame room ≡ table
unfolding answer table_after
refused-table table frame room r e = stays_so (frame_refusals table frame room) Err _ r table _ (accepted-apart _ _ r) e

pub refused-reply : (table frame buffer : List ℕ) (r : Refusal) → answer table frame (length buffer) ≡ Err r → reply_after table frame buffer ≡ buffer
unfolding answer reply_after
refused-reply table frame buffer r e = stays_so (frame_refusals table frame (length buffer)) Err _ r buffer _ (accepted-apart _ _ r) e

module _ (table frame : List ℕ) (taken reply : ℕ) where
  pub accepted-table : (room : ℕ) → answer table frame room ≡ took taken reply
      → table_after table frame room ≡ kept (command_in frame) (monitors table) table frame
  unfolding answer table_after
  accepted-table room e = goes_on (frame_refusals table frame room) Err _ (took taken reply) table _ (accepted-apart taken reply) e

  pub accepted-reply : (buffer : List ℕ) → answer table frame (length buffer) ≡ took taken reply
      → reply_after table frame buffer ≡ replied (command_in frame) (monitors table) table buffer
  unfolding answer reply_after
  accepted-reply buffer e = goes_on (frame_refusals table frame (length buffer)) Err _ (took taken reply) buffer _ (accepted-apart taken reply) e

  the_values : (room : ℕ) → answer table frame room ≡ took taken reply
      → took (taken_by (command_in frame) (monitors table) table frame) (reply_length (command_in frame) (monitors table)) ≡ took taken reply
  unfolding answer
  the_values room e = is_accepted (frame_refusals table frame room) Err _ (took taken reply) (accepted-apart taken reply) e

  pub accepted-taken : (room : ℕ) → answer table frame room ≡ took taken reply → taken ≡ taken_by (command_in frame) (monitors table) table frame
  accepted-taken room e = sym (ap (λ (a : Answer). a.taken) (same_answer (the_values room e)))

  pub accepted-length : (room : ℕ) → answer table frame room ≡ took taken reply → reply ≡ reply_length (command_in frame) (monitors table)
  accepted-length room e = sym (ap (λ (a : Answer). a.reply) (same_answer (the_values room e)))
