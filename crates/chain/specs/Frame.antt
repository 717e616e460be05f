-- Document 01, "Commands" and "Numbers that come back": what the chain does with a whole frame. The data of a write hands each
-- monitor its own bytes by the order on the wire.
-- Assumes nothing.
use Rattle.std.specs.Prelude.{List, [], ◌∷◌, ℕ, length, take, Result, Ok, Err}
use Rattle.refusals.specs.Order.{Row, decide}
use Rattle.records.specs.Commands.{reply_length}
use Rattle.chain.specs.declared.frames.Answer.{Answer}
use Rattle.judging.specs.Table.{monitors}
use Rattle.judging.specs.Refusals.{command_in, table_row, short_row, command_row, listed_row, length_row, room_row}
use Rattle.serving.specs.Served.{taken_by, kept}
use Rattle.replying.specs.Replied.{replied}
use Rattle.refusals.specs.declared.Refusal.{Refusal}

-- the refusals, in their order
unfoldable pub frame_refusals : List ℕ → List ℕ → ℕ → List Row
frame_refusals table frame room =
    table_row table
    ∷ short_row (length frame)
    ∷ command_row (take 4 frame)
    ∷ listed_row frame
    ∷ length_row (length frame) (command_in frame) (monitors table)
    ∷ room_row room (command_in frame) (monitors table)
    ∷ []

-- a frame that is not refused: how many monitors took it, and how long the reply is
abbrev pub took : ℕ → ℕ → Result Answer Refusal
took taken reply = Ok (record { taken = taken; reply = reply })

-- ---- what comes of any frame. A refusal changes nothing

unfoldable pub answer : List ℕ → List ℕ → ℕ → Result Answer Refusal
answer table frame room =
    decide (frame_refusals table frame room) Err
    (took (taken_by (command_in frame) (monitors table) table frame) (reply_length (command_in frame) (monitors table)))

unfoldable pub table_after : List ℕ → List ℕ → ℕ → List ℕ
table_after table frame room = decide (frame_refusals table frame room) (λ n. table) (kept (command_in frame) (monitors table) table frame)

unfoldable pub reply_after : List ℕ → List ℕ → List ℕ → List ℕ
reply_after table frame buffer = decide (frame_refusals table frame (length buffer)) (λ n. buffer) (replied (command_in frame) (monitors table) table buffer)
