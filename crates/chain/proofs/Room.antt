-- Refusal 6, where the whole frame is there: refusals 1 to 5 are gone down first, as for both engines, and then the room decides.
-- Assumes nothing.
use mathlib.Core.Path.{◌≡◌, sym, ap, ◌∙◌}
use mathlib.Core.Bool.{false, cond, not}
use mathlib.Core.List.{List, [], ◌∷◌}
use Prim.Native.Nat.{ℕ, ◌≤◌, ◌<◌}
use lib.ListN.{length}
use borrow.Author.Tests.{lt-ltb, le-ltb}
use Rattle.refusals.specs.declared.Refusal.TheVariants.{TableNotSound, NoRoom}
use Rattle.refusals.specs.declared.Refusal.{Refusal}
use Rattle.refusals.specs.Order.{decide}
use Rattle.refusals.proofs.Deciding.{holds_here, holds_not, none_left, decide-map, decide_append}
use Rattle.records.specs.declared.commands.Command.{Command}
use Rattle.records.specs.Commands.{reply_length}
use Rattle.judging.specs.declared.heads.Judged.{Judged}
use Rattle.judging.specs.Table.{monitors, sound}
use Rattle.judging.specs.Refusals.{command_in, table_row, room_row}
use Rattle.judging.specs.Heads.{later_rows, head_judged}
use Rattle.chain.specs.Frame.{frame_refusals}
use Rattle.chain.specs.Judged.{judged}
use Rattle.judging.proofs.Judging.{by-head}
use Rattle.std.specs.Prelude.{Result, Ok, Err}
use Rattle.judging.specs.Heads.{good}

module _ (table frame : List ℕ) (room : ℕ) where
  abbrev next : Result Judged Refusal → Result Judged Refusal
  next (Err r) = Err r
  next (Ok j) = decide (room_row room j.command j.monitors ∷ []) Err (Ok j)

  module _ {n : ℕ} (counted : n ≡ cond (sound table) (monitors table) 0) {j : Result Judged Refusal} (e : head_judged frame (length frame) n ≡ j) where
    by_room : judged table frame room ≡ next j
    unfolding judged frame_refusals
    by_room =
        decide_append (table_row table ∷ later_rows frame (length frame) (monitors table)) (room_row room (command_in frame) (monitors table) ∷ []) Err (good (command_in frame) (monitors table))
        ∙ sym (decide-map next (table_row table ∷ later_rows frame (length frame) (monitors table)) Err (good (command_in frame) (monitors table)))
        ∙ ap next (by-head table frame (length frame) counted ∙ e)

  module _ {n : ℕ} (counted : n ≡ cond (sound table) (monitors table) 0) where
    pub stop_head : {r : Refusal} → head_judged frame (length frame) n ≡ Err r → judged table frame room ≡ Err r
    stop_head e = by_room counted e

    module _ {c : Command} {m : ℕ} (e : head_judged frame (length frame) n ≡ good c m) where
      pub stop_room : room < reply_length c m → judged table frame room ≡ Err NoRoom
      stop_room h = by_room counted e ∙ holds_here (room_row room c m) [] Err (good c m) (lt-ltb _ _ h)

      pub pass_room : reply_length c m ≤ room → judged table frame room ≡ good c m
      pass_room h = by_room counted e ∙ holds_not (room_row room c m) [] Err (good c m) (le-ltb _ _ h) ∙ none_left Err (good c m)

  -- a table that is not sound stops every frame
  pub stop_unsound : sound table ≡ false → judged table frame room ≡ Err TableNotSound
  unfolding judged frame_refusals
  stop_unsound e = holds_here _ _ Err _ (ap not e)
