-- A heartbeat from the monitor that wakes: nothing sent comes to nothing, and what is sent goes its way.
-- Assumes nothing.
use mathlib.Core.Path.{◌≡◌, sym, ap, ap₂, ◌∙◌}
use mathlib.Core.List.{List, []}
use Prim.Native.Nat.{ℕ}
use Rattle.laws.specs.Rows.{row_at}
use Rattle.records.specs.Record.{record_size}
use Rattle.messages.specs.Messages.{message}
use Rattle.heartbeats.specs.declared.steps.Beat.{Beat}
use Rattle.heartbeats.specs.Steps.{wakes}
use Rattle.passing.specs.Hops.{bytes_sent, wake_sends, wake_leaves, sent_along, left_along}
use Rattle.passing.proofs.Silent.{none-along}
use Rattle.std.specs.Prelude.{Option, None}
use Rattle.heartbeats.specs.Steps.{sends}

module _ (ks : List ℕ) (k : ℕ) (table : List ℕ) {beat : Option Beat} {next : List ℕ} (e : beat ≡ wakes (row_at record_size k table)) (l : next ≡ wake_leaves k table) where
  its-bytes : bytes_sent beat ≡ wake_sends k table
  unfolding wake_sends
  its-bytes = ap bytes_sent e

  pub silent_beat : beat ≡ None → ([] ≡ sent_along ks (wake_sends k table) (wake_leaves k table)) × (next ≡ left_along ks (wake_sends k table) (wake_leaves k table))
  silent_beat s =
      let none = none-along ks next in
      let sent = ap bytes_sent (sym s) ∙ its-bytes in
      (sym none.0 ∙ ap₂ (sent_along ks) sent l, sym none.1 ∙ ap₂ (left_along ks) sent l)

  pub message_beat : {c f : ℕ} → beat ≡ sends c f → {end after : List ℕ} → end ≡ sent_along ks (message c f) next → after ≡ left_along ks (message c f) next
      → (end ≡ sent_along ks (wake_sends k table) (wake_leaves k table)) × (after ≡ left_along ks (wake_sends k table) (wake_leaves k table))
  message_beat s came left =
      let sent = ap bytes_sent (sym s) ∙ its-bytes in
      (came ∙ ap₂ (sent_along ks) sent l, left ∙ ap₂ (left_along ks) sent l)
