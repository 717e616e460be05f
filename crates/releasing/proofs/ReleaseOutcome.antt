-- What comes of a release is what comes of its judgement: the answer and the table.
-- Assumes nothing.
use mathlib.Core.Path.{◌≡◌, sym, ap, ◌∙◌}
use mathlib.Core.List.{List}
use Prim.Native.Nat.{ℕ}
use Rattle.laws.specs.Rows.{rows, joined, along}
use Rattle.refusals.proofs.Deciding.{decide-map}
use Rattle.records.specs.Record.{record_size}
use Rattle.monitor.specs.Effects.{keeps}
use Rattle.records.specs.Commands.{reply_length}
use Rattle.chain.specs.declared.frames.Answer.{Answer}
use Rattle.judging.specs.Table.{monitors}
use Rattle.judging.specs.Refusals.{command_in}
use Rattle.judging.specs.declared.heads.Judged.{Judged}
use Rattle.serving.specs.Served.{takers}
use Rattle.clocking.specs.Clock.{Clock}
use Rattle.releasing.specs.Release.{release_refusals, taken_of, kept_of, released, table_released}
use Rattle.releasing.specs.Judged.{judged}
use Rattle.std.specs.Prelude.{Result, Ok, Err}
use Rattle.refusals.specs.declared.Refusal.{Refusal}
use Rattle.judging.specs.Heads.{good}
use Rattle.chain.specs.Frame.{took}

module _ (c : Clock) (table : List ℕ) where
  abbrev to_answer : Result Judged Refusal → Result Answer Refusal
  to_answer (Err r) = Err r
  to_answer (Ok j) = took (takers j.command (rows record_size j.monitors table) c.windows) (reply_length j.command j.monitors)

  abbrev to_table : Result Judged Refusal → List ℕ
  to_table (Err r) = table
  to_table (Ok j) = joined (along (λ r window. keeps j.command window r) (rows record_size j.monitors table) c.windows)

  module _ {j : Result Judged Refusal} (e : judged c table ≡ j) where
    pub the_answer : released c table ≡ to_answer j
    unfolding released taken_of judged
    the_answer = sym (decide-map to_answer (release_refusals c table) Err (good (command_in c.head) (monitors table))) ∙ ap to_answer e

    pub the_table : table_released c table ≡ to_table j
    unfolding table_released kept_of judged
    the_table = sym (decide-map to_table (release_refusals c table) Err (good (command_in c.head) (monitors table))) ∙ ap to_table e
