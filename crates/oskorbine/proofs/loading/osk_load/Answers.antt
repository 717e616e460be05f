-- `oskorbine::loading::osk_load` meets its contract: the load's answer is packed.
-- Assumes nothing.
use mathlib.Core.Path.{ap, ◌∙◌}
use borrow.Author.Rules.{rules}
use Rattle.packing.specs.Packed.{packed}
use Rattle.oskorbine.specs.Answers.{load_parts}
use Rattle.oskorbine.proofs.loading.osk_load.Goals as goal
use Rattle.std.specs.Prelude.{Result}
use Rattle.refusals.specs.declared.Refusal.{Refusal}

pub returns : goal.returns
returns c =
    record { value = c.load_answer.ensures ∙ ap (λ (l : Result (Unit {0}) Refusal). packed (load_parts l)) c.load.ensures.value; table_after = search rules }
