-- `oskorbine::loading::osk_compare` meets its contract: the compare's answer is packed.
-- Assumes nothing.
use mathlib.Core.Path.{ap, ◌∙◌}
use borrow.Author.Rules.{rules}
use Rattle.packing.specs.Packed.{packed}
use Rattle.oskorbine.specs.Answers.{load_parts}
use Rattle.oskorbine.proofs.loading.osk_compare.Goals as goal
use Rattle.std.specs.Prelude.{Result}
use Rattle.refusals.specs.declared.Refusal.{Refusal}

pub returns : goal.returns
returns c =
    record { value = c.load_answer.ensures ∙ ap (λ (l : Result (Unit {0}) Refusal). packed (load_parts l)) c.compare.ensures.value; table_after = search rules }
