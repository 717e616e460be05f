-- `oskorbine::loading::osk_store` meets its contract: the store's answer is packed.
-- Assumes nothing.
use mathlib.Core.Path.{ap, ◌∙◌}
use borrow.Author.Rules.{rules}
use Rattle.packing.specs.Packed.{packed}
use Rattle.oskorbine.specs.Answers.{load_parts}
use Rattle.oskorbine.proofs.loading.osk_store.Goals as goal
use Rattle.std.specs.Prelude.{Result}
use Rattle.refusals.specs.declared.Refusal.{Refusal}

pub returns : goal.returns
returns c =
    record { value = c.load_answer.ensures ∙ ap (λ (l : Result (Unit {0}) Refusal). packed (load_parts l)) c.store.ensures.value; table_after = search rules }
