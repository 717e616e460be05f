-- `messages::messages::message` meets its contract: the head is known, and behind it stand the two bytes and their seal.
-- Assumes nothing.
use mathlib.Core.Path.{sym, ap, ◌∙◌}
use mathlib.Core.List.{List, [], ◌∷◌, ◌++◌}
use Prim.Native.Nat.{ℕ}
use lib.ListN.{get_or}
use Rattle.pec.specs.Words.{two_bytes, seal}
use Rattle.messages.specs.Messages.{message}
use Rattle.messages.proofs.Heads.{head}
use Rattle.messages.proofs.messages.message.Goals as goal

pub returns : goal.returns
unfolding message seal two_bytes
returns c =
    let own : List ℕ = c.args.count ∷ c.args.flags ∷ [] in
    ap (λ (l : List ℕ). 0x00 ∷ 0x43 ∷ 0x47 ∷ 0xB2 ∷ get_or l 0 0 ∷ get_or l 1 0 ∷ get_or l 2 0 ∷ get_or l 3 0 ∷ []) c.sealed_two.ensures
    ∙ ap (λ (l : List ℕ). l ++ own ++ seal own 0) (sym head)
