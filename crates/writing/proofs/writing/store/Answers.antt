-- `writing::writing::store` meets its contract: six bytes are copied.
-- Assumes nothing.
use mathlib.Core.Path.{sym, ap, ◌∙◌}
use mathlib.Core.List.{List}
use Prim.Native.Nat.{ℕ, ◌%◌}
use native.Mathlib.Nat.{mod-eq_of_lt}
use native.Mathlib.Omega.{arith}
use lib.ListN.{get_or}
use lib.Seq.{get_or-take}
use Rattle.records.proofs.Pasted.{anew-put}
use Rattle.writing.proofs.writing.store.Goals as goal

pub returns : goal.returns
returns c =
    let sent = c.args.sent.now in
    anew-put (λ i old. get_or sent i 0 % 256) c.args.at 6 _ _ _ (omega arith) (omega (arith, c.copy_from_slice.ensures.len)) (omega arith)
    (λ i h. ap (λ (l : List ℕ). get_or l i 0) c.copy_from_slice.ensures.after ∙ get_or-take 6 sent i 0 h ∙ sym (mod-eq_of_lt (c.type_inv.sent i).fits))
