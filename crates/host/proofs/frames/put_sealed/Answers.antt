-- `host::frames::put_sealed` meets its contract: the bytes go sealed into the buffer, six or two of them.
-- Assumes nothing.
use mathlib.Core.Path.{◌≡◌, refl, ap, ◌∙◌}
use mathlib.Core.List.{List, ◌++◌}
use Prim.Native.Nat.{ℕ, ◌+◌, ◌≤◌}
use native.Mathlib.Omega.{arith}
use lib.ListN.{length}
use Rattle.laying.specs.Placed.{placed}
use Rattle.laying.proofs.Placed.{tried, laid}
use Rattle.pec.specs.Words.{seal}
use Rattle.records.specs.Commands.{seal_size}
use Rattle.host.specs.Frames.{sealed}
use Rattle.host.proofs.Payloads.{length-sealed}
use Rattle.host.proofs.frames.put_sealed.Goals as goal

-- what the two seals have in common: bytes that are those of the slice, and their seal behind them
module _ (at : ℕ) (own buffer : List ℕ) (fits : at + (length own + seal_size) ≤ length buffer) where
  sealed-put : {taken payload : List ℕ} → payload ≡ taken ++ seal taken 0 → taken ≡ own → tried at payload buffer ≡ placed at (sealed own) buffer
  unfolding sealed
  sealed-put is same =
      ap (λ (l : List ℕ). tried at l buffer) (is ∙ ap (λ (l : List ℕ). l ++ seal l 0) same)
      ∙ laid at (sealed own) buffer (omega (arith, length-sealed {d = length own} own refl))

pub returns-in-Ok : goal.returns-in-Ok
returns-in-Ok c =
    let q = c.args in
    c.put.ensures ∙ sealed-put q.at q.own.now q.buffer.now c.requires.1 c.sealed-payload.ensures c.in-Ok.ensures.1.same

pub returns-in-Ok-try_from : goal.returns-in-Ok-try_from
returns-in-Ok-try_from c =
    let q = c.args in
    c.put-in-Ok-try_from.ensures
    ∙ sealed-put q.at q.own.now q.buffer.now c.requires.1 c.sealed_two-payload.ensures c.in-Ok-try_from.ensures.1.same
