-- What is handed out: nothing leaves the buffer, and a message lies at its start, where there is room for it.
-- Assumes nothing.
use mathlib.Core.Path.{◌≡◌, refl, sym, ap, ◌∙◌, subst⁻¹}
use mathlib.Core.Bool.{Bool, true, false, cond, not}
use mathlib.Core.List.{List, ◌++◌}
use Prim.Native.Nat.{ℕ, ◌+◌, ◌≤◌}
use native.Mathlib.Omega.{arith}
use lib.Dec.{eqb, leb}
use lib.ListN.{length, drop}
use borrow.Author.Tests.{ne_eqb, le-leb}
use Rattle.laying.specs.Placed.{placed}
use Rattle.messages.specs.Messages.{message_size, message}
use Rattle.messages.proofs.Sent.{message-long}
use Rattle.heartbeats.specs.declared.steps.Beat.{Beat}
use Rattle.passing.specs.Hops.{bytes_sent}
use Rattle.passing.specs.Operations.{handed_out}
use Rattle.std.specs.Prelude.{Option, None}
use Rattle.heartbeats.specs.Steps.{sends}

abbrev pub some_sent : (beat : Option Beat) → Bool
some_sent beat = not (eqb (length (bytes_sent beat)) 0)

module _ (out : List ℕ) where
  pub nothing_out : {beat : Option Beat} → beat ≡ None → (false ≡ some_sent beat) × (out ≡ handed_out (bytes_sent beat) out)
  unfolding handed_out
  nothing_out {beat} e = subst⁻¹ (λ (b : Option Beat). (false ≡ some_sent b) × (out ≡ handed_out (bytes_sent b) out)) e (refl, refl)

  module _ (c f : ℕ) (room : message_size ≤ length out) where
    long : length (message c f) ≡ message_size
    long = message-long c f

    pub message_out : {beat : Option Beat} → beat ≡ sends c f → {bytes after : List ℕ} → bytes ≡ message c f
        → after ≡ cond (leb (0 + length bytes) (length out)) (placed 0 bytes out) out → (true ≡ some_sent beat) × (after ≡ handed_out (bytes_sent beat) out)
    unfolding handed_out placed
    message_out {beat} e {bytes} {after} b a =
        subst⁻¹ (λ (x : Option Beat). (true ≡ some_sent x) × (after ≡ handed_out (bytes_sent x) out)) e (
          sym (ap not (ne_eqb (length (message c f)) 0 (λ z. omega (arith, long, z)))),
          a
              ∙ ap (λ (l : List ℕ). cond (leb (0 + length l) (length out)) (placed 0 l out) out) b
              ∙ ap (λ (t : Bool). cond t (placed 0 (message c f) out) out) (le-leb (0 + length (message c f)) (length out) (omega (arith, long, room)))
              ∙ ap {A = ℕ} (λ (n : ℕ). message c f ++ drop n out) {x = 0 + length (message c f)} {y = length (message c f)} (omega arith),
        )
