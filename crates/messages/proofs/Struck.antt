-- Document 02, L7, on a heartbeat: a spike of ten places on a right message's last four bytes, or one of fifteen on its first four, leaves it
-- not right, and so damaged in the host's eyes where the time did not run out. So does one of ten places anywhere on it.
-- Assumes nothing.
use mathlib.Core.Path.{◌≡◌, refl, sym, ap₂, ◌∙◌}
use mathlib.Core.Bool.{Bool, true, false}
use mathlib.Core.List.{List, ◌++◌}
use Prim.Native.Nat.{ℕ}
use native.Mathlib.Omega.{arith}
use lib.ListN.{length, take, drop, length-drop, take-append-drop}
use Rattle.std.specs.Prelude.{Ok}
use Rattle.pec.specs.Words.{sealed_right}
use Rattle.pec.specs.Spikes.{Spike}
use Rattle.pec.proofs.Spikes.{sealed_hit, spike-long, spike-some, spike-drop}
use Rattle.messages.specs.declared.verdicts.Verdict.TheVariants.{Damaged}
use Rattle.messages.specs.Messages.{message_size, message_right}
use Rattle.messages.specs.Verdicts.{verdict}
use Rattle.messages.proofs.Sent.{right-long, right-head, right-own}
use Rattle.messages.proofs.Judged.{not_both, said}

-- of a test that cannot pass
fails : (b : Bool) → (b ≡ true → ⊥) → b ≡ false
fails true h = absurd (h refl)
fails false h = refl

module _ (sent came : List ℕ) (right : message_right sent ≡ true) where
  -- on the first four bytes, whatever is behind them: a head that is not the one sent is wrong
  pub message_hit_command : Spike 15 (take 4 sent) (take 4 came) → message_right came ≡ false
  message_hit_command s = fails (message_right came) (λ still. spike-some s (right-head came still ∙ sym (right-head sent right)))

  -- on the last four, whatever is before them
  pub message_hit_data : Spike 10 (drop 4 sent) (drop 4 came) → message_right came ≡ false
  message_hit_data s = fails (message_right came) (λ still. not_both (sealed_right 2 (drop 4 came)) (right-own came still) (sealed_hit 2 s (right-own sent right)))

  -- on both at once: what is right keeps its first four bytes, so some of the last four were struck
  pub message_hit : Spike 10 sent came → message_right came ≡ false
  message_hit s =
      fails (message_right came)
      (λ still.
      let front : take 4 came ≡ take 4 sent = right-head came still ∙ sym (right-head sent right) in
      let struck = spike-drop s 4 (λ end. spike-some s (sym (take-append-drop 4 came) ∙ ap₂ ◌++◌ front end ∙ take-append-drop 4 sent)) in
      not_both (sealed_right 2 (drop 4 came)) (right-own came still) (sealed_hit 2 struck (right-own sent right)))

  -- the verdict on eight such bytes. A spike on the last four leaves as many as were sent
  pub damaged_by-command : Spike 15 (take 4 sent) (take 4 came) → length came ≡ message_size → verdict came false ≡ Ok Damaged
  damaged_by-command s long = said came false (Ok Damaged) (refl, long, message_hit_command s)

  pub damaged_by_data : Spike 10 (drop 4 sent) (drop 4 came) → verdict came false ≡ Ok Damaged
  damaged_by_data s =
      let long : length came ≡ message_size = omega (arith, right-long sent right, spike-long s, length-drop 4 came, length-drop 4 sent) in
      said came false (Ok Damaged) (refl, long, message_hit_data s)

  pub damaged_by-spike : Spike 10 sent came → verdict came false ≡ Ok Damaged
  damaged_by-spike s = said came false (Ok Damaged) (refl, spike-long s ∙ right-long sent right, message_hit s)
