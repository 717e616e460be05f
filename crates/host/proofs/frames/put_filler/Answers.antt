-- `host::frames::put_filler` meets its contract: behind the head a part of the buffer is filled.
-- Assumes nothing.
use mathlib.Core.Path.{◌≡◌, sym, ap, ap₂, ◌∙◌}
use mathlib.Core.List.{List, ◌++◌, append_assoc}
use Prim.Native.Nat.{ℕ, ◌+◌, ◌-◌, ◌≤◌}
use native.Mathlib.Omega.{arith}
use lib.ListN.{length, length-drop, take, drop, replicate, length-replicate}
use lib.Seq.{length-take-le, drop-drop}
use Rattle.laying.specs.Placed.{placed}
use Rattle.host.specs.Frames.{head_size}
use Rattle.host.proofs.frames.put_filler.Goals as goal

module _ (size : ℕ) (buffer : List ℕ) (room : head_size + size ≤ length buffer) where
  -- the part that is lent
  abbrev span : ℕ
  span = 4 + size - 4

  whole : span ≡ size
  whole = omega arith

  long : length (take span (drop 4 buffer)) ≡ size
  long = length-take-le span (drop 4 buffer) (omega (arith, length-drop 4 buffer)) ∙ whole

  filled : {part : List ℕ} → part ≡ replicate (length (take span (drop 4 buffer))) 0xFF
      → take 4 buffer ++ (part ++ drop span (drop 4 buffer)) ≡ placed head_size (replicate size 0xFF) buffer
  unfolding placed
  filled e =
      ap₂ (λ (p r : List ℕ). take 4 buffer ++ (p ++ r)) (e ∙ ap (λ (n : ℕ). replicate n 0xFF) long)
      (drop-drop span 4 buffer ∙ ap (λ (n : ℕ). drop (4 + n) buffer) (whole ∙ sym (length-replicate size 0xFF)))
      ∙ sym (append_assoc (take 4 buffer) (replicate size 0xFF) (drop (4 + length (replicate size 0xFF)) buffer))

pub returns : goal.returns
returns c = filled c.args.size c.args.buffer.now c.requires (c.fill.ensures.after (λ y e. e))
