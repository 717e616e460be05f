-- `heartbeats::steps::own_step` meets its contract: the flags it joins are those that the measurement leaves.
-- Assumes nothing.
use mathlib.Core.Path.{◌≡◌, ap, ◌∙◌}
use mathlib.Core.Bool.{Bool, cond, ◌&&◌}
use mathlib.Core.List.{List}
use Prim.Native.Nat.{ℕ, ◌+◌, ◌%◌}
use lib.Bits.{bit_or}
use lib.ListN.{length, get_or}
use Rattle.records.specs.Record.{cmf0, record_size, is_record, byte_of}
use Rattle.records.proofs.Answers.{is-record}
use Rattle.measuring.specs.Measuring.{measured, passes}
use Rattle.heartbeats.specs.Steps.{counted_down, joined_to}
use Rattle.heartbeats.proofs.steps.own_step.Goals as goal

module _ (r : List ℕ) (whole : length r ≡ record_size) {passed : Bool} {after : List ℕ} (p : passed ≡ is_record r && passes r) (a : after ≡ cond (is_record r) (measured r) r) where
  left : after ≡ measured r
  left = a ∙ ap (λ (is : Bool). cond is (measured r) r) (is-record r whole)

  counted : (n : ℕ) → cond passed ((n + 255) % 256) n ≡ counted_down r n
  unfolding counted_down
  counted n = ap (λ (b : Bool). cond b ((n + 255) % 256) n) (p ∙ ap (λ (is : Bool). is && passes r) (is-record r whole))

  joined : (flags : ℕ) → bit_or flags (get_or after cmf0.at 0) ≡ joined_to r flags
  unfolding joined_to byte_of
  joined flags = ap (λ (l : List ℕ). bit_or flags (get_or l cmf0.at 0)) left

pub returns : goal.returns
returns c =
    let measured = c.measure-passed in
    let a = c.args in
    let whole = c.requires in
    record { count_value = c.counted_down-left.ensures ∙ counted a.rec.now whole measured.ensures.value measured.ensures.rec_after a.count; flags_value = ap (bit_or a.flags) c.byte_at-own.ensures ∙ joined a.rec.now whole measured.ensures.value measured.ensures.rec_after a.flags; rec_after = left a.rec.now whole measured.ensures.value measured.ensures.rec_after }
