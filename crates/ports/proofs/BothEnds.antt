-- Port A's reply has monitor 1 first and port B's has monitor N first, so monitor k's part is the same in both: what it sent.
-- By the laws of rows; the place at port B counts from the end.
-- Assumes nothing.
use mathlib.Core.Path.{◌≡◌, ap, ◌∙◌}
use mathlib.Core.List.{List, [], reverse}
use Prim.Native.Nat.{ℕ, suc, ◌-◌, ◌≤◌}
use native.Mathlib.Omega.{arith}
use lib.ListN.{length, get_or, length-reverse}
use Rattle.laws.proofs.Lists.{get_d_reverse}
use Rattle.laws.proofs.Rows.{Every, every_reverse, row-joined}
use Rattle.wire.specs.Order.{reply_data}
use Rattle.records.specs.Commands.{payload_size}
use Rattle.ports.specs.Ports.{place_a, place_b, part_a, part_b}

module _ (replies : List (List ℕ)) (every : Every payload_size replies) (k : ℕ) (first : 1 ≤ k) (last : k ≤ length replies) where
  pub part-at_a : part_a (reply_data replies) (length replies) k ≡ get_or replies (k - 1) []
  unfolding part_a place_a reply_data
  part-at_a = row-joined payload_size replies (k - 1) [] every (omega arith)

  pub part-at_b : part_b (reply_data (reverse replies)) (length replies) k ≡ get_or replies (k - 1) []
  unfolding part_b place_b reply_data
  part-at_b =
      let l : length (reverse replies) ≡ length replies = length-reverse replies in
      let mirrored : length replies - suc (length replies - k) ≡ k - 1 = omega arith in
      row-joined payload_size (reverse replies) (length replies - k) [] (every_reverse payload_size replies every) (omega arith)
      ∙ get_d_reverse replies (length replies - k) [] (omega arith)
      ∙ ap (λ (m : ℕ). get_or replies m []) mirrored
