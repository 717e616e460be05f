-- The order on the wire: what a write hands to each monitor and what a reply has of each, that making the data and taking
-- it apart undo one another, and where each monitor's part stands. By the laws of rows; a write's order is their reverse.
-- Assumes nothing.
use mathlib.Core.Path.{◌≡◌, sym, ap, ◌∙◌}
use mathlib.Core.List.{List, [], ◌∷◌, ◌++◌, reverse, reverse-cons, reverse-append, reverse-reverse}
use Prim.Native.Nat.{ℕ, suc, ◌+◌, ◌-◌, ◌*◌, ◌≤◌, ◌<◌}
use native.Mathlib.Omega.{arith}
use lib.ListN.{length, get_or, set, take, drop, length-reverse}
use Rattle.laws.specs.Rows.{rows, row_at, joined}
use Rattle.laws.proofs.Lists.{get_d_reverse, set-reverse}
use Rattle.laws.proofs.Rows.{Every, length-rows, row-at, row_element, joined-rows, joined_snoc, joined_element, length-joined, rows-joined, rows_snoc, rows-set, every_rows, every_reverse}
use Rattle.wire.specs.Order.{farthest_first, write_data, write_payloads, reply_data, reply_parts}

module _ {A : Type 0} where
  -- ---- farthest first

  -- as many parts
  pub length-farthest_first : (parts : List A) → length (farthest_first parts) ≡ length parts
  unfolding farthest_first
  length-farthest_first parts = length-reverse parts

  -- turned round twice they are nearest first again
  pub farthest_first_twice : (parts : List A) → farthest_first (farthest_first parts) ≡ parts
  unfolding farthest_first
  farthest_first_twice parts = reverse-reverse parts

  -- what comes at k is the part at k counted from the farthest
  pub farthest_first-at : (parts : List A) (k : ℕ) (d : A) → k < length parts → get_or (farthest_first parts) k d ≡ get_or parts (length parts - suc k) d
  unfolding farthest_first
  farthest_first-at parts k d h = get_d_reverse parts k d h

module _ {A : Type 0} where
  -- ---- writes: how many payloads, and how long

  -- a payload for each monitor
  pub length-write_payloads : (p n : ℕ) (bytes : List A) → length (write_payloads p n bytes) ≡ n
  unfolding write_payloads
  length-write_payloads p n bytes = length-farthest_first (rows p n bytes) ∙ length-rows p n bytes

  -- each of p elements
  pub every_write_payloads : (p n : ℕ) (bytes : List A) → n * p ≤ length bytes → Every p (write_payloads p n bytes)
  unfolding write_payloads farthest_first
  every_write_payloads p n bytes fits = every_reverse p (rows p n bytes) (every_rows p n bytes fits)

  -- the data has p elements for each monitor
  pub length-write_data : (p : ℕ) (payloads : List (List A)) → Every p payloads → length (write_data payloads) ≡ length payloads * p
  unfolding write_data farthest_first
  length-write_data p payloads e =
      length-joined p (reverse payloads) (every_reverse p payloads e) ∙ ap (λ (n : ℕ). n * p) (length-reverse payloads)

  -- ---- writes: there and back

  -- each monitor gets the payload that was meant for it
  pub write_round : (p : ℕ) (payloads : List (List A)) → Every p payloads → write_payloads p (length payloads) (write_data payloads) ≡ payloads
  unfolding write_payloads write_data farthest_first
  write_round p payloads e =
      ap reverse
      (ap (λ (n : ℕ). rows p n (joined (reverse payloads))) (sym (length-reverse payloads))
      ∙ rows-joined p (reverse payloads) (every_reverse p payloads e))
      ∙ reverse-reverse payloads

  -- the payloads that the monitors get make up the data
  pub write_back : (p n : ℕ) (bytes : List A) → length bytes ≡ n * p → write_data (write_payloads p n bytes) ≡ bytes
  unfolding write_payloads write_data farthest_first
  write_back p n bytes e = ap joined (reverse-reverse (rows p n bytes)) ∙ joined-rows p n bytes e

  -- ---- writes: where each payload stands

  -- the payload at k, counted from the nearest monitor, is the row at k counted from the end
  pub write_at : (p n : ℕ) (bytes : List A) (k : ℕ) (d : List A) → k < n → get_or (write_payloads p n bytes) k d ≡ row_at p (n - suc k) bytes
  unfolding write_payloads
  write_at p n bytes k d h =
      let l : length (rows p n bytes) ≡ n = length-rows p n bytes in
      farthest_first-at (rows p n bytes) k d (omega arith)
      ∙ ap (λ (m : ℕ). get_or (rows p n bytes) (m - suc k) d) l
      ∙ row-at p n bytes (n - suc k) d (omega arith)

  -- the element at i of the payload at k, in the data
  pub write_element : (p : ℕ) (payloads : List (List A)) (k i : ℕ) (c : List A) (d : A) → Every p payloads → k < length payloads → i < p
      → get_or (write_data payloads) ((length payloads - suc k) * p + i) d ≡ get_or (get_or payloads k c) i d
  write_element p payloads k i c d e h hi =
      sym (row_element p (length payloads - suc k) (write_data payloads) i d hi)
      ∙ ap (λ (r : List A). get_or r i d)
      (sym (write_at p (length payloads) (write_data payloads) k c h) ∙ ap (λ (l : List (List A)). get_or l k c) (write_round p payloads e))

  -- p elements put in the place of the payload at k: that monitor gets them, and the others what they got
  pub write_set : (p n : ℕ) (bytes : List A) (k : ℕ) (r : List A) → k < n → n * p ≤ length bytes → length r ≡ p
      → write_payloads p n (take ((n - suc k) * p) bytes ++ r ++ drop ((n - suc k) * p + p) bytes) ≡ set (write_payloads p n bytes) k r
  unfolding write_payloads farthest_first
  write_set p n bytes k r h fits l =
      let parts : List (List A) = rows p n bytes in
      let all : length parts ≡ n = length-rows p n bytes in
      let there : n - suc k < length parts = omega arith in
      let back : length parts - suc (n - suc k) ≡ k = omega arith in
      ap reverse (rows-set p n bytes (n - suc k) r (omega arith) fits l)
      ∙ sym (set-reverse parts (n - suc k) r there)
      ∙ ap (λ (j : ℕ). set (reverse parts) j r) back

  -- one monitor more at the near end: its payload comes last
  pub write_nearest : (payload : List A) (payloads : List (List A)) → write_data (payload ∷ payloads) ≡ write_data payloads ++ payload
  unfolding write_data farthest_first
  write_nearest payload payloads = ap joined (reverse-cons payload payloads) ∙ joined_snoc (reverse payloads) payload

  -- the payloads of one monitor more: the nearest one's is the last row
  pub nearest_payload : (p n : ℕ) (bytes : List A) → write_payloads p (suc n) bytes ≡ row_at p n bytes ∷ write_payloads p n bytes
  unfolding write_payloads farthest_first
  nearest_payload p n bytes = ap reverse (rows_snoc p n bytes) ∙ reverse-append (rows p n bytes) (row_at p n bytes ∷ [])

  -- ---- replies

  -- a part for each monitor
  pub length-reply_parts : (p n : ℕ) (bytes : List A) → length (reply_parts p n bytes) ≡ n
  unfolding reply_parts
  length-reply_parts p n bytes = length-rows p n bytes

  -- each of p elements
  pub every_reply_parts : (p n : ℕ) (bytes : List A) → n * p ≤ length bytes → Every p (reply_parts p n bytes)
  unfolding reply_parts
  every_reply_parts p n bytes fits = every_rows p n bytes fits

  -- the data has p elements for each monitor
  pub length-reply_data : (p : ℕ) (replies : List (List A)) → Every p replies → length (reply_data replies) ≡ length replies * p
  unfolding reply_data
  length-reply_data p replies e = length-joined p replies e

  -- each monitor's part is what it sent
  pub reply_round : (p : ℕ) (replies : List (List A)) → Every p replies → reply_parts p (length replies) (reply_data replies) ≡ replies
  unfolding reply_parts reply_data
  reply_round p replies e = rows-joined p replies e

  -- the parts make up the data
  pub reply_back : (p n : ℕ) (bytes : List A) → length bytes ≡ n * p → reply_data (reply_parts p n bytes) ≡ bytes
  unfolding reply_parts reply_data
  reply_back p n bytes e = joined-rows p n bytes e

  -- the part at k, counted from the nearest monitor, is the row at k
  pub reply-at : (p n : ℕ) (bytes : List A) (k : ℕ) (d : List A) → k < n → get_or (reply_parts p n bytes) k d ≡ row_at p k bytes
  unfolding reply_parts
  reply-at p n bytes k d h = row-at p n bytes k d h

  -- the element at i of the reply at k, in the data
  pub reply_element : (p : ℕ) (replies : List (List A)) (k i : ℕ) (c : List A) (d : A) → Every p replies → k < length replies → i < p
      → get_or (reply_data replies) (k * p + i) d ≡ get_or (get_or replies k c) i d
  unfolding reply_data
  reply_element p replies k i c d e h hi = joined_element p replies k i c d e h hi

  -- p elements put in the place of the part at k: that part is they, and the others are as they were
  pub reply-set : (p n : ℕ) (bytes : List A) (k : ℕ) (r : List A) → k < n → n * p ≤ length bytes → length r ≡ p
      → reply_parts p n (take (k * p) bytes ++ r ++ drop (k * p + p) bytes) ≡ set (reply_parts p n bytes) k r
  unfolding reply_parts
  reply-set p n bytes k r h fits l = rows-set p n bytes k r h fits l
