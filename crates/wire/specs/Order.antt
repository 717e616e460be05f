-- Document 01, "Order on the wire", over any number of monitors and any width p of a payload. Lists of payloads are
-- nearest monitor first.
-- Assumes nothing.
use Rattle.std.specs.Prelude.{List, reverse, ℕ}
use Rattle.laws.specs.Rows.{rows, joined}

-- in a write the farthest monitor's part comes first, the nearest one's last
unfoldable pub farthest_first : {B : Type 0} → List B → List B
farthest_first parts = reverse parts

module _ {A : Type 0} where
  -- the data of a write that hands each monitor its own payload
  unfoldable pub write_data : List (List A) → List A
  write_data payloads = joined (farthest_first payloads)

  -- the payloads that n monitors get of a write's data
  unfoldable pub write_payloads : ℕ → ℕ → List A → List (List A)
  write_payloads p n bytes = farthest_first (rows p n bytes)

  -- the data of a reply: monitor 1 comes first
  unfoldable pub reply_data : List (List A) → List A
  reply_data replies = joined replies

  -- the n monitors' parts of a reply
  unfoldable pub reply_parts : ℕ → ℕ → List A → List (List A)
  reply_parts p n bytes = rows p n bytes
