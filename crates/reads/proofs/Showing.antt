-- A byte that a register shows: the record's, where the part and the slice reach, and FF past either end. And the six of a
-- register whose part and slice reach that far, and the length of a reply.
-- Assumes nothing.
use mathlib.Core.Path.{◌≡◌, refl, sym, ap₂, ◌∙◌}
use mathlib.Core.List.{List}
use Prim.Native.Nat.{ℕ, ◌+◌, ◌-◌, ◌≤◌, ◌<◌}
use native.Mathlib.Omega.{arith}
use lib.ListN.{length, length-take, length-drop, take, drop, get_or, get_or-eq_default}
use lib.Seq.{ext_get_or, get_or-take, get_or-drop}
use Rattle.laws.specs.Tables.{tabulate}
use Rattle.laws.proofs.Tables.{length-tabulate, at_each}
use Rattle.laws.proofs.Lists.{get_d_any}
use Rattle.pec.specs.Words.{two_bytes, seal}
use Rattle.records.specs.declared.record.Part.{Part}
use Rattle.records.specs.Record.{bytes_of}
use Rattle.reads.specs.Reply.{six_bytes, register, reply}

module _ (part : Part) (r : List ℕ) (i : ℕ) where
  pub shows : i < part.size → part.at + i < length r → get_or r (part.at + i) 0 ≡ get_or (bytes_of part r) i 0xFF
  unfolding bytes_of
  shows h k = sym (get_or-take part.size (drop part.at r) i 0xFF h ∙ get_or-drop part.at r i 0xFF ∙ get_d_any r (part.at + i) 0xFF 0 k)

  pub shows_past : length (bytes_of part r) ≤ i → 0xFF ≡ get_or (bytes_of part r) i 0xFF
  shows_past h = sym (get_or-eq_default (bytes_of part r) 0xFF h)

  pub past_part : part.size ≤ i → length (bytes_of part r) ≤ i
  unfolding bytes_of
  past_part h = omega (arith, length-take part.size (drop part.at r))

  pub past_slice : length r - part.at ≤ i → length (bytes_of part r) ≤ i
  unfolding bytes_of
  past_slice h = omega (arith, length-take part.size (drop part.at r), length-drop part.at r)

-- where the part has six bytes and the slice has all of them: the slice's own, from where the part begins
module _ (part : Part) (r : List ℕ) where
  abbrev shown : ℕ → ℕ
  shown i = get_or (bytes_of part r) i 0xFF

  pub shows_whole : {at n : ℕ} → n ≡ 6 → at ≡ part.at → 6 ≤ part.size → at + 6 ≤ length r → take n (drop at r) ≡ six_bytes part r
  unfolding six_bytes
  shows_whole {at} {n} six e h k =
      let own = take 6 (drop part.at r) in
      let long : length own ≡ 6 = omega (arith, length-take 6 (drop part.at r), length-drop part.at r) in
      ap₂ (λ (m a : ℕ). take m (drop a r)) six e
      ∙ ext_get_or 0 own (tabulate shown 0 6) (long ∙ sym (length-tabulate shown 0 6))
      (λ i b. get_or-take 6 (drop part.at r) i 0 (omega (arith, long)) ∙ get_or-drop part.at r i 0
      ∙ shows part r i (omega (arith, long)) (omega (arith, long)) ∙ sym (at_each shown 6 i (omega (arith, long))))

pub length-reply : (part : Part) (r : List ℕ) → length (reply part r) ≡ 8
unfolding reply register six_bytes tabulate seal two_bytes
length-reply part r = refl
