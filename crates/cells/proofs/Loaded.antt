-- What a store, a compare and a load leave of a record: its length, every byte outside the cells or the flags, and its soundness.
-- Inside, a cell's byte is its code's, and a flags' byte has what was raised added to what it was.
-- Assumes nothing.
use mathlib.Core.Path.{◌≡◌, ap, ◌∙◌}
use mathlib.Core.List.{List}
use mathlib.Core.Logic.{inl}
use Prim.Native.Nat.{ℕ, ◌+◌, ◌≤◌, ◌<◌}
use native.Mathlib.Omega.{arith}
use lib.Bits.{bit_or}
use lib.Dec.{eqb}
use lib.IntN.{ℤ}
use lib.ListN.{length, get_or}
use Rattle.records.specs.declared.record.Part.{Part}
use Rattle.records.specs.Record.{cells, flags, record_size, bytes_of, on_bytes, is_record, record_sound}
use Rattle.records.proofs.Anew.{length-anew, anew-below, anew_above, anew_inside}
use Rattle.records.proofs.Parts.{before-anew, after-anew, sound_elsewhere}
use Rattle.cells.specs.Cells.{code_byte, store, flag_byte, compare, load}

-- ---- store

module _ (codes : List ℤ) (r : List ℕ) where
  pub length-store : length (store codes r) ≡ length r
  unfolding store on_bytes
  length-store = length-anew _ cells.at cells.size r

  pub store_below : {i : ℕ} → i < cells.at → get_or (store codes r) i 0 ≡ get_or r i 0
  unfolding store on_bytes
  store_below h = anew-below _ cells.at cells.size r h

  pub store_above : {i : ℕ} → cells.at + cells.size ≤ i → get_or (store codes r) i 0 ≡ get_or r i 0
  unfolding store on_bytes
  store_above h = anew_above _ cells.at cells.size r h

  pub part-before-store : (p : Part) → p.at + p.size ≤ cells.at → bytes_of p (store codes r) ≡ bytes_of p r
  unfolding store on_bytes
  part-before-store p h = before-anew p _ cells.at cells.size r h

  pub part-after-store : (p : Part) → cells.at + cells.size ≤ p.at → bytes_of p (store codes r) ≡ bytes_of p r
  unfolding store on_bytes
  part-after-store p h = after-anew p _ cells.at cells.size r h

  pub store_inside : (i : ℕ) → i < cells.size → length r ≡ record_size → get_or (store codes r) (cells.at + i) 0 ≡ code_byte codes i
  unfolding store on_bytes
  store_inside i h s = anew_inside _ cells.at cells.size r i h (omega arith)

  pub record_store : is_record (store codes r) ≡ is_record r
  unfolding is_record
  record_store = ap (λ (n : ℕ). eqb n record_size) length-store

  pub sound-store : record_sound (store codes r) ≡ record_sound r
  unfolding store on_bytes
  sound-store = sound_elsewhere _ cells.at cells.size r (inl (omega arith)) (inl (omega arith))

-- ---- compare

module _ (r : List ℕ) where
  pub length-compare : length (compare r) ≡ length r
  unfolding compare on_bytes
  length-compare = length-anew _ flags.at flags.size r

  pub compare-below : {i : ℕ} → i < flags.at → get_or (compare r) i 0 ≡ get_or r i 0
  unfolding compare on_bytes
  compare-below h = anew-below _ flags.at flags.size r h

  pub compare_above : {i : ℕ} → flags.at + flags.size ≤ i → get_or (compare r) i 0 ≡ get_or r i 0
  unfolding compare on_bytes
  compare_above h = anew_above _ flags.at flags.size r h

  pub part-before-compare : (p : Part) → p.at + p.size ≤ flags.at → bytes_of p (compare r) ≡ bytes_of p r
  unfolding compare on_bytes
  part-before-compare p h = before-anew p _ flags.at flags.size r h

  pub part-after-compare : (p : Part) → flags.at + flags.size ≤ p.at → bytes_of p (compare r) ≡ bytes_of p r
  unfolding compare on_bytes
  part-after-compare p h = after-anew p _ flags.at flags.size r h

  pub compare_inside : (j : ℕ) → j < flags.size → length r ≡ record_size
      → get_or (compare r) (flags.at + j) 0 ≡ bit_or (get_or r (flags.at + j) 0) (flag_byte r j)
  unfolding compare on_bytes
  compare_inside j h s = anew_inside _ flags.at flags.size r j h (omega arith)

  pub record_compare : is_record (compare r) ≡ is_record r
  unfolding is_record
  record_compare = ap (λ (n : ℕ). eqb n record_size) length-compare

  pub sound-compare : record_sound (compare r) ≡ record_sound r
  unfolding compare on_bytes
  sound-compare = sound_elsewhere _ flags.at flags.size r (inl (omega arith)) (inl (omega arith))

-- ---- load

module _ (codes : List ℤ) (r : List ℕ) where
  pub length-load : length (load codes r) ≡ length r
  unfolding load
  length-load = length-compare (store codes r) ∙ length-store codes r

  pub sound-load : record_sound (load codes r) ≡ record_sound r
  unfolding load
  sound-load = sound-compare (store codes r) ∙ sound-store codes r
