-- What a measurement leaves of a record: its length, every part that has no byte of CMF0 and of the last measurement, and its soundness. CMF0 has what is
-- found added to what it was, and the last measurement is what the cells are.
-- Assumes nothing.
use mathlib.Core.Path.{◌≡◌, refl, sym, ap, ap₂, ◌∙◌}
use mathlib.Core.Bool.{Bool, true, false, ◌&&◌, ◌||◌}
use mathlib.Core.List.{List}
use mathlib.Core.Logic.{inl, inr}
use Prim.Native.Nat.{ℕ}
use native.Mathlib.Omega.{arith}
use lib.Bits.{bit_or, or_zero_r, or_comm}
use lib.Dec.{eqb, lit≤, lit<}
use lib.ListN.{length, get_or}
use borrow.Author.Tests.{ne_eqb, eqb-true, eqb-false}
use Rattle.laws.specs.Bits.{bit_at}
use Rattle.laws.proofs.BitAt.{or_bits}
use Rattle.laws.proofs.Or.{or_again}
use Rattle.records.specs.declared.record.Part.{Part}
use Rattle.records.specs.Record.{cells, cmf0, last_cells, record_size, bytes_of, byte_of, Outside, on_bytes, is_record, record_sound}
use Rattle.records.proofs.Anew.{length-anew, anew_inside}
use Rattle.records.proofs.Parts.{length_part, made_of, outside_anew, outside_byte, sound_elsewhere}
use Rattle.monitor.specs.Effects.{cells_to}
use Rattle.measuring.specs.Measuring.{found, measured, passes}

-- a sum of bits is 0 where both are
none-set : (a b : ℕ) → eqb (bit_or a b) 0 ≡ eqb a 0 && eqb b 0
none-set a b = by (eqb a 0) (eqb b 0) refl refl
  where
    first : bit_or a b ≡ 0 → a ≡ 0
    first e = sym (or_zero_r a) ∙ ap (bit_or a) (sym e) ∙ or_again a b ∙ e

    second : bit_or a b ≡ 0 → b ≡ 0
    second e = sym (or_zero_r b) ∙ ap (bit_or b) (sym (or_comm b a ∙ e)) ∙ or_again b a ∙ or_comm b a ∙ e

    by : (x y : Bool) → eqb a 0 ≡ x → eqb b 0 ≡ y → eqb (bit_or a b) 0 ≡ x && y
    by true true ea eb = ap (λ (n : ℕ). eqb n 0) (ap₂ bit_or (eqb-true a 0 ea) (eqb-true b 0 eb))
    by true false ea eb = ne_eqb (bit_or a b) 0 (λ e. eqb-false b 0 eb (second e))
    by false y ea eb = ne_eqb (bit_or a b) 0 (λ e. eqb-false a 0 ea (first e))

module _ (r : List ℕ) where
  pub length-measured : length (measured r) ≡ length r
  unfolding measured cells_to on_bytes
  length-measured = length-anew _ _ _ _ ∙ length-anew _ _ _ r

  pub record_measured : is_record (measured r) ≡ is_record r
  unfolding is_record
  record_measured = ap (λ (n : ℕ). eqb n record_size) length-measured

  pub measured_spares : (p : Part) → Outside p cmf0.at cmf0.size → Outside p last_cells.at last_cells.size → bytes_of p (measured r) ≡ bytes_of p r
  unfolding measured cells_to on_bytes
  measured_spares p h k = outside_anew p _ _ _ _ h ∙ outside_anew p _ _ _ r k

  pub sound-measured : record_sound (measured r) ≡ record_sound r
  unfolding measured cells_to on_bytes
  sound-measured =
      sound_elsewhere _ cmf0.at cmf0.size _ (inr (lit≤ tt)) (inr (lit≤ tt)) ∙ sound_elsewhere _ last_cells.at last_cells.size r (inr (lit≤ tt)) (inr (lit≤ tt))

  -- CMF0 is no byte of the last measurement, nor the other way
  pub flags-copied : byte_of cmf0 (cells_to last_cells r) ≡ byte_of cmf0 r
  unfolding cells_to on_bytes
  flags-copied = outside_byte cmf0 _ last_cells.at last_cells.size r (lit≤ tt) (inr (lit≤ tt))

  joined : (l : List ℕ) → bytes_of last_cells (on_bytes cmf0 (λ i old. bit_or old (found r)) l) ≡ bytes_of last_cells l
  unfolding on_bytes
  joined l = outside_anew last_cells _ cmf0.at cmf0.size l (inl (lit≤ tt))

  module _ (whole : length r ≡ record_size) where
    pub flags-measured : byte_of cmf0 (measured r) ≡ bit_or (byte_of cmf0 r) (found r)
    unfolding measured cells_to on_bytes byte_of
    flags-measured =
        anew_inside _ cmf0.at cmf0.size _ 0 (lit< tt) (omega (arith, length-anew (λ i old. get_or (bytes_of cells r) i 0) last_cells.at last_cells.size r))
        ∙ ap (λ (old : ℕ). bit_or old (found r)) flags-copied

    pub last-measured : bytes_of last_cells (measured r) ≡ bytes_of cells r
    unfolding measured cells_to
    last-measured = joined _ ∙ made_of last_cells (bytes_of cells r) r (length_part cells r (omega arith)) (omega arith)

    -- bit by bit
    pub flag_measured : (k : ℕ) → bit_at k (byte_of cmf0 (measured r)) ≡ bit_at k (byte_of cmf0 r) || bit_at k (found r)
    flag_measured k = ap (bit_at k) flags-measured ∙ or_bits k (byte_of cmf0 r) (found r)

    -- what was set stays set
    pub flags_stay : (k : ℕ) → bit_at k (byte_of cmf0 r) ≡ true → bit_at k (byte_of cmf0 (measured r)) ≡ true
    flags_stay k e = flag_measured k ∙ ap (λ (b : Bool). b || bit_at k (found r)) e

    -- it passes where nothing was set and nothing is found
    pub passes-by : passes r ≡ eqb (byte_of cmf0 r) 0 && eqb (found r) 0
    unfolding passes
    passes-by = ap (λ (n : ℕ). eqb n 0) flags-measured ∙ none-set (byte_of cmf0 r) (found r)
