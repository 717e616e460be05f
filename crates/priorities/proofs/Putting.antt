-- The invariant of the loop that puts the sixteen outputs at the start of a buffer: the first i of them are there, those among them that are
-- on are counted, and the rest of the buffer is as it was.
-- Assumes nothing.
use mathlib.Core.Path.{◌≡◌, refl, sym, ap, ap₂, ◌∙◌}
use mathlib.Core.Bool.{Bool, cond}
use mathlib.Core.List.{List, ◌++◌}
use Prim.Native.Nat.{ℕ, ◌+◌, ◌≤◌, ◌<◌}
use native.Mathlib.Numerals.{add-one}
use native.Mathlib.Omega.{arith}
use lib.ListN.{length, length-set, take, drop, get_or, set}
use lib.Seq.{take_all, take-suc, paste, paste-zero, paste-suc}
use Rattle.laws.specs.Counts.{count}
use Rattle.laws.specs.Tables.{tabulate}
use Rattle.laws.proofs.Counts.{count_snoc}
use Rattle.laws.proofs.Tables.{from}
use Rattle.records.specs.Record.{cell_count}
use Rattle.priorities.specs.declared.outputs.Events.{Events}
use Rattle.priorities.specs.declared.outputs.Output.{Output}
use Rattle.priorities.specs.Table27.{output_of}
use Rattle.priorities.specs.Outputs.{shown, the_cells, outputs, count_on}

module _ (r : List ℕ) (events : Events) (phase : ℕ) (out₀ : List ℕ) where
  -- the output of the cell at i, counted from 0
  abbrev at : ℕ → Output
  at i = output_of events phase r (i + 1)

  abbrev is_on : ℕ → Bool
  is_on c = (output_of events phase r c).on

  pub record Putting (out : List ℕ) (on i : ℕ) : Type 0 where
    pub within : i ≤ cell_count
    pub so_far : out ≡ paste out₀ 0 (outputs events phase r) i
    pub counted : on ≡ count is_on (take i the_cells)
    pub few : on ≤ i
    pub size : length out ≡ length out₀

  pub putting_start : Putting out₀ 0 0
  unfolding count
  putting_start = record { within = omega arith; so_far = paste-zero out₀ 0 (outputs events phase r); counted = refl; few = omega arith; size = refl }

  length-outputs : length (outputs events phase r) ≡ cell_count
  unfolding outputs tabulate
  length-outputs = refl

  length-cells : length the_cells ≡ cell_count
  unfolding the_cells tabulate
  length-cells = refl

  put_byte : (i : ℕ) → i < cell_count → get_or (outputs events phase r) i 0 ≡ shown (at i)
  unfolding outputs
  put_byte i h = from (λ c. shown (output_of events phase r c)) 1 cell_count i h ∙ ap (λ (c : ℕ). shown (output_of events phase r c)) (omega arith)

  put_cell : (i : ℕ) → i < cell_count → get_or the_cells i 0 ≡ i + 1
  unfolding the_cells
  put_cell i h = from (λ c. c) 1 cell_count i h ∙ omega arith

  one_more_lem : (i : ℕ) → i < cell_count → count is_on (take (i + 1) the_cells) ≡ count is_on (take i the_cells) + cond (at i).on 1 0
  one_more_lem i h =
      ap (λ (n : ℕ). count is_on (take n the_cells)) (add-one i)
      ∙ ap (count is_on) (take-suc the_cells i 0 (omega (arith, length-cells)))
      ∙ count_snoc is_on (take i the_cells) (get_or the_cells i 0)
      ∙ ap (λ (c : ℕ). count is_on (take i the_cells) + cond (is_on c) 1 0) (put_cell i h)

  pub putting_more : {out : List ℕ} {on i byte now : ℕ} {o : Output} → Putting out on i → i < cell_count → cell_count ≤ length out₀ → o ≡ at i
      → byte ≡ shown o → now ≡ on + cond o.on 1 0 → now ≤ i + 1 → Putting (set out i byte) now (i + 1)
  putting_more {out} {on} {i} {byte} {now} {o} p h room e b n f =
      record {
        within = omega arith;
        so_far =
            ap₂ (λ (l : List ℕ) (v : ℕ). set l i v) p.so_far (b ∙ ap shown e ∙ sym (put_byte i h))
            ∙ ap (λ (k : ℕ). set (paste out₀ 0 (outputs events phase r) i) k (get_or (outputs events phase r) i 0)) (omega arith)
            ∙ paste-suc out₀ 0 (outputs events phase r) i 0 (omega arith) (omega (arith, length-outputs))
            ∙ ap (paste out₀ 0 (outputs events phase r)) (sym (add-one i));
        counted = n ∙ ap₂ (λ (m : ℕ) (x : Output). m + cond x.on 1 0) p.counted e ∙ sym (one_more_lem i h);
        few = f;
        size = length-set out i byte ∙ p.size;
      }

  pub putting_end : {out : List ℕ} {on i : ℕ} → Putting out on i → cell_count ≤ i
      → (on ≡ count_on events phase r) × (out ≡ outputs events phase r ++ drop cell_count out₀)
  unfolding count_on
  putting_end {out} {on} {i} p h =
      let all : i ≡ cell_count = omega (arith, p.within) in (
        p.counted ∙ ap (λ (n : ℕ). count is_on (take n the_cells)) all ∙ ap (count is_on) (take_all cell_count the_cells (omega (arith, length-cells))),
        p.so_far ∙ ap (paste out₀ 0 (outputs events phase r)) all
            ∙ ap (λ (xs : List ℕ). xs ++ drop cell_count out₀) (take_all cell_count (outputs events phase r) (omega (arith, length-outputs))),
      )
