-- What is refused changes nothing: where the outcome is a refusal the table is as it was, where it is none one record is changed. By
-- going down the refusals: the first that holds is the same for both.
-- Assumes nothing.
use mathlib.Core.Path.{◌≡◌, sym, ap, ◌∙◌}
use mathlib.Core.List.{List}
use Prim.Native.Nat.{ℕ, ◌-◌}
use lib.IntN.{ℤ}
use Rattle.refusals.specs.declared.Refusal.{Refusal}
use Rattle.refusals.specs.Order.{Row, decide}
use Rattle.refusals.proofs.Deciding.{decide-map}
use Rattle.judging.specs.Table.{changed_at}
use Rattle.cells.specs.Cells.{store, compare, load}
use Rattle.loads.specs.Load.{store_refusals, stored, table_after_store, compare_refusals, compared, table_after_compare, load_refusals, loaded, table_after_load}
use Rattle.std.specs.Prelude.{Result, Ok, Err}

-- the table, by the outcome
abbrev pub left : List ℕ → List ℕ → Result (Unit {0}) Refusal → List ℕ
left table changed (Err r) = table
left table changed (Ok tt) = changed

by-outcome : (rows : List Row) (table changed : List ℕ) {l : Result (Unit {0}) Refusal} → decide rows Err (Ok tt) ≡ l → decide rows (λ r. table) changed ≡ left table changed l
by-outcome rows table changed e = sym (decide-map (left table changed) rows Err (Ok tt)) ∙ ap (left table changed) e

module _ (table : List ℕ) (position : ℕ) where
  pub table-compared : {l : Result (Unit {0}) Refusal} → compared table position ≡ l → table_after_compare table position ≡ left table (changed_at (position - 1) compare table) l
  unfolding compared table_after_compare
  table-compared e = by-outcome (compare_refusals table position) table (changed_at (position - 1) compare table) e

  pub refused-compare : (r : Refusal) → compared table position ≡ Err r → table_after_compare table position ≡ table
  refused-compare r e = table-compared e

  module _ (codes : List ℤ) where
    pub table-stored : {l : Result (Unit {0}) Refusal} → stored table position codes ≡ l
        → table_after_store table position codes ≡ left table (changed_at (position - 1) (store codes) table) l
    unfolding stored table_after_store
    table-stored e = by-outcome (store_refusals table position codes) table (changed_at (position - 1) (store codes) table) e

    pub refused-store : (r : Refusal) → stored table position codes ≡ Err r → table_after_store table position codes ≡ table
    refused-store r e = table-stored e

    pub table-loaded : {l : Result (Unit {0}) Refusal} → loaded table position codes ≡ l
        → table_after_load table position codes ≡ left table (changed_at (position - 1) (load codes) table) l
    unfolding loaded table_after_load
    table-loaded e = by-outcome (load_refusals table position codes) table (changed_at (position - 1) (load codes) table) e

    pub refused-load : (r : Refusal) → loaded table position codes ≡ Err r → table_after_load table position codes ≡ table
    refused-load r e = table-loaded e
