-- The bytes of the outputs tell all of them: each cell's own byte, which holds its row and whether it is on; and as many bytes say so as are
-- counted. A shutdown, a mute and a write of configuration B leave none counted.
-- Assumes nothing.
use mathlib.Core.Path.{◌≡◌, refl, sym, ap, ap₂, ◌∙◌}
use mathlib.Core.Bool.{Bool, true, false, cond}
use mathlib.Core.List.{List, [], ◌∷◌}
use Prim.Native.Nat.{ℕ, zero, suc, ◌+◌, ◌-◌, ◌%◌, ◌≤◌}
use native.Mathlib.Omega.{arith}
use lib.Dec.{leb}
use lib.ListN.{get_or}
use borrow.Author.Tests.{le-leb, lt-leb}
use Rattle.laws.specs.Counts.{count}
use Rattle.laws.specs.Tables.{tabulate}
use Rattle.laws.proofs.Tables.{from}
use Rattle.records.specs.Record.{cell_count}
use Rattle.priorities.specs.declared.outputs.Events.{Events}
use Rattle.priorities.specs.declared.outputs.Output.{Output}
use Rattle.priorities.specs.Switches.{muted}
use Rattle.priorities.specs.Table27.{output_of}
use Rattle.priorities.specs.Outputs.{shown, the_cells, outputs, count_on}
use Rattle.priorities.proofs.Deciding.{row_range, shutdown_off, mute_off, wrcfgb_off}

-- ---- one byte

module _ (o : Output) (few : o.row ≤ 7) where
  with_flag : (b : Bool) → (o.row + cond b 0x80 0) % 0x80 ≡ o.row
  with_flag true = omega arith
  with_flag false = omega arith

  pub row-shown : shown o % 0x80 ≡ o.row
  unfolding shown
  row-shown = with_flag o.on

  flag_seen : (b : Bool) → leb 0x80 (o.row + cond b 0x80 0) ≡ b
  flag_seen true = le-leb 0x80 (o.row + 0x80) (omega arith)
  flag_seen false = lt-leb 0x80 (o.row + 0) (omega arith)

  pub on-shown : leb 0x80 (shown o) ≡ o.on
  unfolding shown
  on-shown = flag_seen o.on

-- ---- all of them

module _ (events : Events) (phase : ℕ) (r : List ℕ) where
  pub own-output : (c : ℕ) → 1 ≤ c → c ≤ cell_count → get_or (outputs events phase r) (c - 1) 0 ≡ shown (output_of events phase r c)
  unfolding outputs
  own-output c h k =
      from (λ d. shown (output_of events phase r d)) 1 cell_count (c - 1) (omega arith) ∙ ap (λ (d : ℕ). shown (output_of events phase r d)) (omega arith)

  -- as many bytes say on as outputs are
  along : (n i : ℕ) → count (leb 0x80) (tabulate (λ c. shown (output_of events phase r c)) i n) ≡ count (λ c. (output_of events phase r c).on) (tabulate (λ c. c) i n)
  unfolding count tabulate
  along zero i = refl
  along (suc n) i =
      ap₂ (λ (b : Bool) (m : ℕ). cond b 1 0 + m) (on-shown (output_of events phase r i) (row_range events phase r i).1) (along n (suc i))

  pub count-shown : count_on events phase r ≡ count (leb 0x80) (outputs events phase r)
  unfolding count_on the_cells outputs
  count-shown = sym (along cell_count 1)

  none_of : (f : ℕ → Bool) → ((c : ℕ) → f c ≡ false) → (cs : List ℕ) → count f cs ≡ 0
  unfolding count
  none_of f h [] = refl
  none_of f h (c ∷ cs) = ap₂ (λ (b : Bool) (m : ℕ). cond b 1 0 + m) (h c) (none_of f h cs)

  pub shutdown_none : events.shutdown ≡ true → count_on events phase r ≡ 0
  unfolding count_on
  shutdown_none e = none_of _ (λ c. shutdown_off events phase r c e) the_cells

  pub mute_none : muted r ≡ true → count_on events phase r ≡ 0
  unfolding count_on
  mute_none e = none_of _ (λ c. mute_off events phase r c e) the_cells

  pub wrcfgb_none : events.wrcfgb ≡ true → count_on events phase r ≡ 0
  unfolding count_on
  wrcfgb_none e = none_of _ (λ c. wrcfgb_off events phase r c e) the_cells
