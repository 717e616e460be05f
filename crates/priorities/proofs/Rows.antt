-- Going down the rows of Table 27: a row whose event holds decides, one whose event does not leaves the output to the rows below it.
-- Assumes nothing.
use mathlib.Core.Path.{◌≡◌, ap}
use mathlib.Core.Bool.{Bool, true, false, cond}
use mathlib.Core.List.{List}
use Prim.Native.Nat.{ℕ}
use lib.Dec.{ltb}
use lib.ListN.{drop}
use Rattle.priorities.specs.declared.outputs.Events.{Events}
use Rattle.priorities.specs.declared.outputs.Output.{Output}
use Rattle.priorities.specs.Switches.{muted, dcc, duty}
use Rattle.priorities.specs.Table27.{table27, decided, output_of}

abbrev pub output : ℕ → Bool → Output
output row on = record { row = row; on = on }

module _ (events : Events) (phase : ℕ) (r : List ℕ) (c : ℕ) where
  -- what the rows from the k-th on, counted from 0, decide
  abbrev pub below : ℕ → Output
  below k = decided (drop k (table27 events phase r c))

  step : (b : Bool) {v : Bool} (x y : Output) → b ≡ v → cond b x y ≡ cond v x y
  step b x y e = ap (λ (t : Bool). cond t x y) e

  pub past_7 : events.shutdown ≡ false → output_of events phase r c ≡ below 1
  unfolding output_of decided table27
  past_7 e = step events.shutdown (output 7 false) (below 1) e

  pub by_6 : muted r ≡ true → below 1 ≡ output 6 false
  unfolding decided table27
  by_6 e = step (muted r) (output 6 false) (below 2) e

  pub past_6 : muted r ≡ false → below 1 ≡ below 2
  unfolding decided table27
  past_6 e = step (muted r) (output 6 false) (below 2) e

  pub past_5 : events.wrcfgb ≡ false → below 2 ≡ below 3
  unfolding decided table27
  past_5 e = step events.wrcfgb (output 5 false) (below 3) e

  pub by_4 : dcc r c ≡ true → below 3 ≡ output 4 true
  unfolding decided table27
  by_4 e = step (dcc r c) (output 4 true) (below 4) e
