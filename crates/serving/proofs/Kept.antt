-- A sound table stays sound and keeps its monitors, whatever command they act on. By records: each monitor keeps a sound record of the
-- same length.
-- Assumes nothing.
use mathlib.Core.Path.{◌≡◌, refl, sym, ap, ap₂, ◌∙◌}
use mathlib.Core.Bool.{true, ◌&&◌}
use mathlib.Core.List.{List, [], ◌∷◌}
use Prim.Native.Nat.{ℕ, ◌*◌, ◌≤◌}
use native.Mathlib.Omega.{arith}
use lib.ListN.{length}
use Rattle.laws.specs.Counts.{all}
use Rattle.laws.specs.Rows.{rows, joined, along}
use Rattle.laws.proofs.Rows.{Every, length-rows, length-joined, rows-joined, every_rows, length-along}
use Rattle.records.specs.declared.commands.Command.{Command}
use Rattle.records.specs.Record.{record_size, record_sound}
use Rattle.monitor.specs.Effects.{keeps}
use Rattle.monitor.proofs.Sound.{length-keeps, sound-keeps}
use Rattle.judging.specs.Table.{monitors, sound}
use Rattle.serving.specs.Served.{payloads_in, kept}
use Rattle.judging.proofs.Soundness.{both, is_sound}
use Rattle.judging.proofs.Keeps.{Keeps, keeps-by_records}
use Rattle.serving.proofs.OwnPayload.{length-payloads_in}

module _ (c : Command) where
  abbrev pub act : List ℕ → List ℕ → List ℕ
  act r own = keeps c own r

  every_act : (rs owns : List (List ℕ)) → Every record_size rs → Every record_size (along act rs owns)
  unfolding along
  every_act [] owns e = tt
  every_act (r ∷ rs) [] e = tt
  every_act (r ∷ rs) (own ∷ owns) e = (length-keeps c own r ∙ e.0, every_act rs owns e.1)

  all-act : (rs owns : List (List ℕ)) → Every record_size rs → all record_sound rs ≡ true → all record_sound (along act rs owns) ≡ true
  unfolding along all
  all-act [] owns e h = refl
  all-act (r ∷ rs) [] e h = refl
  all-act (r ∷ rs) (own ∷ owns) e h =
      let two = both (record_sound r) (all record_sound rs) h in
      ap₂ ◌&&◌ (sound-keeps c own r e.0 two.0) (all-act rs owns e.1 two.1)

  module _ (n : ℕ) (table frame : List ℕ) (fits : n * record_size ≤ length table) where
    abbrev pub acted : List (List ℕ)
    acted = along act (rows record_size n table) (payloads_in c frame n)

    pub length-acted : length acted ≡ n
    length-acted =
        length-along act (rows record_size n table) (payloads_in c frame n) (length-rows record_size n table ∙ sym (length-payloads_in c n table frame))
        ∙ length-rows record_size n table

    pub every_acted : Every record_size acted
    every_acted = every_act (rows record_size n table) (payloads_in c frame n) (every_rows record_size n table fits)

    pub length-kept : length (kept c n table frame) ≡ n * record_size
    unfolding kept
    length-kept = length-joined record_size acted every_acted ∙ ap (λ (m : ℕ). m * record_size) length-acted

    rows-kept : rows record_size n (kept c n table frame) ≡ acted
    unfolding kept
    rows-kept = ap (λ (m : ℕ). rows record_size m (joined acted)) (sym length-acted) ∙ rows-joined record_size acted every_acted

    all-kept : all record_sound (rows record_size n table) ≡ true → all record_sound (rows record_size n (kept c n table frame)) ≡ true
    all-kept h = ap (all record_sound) rows-kept ∙ all-act (rows record_size n table) (payloads_in c frame n) (every_rows record_size n table fits) h

  pub kept-keeps : (table frame : List ℕ) → sound table ≡ true → Keeps table (kept c (monitors table) table frame)
  kept-keeps table frame s =
      let t = is_sound table s in
      let fits : monitors table * record_size ≤ length table = omega (arith, t.whole) in
      keeps-by_records table (kept c (monitors table) table frame) t (length-kept (monitors table) table frame fits) (all-kept (monitors table) table frame fits t.each)
