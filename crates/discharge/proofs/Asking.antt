-- Going down the refusals of the question, for whatever is made of its outcome: what has no place is refused as it is, and after a place come
-- the phase and the room.
-- Assumes nothing.
use mathlib.Core.Path.{◌≡◌, sym, ap, ◌∙◌}
use mathlib.Core.Bool.{Bool, cond}
use mathlib.Core.List.{List, [], ◌∷◌, ◌++◌}
use Prim.Native.Nat.{ℕ, ◌+◌, ◌-◌, ◌*◌, ◌≤◌, ◌<◌}
use native.Mathlib.Omega.{arith}
use lib.Dec.{leb}
use lib.ListN.{length, take, drop}
use borrow.Author.Tests.{lt-ltb, le-ltb, le-leb}
use Rattle.laws.specs.Rows.{row_at}
use Rattle.refusals.specs.declared.Refusal.{Refusal}
use Rattle.refusals.specs.declared.Refusal.TheVariants.{PositionWrong, NoRoom}
use Rattle.refusals.specs.Order.{decide}
use Rattle.refusals.proofs.Deciding.{holds_here, holds_not, none_left, decide_append}
use Rattle.records.specs.Record.{cell_count, record_size}
use Rattle.judging.specs.Places.{place_refusals, placed}
use Rattle.judging.proofs.Lies.{part-row}
use Rattle.judging.proofs.Place.{by_place, as_placed, its_index, at-fits}
use Rattle.priorities.specs.declared.outputs.Events.{Events}
use Rattle.priorities.specs.Table27.{last_phase}
use Rattle.priorities.specs.Outputs.{outputs, count_on}
use Rattle.discharge.specs.Question.{phase_row, out_row, discharge_refusals, discharged, outputs_after}
use Rattle.std.specs.Prelude.{Result, Ok, Err}

module _ {A : Type 0} (table : List ℕ) (position phase room : ℕ) (refused : Refusal → A) (accepted : A) where
  -- what the refusals after the place say
  abbrev later : A
  later = decide (phase_row phase ∷ out_row room ∷ []) refused accepted

  -- what comes of the question
  abbrev pub asked : A
  asked = decide (discharge_refusals table position phase room) refused accepted

  by-its_place : {p : Result ℕ Refusal} → placed table position ≡ p → asked ≡ by_place refused later p
  unfolding discharge_refusals place_refusals
  by-its_place e =
      decide_append (place_refusals table position) (phase_row phase ∷ out_row room ∷ []) refused accepted
      ∙ as_placed table position refused later
      ∙ ap (by_place refused later) e

  pub no_place : {r : Refusal} → placed table position ≡ Err r → asked ≡ refused r
  no_place e = by-its_place e

  module _ {k : ℕ} (e : placed table position ≡ Ok k) where
    pub phase_wrong : last_phase < phase → asked ≡ refused PositionWrong
    phase_wrong h = by-its_place e ∙ holds_here _ _ refused accepted (lt-ltb last_phase phase h)

    phase_right : phase ≤ last_phase → asked ≡ decide (out_row room ∷ []) refused accepted
    phase_right h = by-its_place e ∙ holds_not _ _ refused accepted (le-ltb last_phase phase h)

    pub no_room : phase ≤ last_phase → room < cell_count → asked ≡ refused NoRoom
    no_room h r = phase_right h ∙ holds_here _ _ refused accepted (lt-ltb room cell_count r)

    pub answered : phase ≤ last_phase → cell_count ≤ room → asked ≡ accepted
    answered h r = phase_right h ∙ holds_not _ _ refused accepted (le-ltb room cell_count r) ∙ none_left refused accepted

-- ---- what is answered: the outputs of the record that the table lends, put where there is room for them

module _ (table : List ℕ) (position : ℕ) (events : Events) (phase : ℕ) (out : List ℕ) {k : ℕ} (e : placed table position ≡ Ok k)
    (h : phase ≤ last_phase) (room : cell_count ≤ length out)
    {start end : ℕ} (lies : (start ≡ k * record_size) × (end ≡ k * record_size + record_size)) where
  -- a place is one of a record, which lies in the table
  within : (start ≡ k * record_size) × (end ≡ k * record_size + record_size) × (end ≤ length table)
  within = (lies.0, lies.1, omega (arith, lies.1, at-fits table position e))

  abbrev its : List ℕ
  its = take (end - start) (drop start table)

  own : its ≡ row_at record_size (position - 1) table
  own = part-row k table within ∙ ap (λ (j : ℕ). row_at record_size j table) (its_index table position e)

  pub so_many_on : {n : ℕ} → n ≡ cond (leb cell_count (length out)) (count_on events phase its) 0
      → Ok n ≡ discharged table position events phase (length out)
  unfolding discharged
  so_many_on n =
      ap Ok
      (n
      ∙ ap (λ (b : Bool). cond b (count_on events phase its) 0) (le-leb cell_count (length out) room)
      ∙ ap (count_on events phase) own)
      ∙ sym (answered table position phase (length out) Err _ e h room)

  pub outputs_put : {after : List ℕ} → after ≡ cond (leb cell_count (length out)) (outputs events phase its ++ drop cell_count out) out
      → after ≡ outputs_after table position events phase out
  unfolding outputs_after
  outputs_put a =
      a
      ∙ ap (λ (b : Bool). cond b (outputs events phase its ++ drop cell_count out) out) (le-leb cell_count (length out) room)
      ∙ ap (λ (r : List ℕ). outputs events phase r ++ drop cell_count out) own
      ∙ sym (answered table position phase (length out) (λ n. out) _ e h room)
