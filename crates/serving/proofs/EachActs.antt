-- Monitors that act one after the other, nearest first, each on its own bytes: what the table is, and how many took the command,
-- after k turns. Over any bytes for each monitor: a frame's payloads, or windows that were clocked.
-- Assumes nothing.
use mathlib.Core.Path.{◌≡◌, refl, sym, ap, ap₂, ◌∙◌, subst⁻¹}
use mathlib.Core.Bool.{Bool, true, cond, ◌&&◌}
use mathlib.Core.List.{List, [], ◌∷◌, ◌++◌, append-nil}
use Prim.Native.Nat.{ℕ, ◌+◌, ◌*◌, ◌≤◌, ◌<◌}
use native.Mathlib.Numerals.{add-one}
use native.Mathlib.Omega.{arith}
use lib.ListN.{length, length-take, get_or, take, drop, drop_of_length-le}
use lib.Seq.{take-suc, take_all}
use borrow.Author.Tests.{le-leb}
use Rattle.laws.specs.Counts.{count}
use Rattle.laws.specs.Rows.{rows, row_at, joined, along}
use Rattle.laws.proofs.Counts.{at_most_one, count_snoc}
use Rattle.laws.proofs.Rows.{length-rows, rows_snoc, along_snoc}
use Rattle.laws.proofs.Filling.{Filling, filling_start, filling_row, filling_more}
use Rattle.records.specs.declared.commands.Command.{Command}
use Rattle.records.specs.Record.{record_size}
use Rattle.monitor.specs.Effects.{takes, keeps}
use Rattle.monitor.proofs.Sound.{length-keeps}
use Rattle.serving.specs.Served.{has_record, served_at, takes_at, takers}
use Rattle.judging.proofs.Lent.{lent_length}

module _ (c : Command) (before : List ℕ) (owns : List (List ℕ)) where
  abbrev acts : ℕ → List (List ℕ)
  acts k = along (λ r own. keeps c own r) (rows record_size k before) (take k owns)

  pub record Acted (table : List ℕ) (k taken : ℕ) : Type 0 where
    pub filling : Filling record_size before table k (acts k)
    pub counted : taken ≡ takers c (rows record_size k before) (take k owns)
    pub few : taken ≤ k

  -- before the first
  pub acted-none : Acted before 0 0
  unfolding takers rows along count
  acted-none = record { filling = filling_start record_size before; counted = refl; few = omega arith }

  -- one monitor more
  module _ (k : ℕ) (h : k < length owns) where
    owns_more : take (k + 1) owns ≡ take k owns ++ get_or owns k [] ∷ []
    owns_more = ap (λ (m : ℕ). take m owns) (add-one k) ∙ take-suc owns k [] h

    rows_more : rows record_size (k + 1) before ≡ rows record_size k before ++ row_at record_size k before ∷ []
    rows_more = ap (λ (m : ℕ). rows record_size m before) (add-one k) ∙ rows_snoc record_size k before

    as_long : length (rows record_size k before) ≡ length (take k owns)
    as_long = omega (arith, length-rows record_size k before, length-take k owns)

    takers_more : takers c (rows record_size (k + 1) before) (take (k + 1) owns)
        ≡ takers c (rows record_size k before) (take k owns) + cond (takes c (get_or owns k []) (row_at record_size k before)) 1 0
    unfolding takers
    takers_more =
        ap (count (λ took. took)) (ap₂ (along (λ r own. takes c own r)) rows_more owns_more
        ∙ along_snoc (λ r own. takes c own r) (rows record_size k before) (row_at record_size k before) (take k owns) (get_or owns k []) as_long)
        ∙ count_snoc (λ took. took) (along (λ r own. takes c own r) (rows record_size k before) (take k owns)) (takes c (get_or owns k []) (row_at record_size k before))

    acts_more : acts (k + 1) ≡ acts k ++ keeps c (get_or owns k []) (row_at record_size k before) ∷ []
    acts_more =
        ap₂ (along (λ r own. keeps c own r)) rows_more owns_more
        ∙ along_snoc (λ r own. keeps c own r) (rows record_size k before) (row_at record_size k before) (take k owns) (get_or owns k []) as_long

    pub acted_more : {table after : List ℕ} {taken taken' : ℕ} {took : Bool} (own : List ℕ) → Acted table k taken → k * record_size + record_size ≤ length before
        → own ≡ get_or owns k [] → took ≡ has_record k table && takes_at k c own table
        → after ≡ cond (has_record k table) (served_at k c own table) table
        → taken' ≡ taken + cond took 1 0 → Acted after (k + 1) taken'
    unfolding served_at takes_at
    acted_more {table} {after} {taken} {taken'} {took} own a fits its took-is after_is taken_is =
        record {
          filling =
              subst⁻¹ (Filling record_size before after (k + 1)) acts_more
              (filling_more record_size before a.filling new fits (length-keeps c _ _ ∙ lent_length k before fits)
              (after_is
              ∙ ap (λ (b : Bool). cond b (served_at k c own table) table) there
              ∙ ap₂ (λ (e r : List ℕ). take (k * record_size) table ++ keeps c e r ++ drop (k * record_size + record_size) table) its (filling_row record_size before a.filling)));
          counted =
              taken_is
              ∙ ap₂ (λ (t : ℕ) (b : Bool). t + cond b 1 0) a.counted
              (took-is ∙ ap (λ (b : Bool). b && takes c own (row_at record_size k table)) there ∙ ap₂ (takes c) its (filling_row record_size before a.filling))
              ∙ sym takers_more;
          few = omega (arith, taken_is, a.few, at_most_one took);
        }
      where
        there : has_record k table ≡ true
        there = le-leb (k * record_size + record_size) (length table) (omega (arith, a.filling.size))

        new : List ℕ
        new = keeps c (get_or owns k []) (row_at record_size k before)

  -- after the last of n
  module _ (n : ℕ) (as_many : length owns ≡ n) {table : List ℕ} {k taken : ℕ} (last : k ≡ n) (a : Acted table k taken) where
    all : take k owns ≡ owns
    all = take_all k owns (omega arith)

    pub acted-taken : taken ≡ takers c (rows record_size n before) owns
    acted-taken = a.counted ∙ ap₂ (λ (m : ℕ) (os : List (List ℕ)). takers c (rows record_size m before) os) last all

    pub acted-table : length before ≡ n * record_size → table ≡ joined (along (λ r own. keeps c own r) (rows record_size n before) owns)
    acted-table whole =
        let end : length before ≤ k * record_size = omega arith in
        a.filling.so_far
        ∙ ap (λ (rest : List ℕ). joined (acts k) ++ rest) (drop_of_length-le before end)
        ∙ append-nil (joined (acts k))
        ∙ ap₂ (λ (m : ℕ) (es : List (List ℕ)). joined (along (λ r own. keeps c own r) (rows record_size m before) es)) last all
