-- A release is judged by the table's count first, and then as the first four bytes are for either engine. Where the table is not
-- sound its count is 0, and refusal 1 holds whatever the count at byte four was. A release that none of the refusals stops meets the
-- monitors that were there at byte four.
-- Assumes nothing.
use mathlib.Core.Path.{◌≡◌, refl, sym, ap, ap₂, ◌∙◌, subst⁻¹}
use mathlib.Core.Bool.{Bool, true, false, cond, not, ◌&&◌, ◌||◌, or-false, false≢true}
use mathlib.Core.List.{List, ◌∷◌, []}
use Prim.Native.Nat.{ℕ, ◌*◌, ◌≤◌}
use native.Mathlib.Omega.{arith}
use lib.Dec.{eqb, leb}
use lib.ListN.{length, take}
use lib.Seq.{take_all}
use borrow.Author.Tests.{eqb-true, le-leb, ltb-false, not-false}
use Rattle.refusals.specs.declared.Refusal.{Refusal}
use Rattle.refusals.specs.declared.Refusal.TheVariants.{TableNotSound}
use Rattle.refusals.specs.Order.{◌gives◌, decide, Passed}
use Rattle.refusals.proofs.Deciding.{holds_here, has_passed}
use Rattle.records.specs.declared.commands.Command.{Command}
use Rattle.records.specs.Record.{record_size}
use Rattle.records.specs.Commands.{most_monitors}
use Rattle.judging.specs.Table.{monitors, sound}
use Rattle.judging.specs.Refusals.{command_in, short_row, command_row, listed_row, length_row}
use Rattle.judging.specs.Heads.{head_judged}
use Rattle.judging.proofs.Judging.{good_monitors}
use Rattle.judging.proofs.Soundness.{is_sound}
use Rattle.refusals.proofs.Decided.{is_accepted}
use Rattle.judging.proofs.Judging.{count_is, by_engine, by-head}
use Rattle.clocking.specs.Clock.{Clock}
use Rattle.releasing.specs.Release.{another_count, another, release_refusals}
use Rattle.releasing.specs.Judged.{judged}
use Rattle.std.specs.Prelude.{Err}
use Rattle.judging.specs.Heads.{good}

module _ (c : Clock) (table : List ℕ) (four : length c.head ≡ 4) {n : ℕ} (counted : n ≡ cond (sound table) (monitors table) 0) where
  -- the release's refusals are those of the head, behind a first that holds where b
  by_first : {b : Bool} → not (sound table) || another_count c (monitors table) ≡ b → judged c table ≡ by_engine table c.head c.seen counted b
  unfolding judged release_refusals
  by_first e =
      let all : take 4 c.head ≡ c.head = take_all 4 c.head (omega (arith, four)) in
      ap₂ (λ (b : Bool) (h : List ℕ). decide ((b gives TableNotSound) ∷ short_row c.seen ∷ command_row h ∷ listed_row c.head ∷ length_row c.seen (command_in c.head) (monitors table) ∷ []) Err (good (command_in c.head) (monitors table))) e (sym all)

  -- by the table: the first refusal
  first_of : (b : Bool) → another_count c n ≡ b → not (sound table) || another_count c (monitors table) ≡ not (sound table) || b
  first_of b e = go (sound table) refl
    where
      go : (s : Bool) → sound table ≡ s → not (sound table) || another_count c (monitors table) ≡ not (sound table) || b
      go true s = ap (λ (x : Bool). not (sound table) || x) (ap (another_count c) (sym (count_is table counted s)) ∙ e)
      go false s = ap (λ (x : Bool). not x || another_count c (monitors table)) s ∙ sym (ap (λ (x : Bool). not x || b) s)

  -- another count at byte four
  pub stop_another : another_count c n ≡ true → judged c table ≡ Err TableNotSound
  stop_another e = by_first (first_of true e ∙ either (not (sound table))) ∙ holds_here _ _ Err _ refl
    where
      either : (x : Bool) → x || true ≡ true
      either true = refl
      either false = refl

  -- the same count: the head decides
  pub to_head : another_count c n ≡ false → judged c table ≡ head_judged c.head c.seen n
  to_head e = by_first (first_of false e ∙ or-false (not (sound table))) ∙ by-head table c.head c.seen counted

-- ---- what is known of a release that none stops

-- n monitors can act: the table has their records, the clock their windows
pub record Ready (n : ℕ) (c : Clock) (table : List ℕ) : Type 0 where
  pub whole : length table ≡ n * record_size
  pub same : n ≡ c.chained
  pub few : n ≤ most_monitors

neither : (a b : Bool) → a || b ≡ false → (a ≡ false) × (b ≡ false)
neither true b h = absurd (false≢true (sym h))
neither false b h = (refl, h)

module _ (c : Clock) (table : List ℕ) {command : Command} {n : ℕ} (e : judged c table ≡ good command n) where
  apart : (r : Refusal) → good command n ≡ Err r → ⊥
  apart r e = let z : ◌≡◌ {A = ℕ} 0 1 = cc in omega arith

  passed : Passed (release_refusals c table)
  unfolding judged
  passed = has_passed (release_refusals c table) Err _ (good command n) apart e

  its-count : n ≡ monitors table
  unfolding judged
  its-count = sym (good_monitors (is_accepted (release_refusals c table) Err _ (good command n) apart e))

  pub ready : Ready n c table
  unfolding release_refusals another_count
  ready =
      let first = neither (not (sound table)) (another c table) passed.0 in
      let s = is_sound table (not-false (sound table) first.0) in
      let came : leb 4 c.seen ≡ true = le-leb 4 c.seen (ltb-false c.seen 4 passed.1.0) in
      let same = ap (λ (b : Bool). b && not (eqb c.chained (monitors table))) (sym came) ∙ first.1 in
      let at-four : c.chained ≡ monitors table = eqb-true c.chained (monitors table) (not-false _ same) in
      record {
        whole = s.whole ∙ ap (λ (k : ℕ). k * record_size) (sym its-count);
        same = its-count ∙ sym at-four;
        few = subst⁻¹ (λ (k : ℕ). k ≤ most_monitors) its-count s.few;
      }
