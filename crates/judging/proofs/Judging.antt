-- Going down the refusals of a frame: what passes each, and what stops at it. Refusals 1 to 5 are gone down once, for both engines.
-- Assumes nothing.
use mathlib.Core.Path.{◌≡◌, refl, sym, ap, ap₂, ◌∙◌, subst⁻¹}
use mathlib.Core.Bool.{Bool, true, false, cond, not, ◌&&◌}
use mathlib.Core.List.{List, ◌∷◌}
use Prim.Native.Nat.{ℕ, ◌*◌, ◌≤◌, ◌<◌}
use native.Mathlib.Omega.{arith}
use lib.Dec.{leb}
use lib.ListN.{length, take, drop}
use borrow.Author.Tests.{eq-eqb, ne_eqb, lt-ltb, le-ltb, le-leb, lt-leb, eqb-true, leb-true, not-false}
use Rattle.pec.specs.Words.{command_right}
use Rattle.refusals.specs.declared.Refusal.TheVariants.{TableNotSound, FrameShort, CommandWrong, CodeNotListed, LengthWrong}
use Rattle.refusals.specs.declared.Refusal.{Refusal}
use Rattle.refusals.specs.Order.{◌gives◌, decide, Passed}
use Rattle.refusals.proofs.Deciding.{holds_here, holds_not, none_left, passes, has_passed}
use Rattle.records.specs.declared.commands.Command.{Command}
use Rattle.records.specs.Record.{record_size}
use Rattle.records.specs.Commands.{is_listed, most_monitors, frame_length}
use Rattle.judging.specs.declared.heads.Judged.{Judged}
use Rattle.judging.specs.Table.{monitors, sound}
use Rattle.judging.specs.Refusals.{command_in}
use Rattle.judging.specs.Heads.{count_row, later_rows, head_judged}
use Rattle.judging.proofs.Soundness.{both, is_sound}
use Rattle.std.specs.Prelude.{Result, Ok, Err}
use Rattle.judging.specs.Heads.{good}

-- ---- the table's count tells whether it is sound

module _ (table : List ℕ) {n : ℕ} (counted : n ≡ cond (sound table) (monitors table) 0) where
  by_test : (b : Bool) → sound table ≡ b → n ≡ cond b (monitors table) 0
  by_test b e = counted ∙ ap (λ (x : Bool). cond x (monitors table) 0) e

  pub not_none : (n ≡ 0 → ⊥) → sound table ≡ true
  not_none h = go (sound table) refl
    where
      go : (b : Bool) → sound table ≡ b → sound table ≡ true
      go true e = e
      go false e = absurd (h (by_test false e))

  pub none : n ≡ 0 → sound table ≡ false
  none z = go (sound table) refl
    where
      go : (b : Bool) → sound table ≡ b → sound table ≡ false
      go true e =
          let some = (is_sound table e).some in
          let count = by_test true e in
          absurd (omega arith)
      go false e = e

  pub count_is : sound table ≡ true → n ≡ monitors table
  count_is e = by_test true e

  -- a count that is not 0 is one of whole records, and of no more than a chain has
  pub counts_whole : (n ≡ 0 → ⊥) → length table ≡ n * record_size
  counts_whole h = (is_sound table (not_none h)).whole ∙ ap (λ (x : ℕ). x * record_size) (sym (count_is (not_none h)))

  pub counts_few : (n ≡ 0 → ⊥) → n ≤ most_monitors
  counts_few h = subst⁻¹ (λ (x : ℕ). x ≤ most_monitors) (count_is (not_none h)) (is_sound table (not_none h)).few

-- ---- refusals 1 to 5, by the first four bytes

module _ (frame : List ℕ) (bytes n : ℕ) where
  -- what the refusals from the k-th on say
  abbrev pub from : ℕ → Result Judged Refusal
  from k = decide (drop k (count_row n ∷ later_rows frame bytes n)) Err (good (command_in frame) n)

  pub stop_few : n < 1 → head_judged frame bytes n ≡ Err TableNotSound
  unfolding head_judged
  stop_few h = holds_here _ _ Err _ (ap (λ (b : Bool). not (b && leb n most_monitors)) (lt-leb 1 n h))

  pub stop_many : 1 ≤ n → most_monitors < n → head_judged frame bytes n ≡ Err TableNotSound
  unfolding head_judged
  stop_many some h = holds_here _ _ Err _ (ap₂ (λ (a b : Bool). not (a && b)) (le-leb 1 n some) (lt-leb n most_monitors h))

  pub pass-count : 1 ≤ n → n ≤ most_monitors → head_judged frame bytes n ≡ from 1
  unfolding head_judged
  pass-count some few = holds_not _ _ Err _ (ap₂ (λ (a b : Bool). not (a && b)) (le-leb 1 n some) (le-leb n most_monitors few))

  pub stop_short : bytes < 4 → from 1 ≡ Err FrameShort
  stop_short h = holds_here _ _ Err _ (lt-ltb _ _ h)

  pub pass_short : 4 ≤ bytes → from 1 ≡ from 2
  pass_short h = holds_not _ _ Err _ (le-ltb _ _ h)

  pub stop_command : command_right (take 4 frame) ≡ false → from 2 ≡ Err CommandWrong
  stop_command e = holds_here _ _ Err _ (ap not e)

  pub pass_command : command_right (take 4 frame) ≡ true → from 2 ≡ from 3
  pass_command e = holds_not _ _ Err _ (ap not e)

  pub stop_listed : is_listed (command_in frame) ≡ false → from 3 ≡ Err CodeNotListed
  stop_listed e = holds_here _ _ Err _ (ap not e)

  pub pass_listed : is_listed (command_in frame) ≡ true → from 3 ≡ from 4
  pass_listed e = holds_not _ _ Err _ (ap not e)

  pub stop_length : (bytes ≡ frame_length (command_in frame) n → ⊥) → from 4 ≡ Err LengthWrong
  stop_length h = holds_here _ _ Err _ (ap not (ne_eqb _ _ h))

  pub pass_length : bytes ≡ frame_length (command_in frame) n → from 4 ≡ good (command_in frame) n
  pass_length e = holds_not _ _ Err _ (ap not (eq-eqb _ _ e)) ∙ none_left Err (good (command_in frame) n)

-- what is known of a frame that none of them stops
good-apart : (c : Command) (n : ℕ) (r : Refusal) → good c n ≡ Err r → ⊥
good-apart c n r e = let z : ◌≡◌ {A = ℕ} 0 1 = cc in omega arith

-- two that are good alike have the same command and the same number of monitors
same_judged : {i j : Judged} → ◌≡◌ {A = Result Judged Refusal} (Ok i) (Ok j) → i ≡ j
same_judged e = cc

pub good_command : {c k : Command} {n m : ℕ} → good c n ≡ good k m → c ≡ k
good_command e = ap (λ (j : Judged). j.command) (same_judged e)

pub good_monitors : {c k : Command} {n m : ℕ} → good c n ≡ good k m → n ≡ m
good_monitors e = ap (λ (j : Judged). j.monitors) (same_judged e)

pub record HeadGood (command : Command) (m : ℕ) (frame : List ℕ) (bytes n : ℕ) : Type 0 where
  pub its : command ≡ command_in frame
  pub same : m ≡ n
  pub some : 1 ≤ m
  pub few : m ≤ most_monitors
  pub long : bytes ≡ frame_length command m

module _ (frame : List ℕ) (bytes n : ℕ) {command : Command} {m : ℕ} (e : head_judged frame bytes n ≡ good command m) where
  passed : Passed (count_row n ∷ later_rows frame bytes n)
  unfolding head_judged
  passed = has_passed (count_row n ∷ later_rows frame bytes n) Err (good (command_in frame) n) (good command m) (good-apart command m) e

  the_good : good (command_in frame) n ≡ good command m
  unfolding head_judged
  the_good = sym (passes (count_row n ∷ later_rows frame bytes n) Err (good (command_in frame) n) passed) ∙ e

  pub head-good : HeadGood command m frame bytes n
  head-good =
      let its : command ≡ command_in frame = sym (good_command the_good) in
      let same : m ≡ n = sym (good_monitors the_good) in
      let two = both (leb 1 n) (leb n most_monitors) (not-false _ passed.0) in
      let long : bytes ≡ frame_length (command_in frame) n = eqb-true _ _ (not-false _ passed.1.1.1.1.0) in
      record {
        its = its;
        same = same;
        some = subst⁻¹ (λ (x : ℕ). 1 ≤ x) same (leb-true 1 n two.0);
        few = subst⁻¹ (λ (x : ℕ). x ≤ most_monitors) same (leb-true n most_monitors two.1);
        long = long ∙ ap₂ frame_length (sym its) (sym same);
      }

-- ---- by a sound table's count: the engines' first refusal is that the table is not sound

module _ (table frame : List ℕ) (bytes : ℕ) {n : ℕ} (counted : n ≡ cond (sound table) (monitors table) 0) where
  -- the refusals of an engine of which the first holds where b
  abbrev pub by_engine : Bool → Result Judged Refusal
  by_engine b = decide ((b gives TableNotSound) ∷ later_rows frame bytes (monitors table)) Err (good (command_in frame) (monitors table))

  pub by-head : by_engine (not (sound table)) ≡ head_judged frame bytes n
  by-head = go (sound table) refl
    where
      go : (b : Bool) → sound table ≡ b → by_engine (not (sound table)) ≡ head_judged frame bytes n
      go true e =
          let count : n ≡ monitors table = count_is table counted e in
          let some : 1 ≤ n = subst⁻¹ (λ (x : ℕ). 1 ≤ x) count (is_sound table e).some in
          let few : n ≤ most_monitors = subst⁻¹ (λ (x : ℕ). x ≤ most_monitors) count (is_sound table e).few in
          holds_not _ _ Err _ (ap not e)
          ∙ ap (λ (m : ℕ). decide (later_rows frame bytes m) Err (good (command_in frame) m)) (sym count)
          ∙ sym (pass-count frame bytes n some few)
      go false e =
          let none : n < 1 = omega (arith, counted ∙ ap (λ (b : Bool). cond b (monitors table) 0) e) in
          holds_here _ _ Err _ (ap not e) ∙ sym (stop_few frame bytes n none)

-- ---- the lengths

-- the monitor's answer on the length of a frame or a reply, for no more monitors than a chain has
pub within_most : (n l : ℕ) {r : ℕ} → n ≤ most_monitors → r ≡ cond (leb n most_monitors) l 0 → r ≡ l
within_most n l h e = e ∙ ap (λ (b : Bool). cond b l 0) (le-leb n most_monitors h)
