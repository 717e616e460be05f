-- What Table 27 comes to. Exactly one row decides each output, and its number is 1 to 7; an output is on only by row 4 or row 1; a shutdown,
-- a mute and a write of configuration B leave none on, and nothing else stops a cell's own DCC bit; a cell's output goes by MUTE_ST, its DCC
-- bit and its duty; and in the fifteen phases a cell that row 1 decides is on in as many as its duty says.
-- Assumes nothing.
use mathlib.Core.Path.{◌≡◌, refl, sym, ap, ap₂, ◌∙◌}
use mathlib.Core.Bool.{Bool, true, false, cond, false≢true}
use mathlib.Core.List.{List, [], ◌∷◌}
use mathlib.Core.Logic.{◌⊎◌, inl, inr}
use Prim.Native.Nat.{ℕ, zero, suc, ◌+◌, ◌-◌, ◌/◌, ◌%◌, ◌≤◌, ◌<◌, min}
use native.Mathlib.Nat.{mod-lt}
use native.Mathlib.Omega.{arith}
use lib.Dec.{ltb, lit≤}
use borrow.Author.Tests.{ltb-true, ltb-false}
use Rattle.laws.specs.Bits.{odd}
use Rattle.laws.specs.Counts.{count}
use Rattle.laws.specs.Tables.{tabulate}
use Rattle.priorities.specs.declared.outputs.Events.{Events}
use Rattle.priorities.specs.declared.outputs.Output.{Output}
use Rattle.priorities.specs.Switches.{muted, dcc, duty_byte, duty}
use Rattle.priorities.specs.Table27.{Row, phases, table27, decided, output_of, Decides, Decider}
use Rattle.priorities.proofs.Rows.{output, past_7, past_6, past_5, by_4}

-- ---- one row

-- the last row's event always holds
abbrev Ends : List Row → Type 0
Ends [] = ⊥
Ends (row ∷ []) = row.event ≡ true
Ends (row ∷ next ∷ rows) = Ends (next ∷ rows)

decider : (rows : List Row) → Ends rows → Decider rows
unfolding decided
decider [] e = elim e [ ]
decider (row ∷ []) e = record { row = row; decides = inl (e, refl); told = ap (λ (b : Bool). cond b (output row.priority row.on) (decided [])) e }
decider (row ∷ next ∷ rows) e = by row.event refl (decider (next ∷ rows) e)
  where
    by : (b : Bool) → row.event ≡ b → Decider (next ∷ rows) → Decider (row ∷ next ∷ rows)
    by true h d =
        record { row = row; decides = inl (h, refl); told = ap (λ (b : Bool). cond b (output row.priority row.on) (decided (next ∷ rows))) h }
    by false h d =
        record {
          row = d.row;
          decides = inr (h, d.decides);
          told = ap (λ (b : Bool). cond b (output row.priority row.on) (decided (next ∷ rows))) h ∙ d.told;
        }

pub one_decides : (rows : List Row) (p q : Row) → Decides rows p → Decides rows q → p ≡ q
one_decides [] p q h _ = elim h [ ]
one_decides (row ∷ rows) p q (inl h) (inl k) = sym h.1 ∙ k.1
one_decides (row ∷ rows) p q (inl h) (inr k) = absurd (false≢true (sym k.0 ∙ h.0))
one_decides (row ∷ rows) p q (inr h) (inl k) = absurd (false≢true (sym h.0 ∙ k.0))
one_decides (row ∷ rows) p q (inr h) (inr k) = one_decides rows p q h.1 k.1

-- ---- the events of rows 7 to 2, each true or false, and what row 1 then says

abbrev chosen : Bool → Bool → Bool → Bool → Bool → Bool → Bool → Output
chosen a b c d e f x =
    cond a (output 7 false) (cond b (output 6 false) (cond c (output 5 false) (cond d (output 4 true) (cond e (output 3 false) (cond f (output 2 false) (output 1 x))))))

in_range : (a b c d e f x : Bool) → (1 ≤ (chosen a b c d e f x).row) × ((chosen a b c d e f x).row ≤ 7)
in_range true b c d e f x = (lit≤ tt, lit≤ tt)
in_range false true c d e f x = (lit≤ tt, lit≤ tt)
in_range false false true d e f x = (lit≤ tt, lit≤ tt)
in_range false false false true e f x = (lit≤ tt, lit≤ tt)
in_range false false false false true f x = (lit≤ tt, lit≤ tt)
in_range false false false false false true x = (lit≤ tt, lit≤ tt)
in_range false false false false false false x = (lit≤ tt, lit≤ tt)

only_4_or_1 : (a b c d e f x : Bool) → (chosen a b c d e f x).on ≡ true → ((chosen a b c d e f x).row ≡ 4) ⊎ ((chosen a b c d e f x).row ≡ 1)
only_4_or_1 true b c d e f x h = absurd (false≢true h)
only_4_or_1 false true c d e f x h = absurd (false≢true h)
only_4_or_1 false false true d e f x h = absurd (false≢true h)
only_4_or_1 false false false true e f x h = inl refl
only_4_or_1 false false false false true f x h = absurd (false≢true h)
only_4_or_1 false false false false false true x h = absurd (false≢true h)
only_4_or_1 false false false false false false x h = inr refl

by-row_1 : (a b c d e f x y : Bool) → (chosen a b c d e f x).row ≡ 1 → (chosen a b c d e f y).on ≡ y
by-row_1 true b c d e f x y h = absurd (omega arith)
by-row_1 false true c d e f x y h = absurd (omega arith)
by-row_1 false false true d e f x y h = absurd (omega arith)
by-row_1 false false false true e f x y h = absurd (omega arith)
by-row_1 false false false false true f x y h = absurd (omega arith)
by-row_1 false false false false false true x y h = absurd (omega arith)
by-row_1 false false false false false false x y h = refl

module _ (events : Events) (phase : ℕ) (r : List ℕ) (c : ℕ) where
  pub its-row : Decider (table27 events phase r c)
  unfolding table27
  its-row = decider (table27 events phase r c) refl

  pub row_range : (1 ≤ (output_of events phase r c).row) × ((output_of events phase r c).row ≤ 7)
  unfolding output_of decided table27
  row_range = in_range events.shutdown (muted r) events.wrcfgb (dcc r c) events.measurement events.wrpwm (ltb phase (duty r c))

  pub on-by_4_or_1 : (output_of events phase r c).on ≡ true → ((output_of events phase r c).row ≡ 4) ⊎ ((output_of events phase r c).row ≡ 1)
  unfolding output_of decided table27
  on-by_4_or_1 = only_4_or_1 events.shutdown (muted r) events.wrcfgb (dcc r c) events.measurement events.wrpwm (ltb phase (duty r c))

-- ---- none on

off_7 : (a b c d e f x : Bool) → a ≡ true → (chosen a b c d e f x).on ≡ false
off_7 true b c d e f x h = refl
off_7 false b c d e f x h = absurd (false≢true h)

off_6 : (a b c d e f x : Bool) → b ≡ true → (chosen a b c d e f x).on ≡ false
off_6 true b c d e f x h = refl
off_6 false true c d e f x h = refl
off_6 false false c d e f x h = absurd (false≢true h)

off_5 : (a b c d e f x : Bool) → c ≡ true → (chosen a b c d e f x).on ≡ false
off_5 true b c d e f x h = refl
off_5 false true c d e f x h = refl
off_5 false false true d e f x h = refl
off_5 false false false d e f x h = absurd (false≢true h)

module _ (events : Events) (phase : ℕ) (r : List ℕ) (c : ℕ) where
  pub shutdown_off : events.shutdown ≡ true → (output_of events phase r c).on ≡ false
  unfolding output_of decided table27
  shutdown_off = off_7 events.shutdown (muted r) events.wrcfgb (dcc r c) events.measurement events.wrpwm (ltb phase (duty r c))

  pub mute_off : muted r ≡ true → (output_of events phase r c).on ≡ false
  unfolding output_of decided table27
  mute_off = off_6 events.shutdown (muted r) events.wrcfgb (dcc r c) events.measurement events.wrpwm (ltb phase (duty r c))

  pub wrcfgb_off : events.wrcfgb ≡ true → (output_of events phase r c).on ≡ false
  unfolding output_of decided table27
  wrcfgb_off = off_5 events.shutdown (muted r) events.wrcfgb (dcc r c) events.measurement events.wrpwm (ltb phase (duty r c))

-- ---- DCC goes through: whatever is measured, whatever PWM group is written, whatever the phase and the duty

module _ (events : Events) (phase : ℕ) (r : List ℕ) (c : ℕ) where
  pub dcc-on : events.shutdown ≡ false → muted r ≡ false → events.wrcfgb ≡ false → dcc r c ≡ true → output_of events phase r c ≡ output 4 true
  dcc-on s m w d = past_7 events phase r c s ∙ past_6 events phase r c m ∙ past_5 events phase r c w ∙ by_4 events phase r c d

-- ---- what a record holds of it

pub by_switches : (events : Events) (phase : ℕ) (r s : List ℕ) (c : ℕ) → muted r ≡ muted s → dcc r c ≡ dcc s c → duty r c ≡ duty s c
    → output_of events phase r c ≡ output_of events phase s c
unfolding output_of decided table27
by_switches events phase r s c m d p =
    ap₂ (λ (b t : Bool). chosen events.shutdown b events.wrcfgb t events.measurement events.wrpwm (ltb phase (duty r c))) m d
    ∙ ap (λ (n : ℕ). chosen events.shutdown (muted s) events.wrcfgb (dcc s c) events.measurement events.wrpwm (ltb phase n)) p

-- ---- the fifteen phases

-- of n numbers in a row from i on, those below d
below_among : (d i n : ℕ) → count (λ p. ltb p d) (tabulate (λ p. p) i n) ≡ min n (d - i)
unfolding count tabulate
below_among d i zero = omega arith
below_among d i (suc n) = ap (λ (m : ℕ). cond (ltb i d) 1 0 + m) (below_among d (suc i) n) ∙ by (ltb i d) refl
  where
    by : (b : Bool) → ltb i d ≡ b → cond b 1 0 + min n (d - suc i) ≡ min (suc n) (d - i)
    by true e = let h = ltb-true i d e in omega arith
    by false e = let h = ltb-false i d e in omega arith

count_alike : (f g : ℕ → Bool) → ((p : ℕ) → f p ≡ g p) → (ps : List ℕ) → count f ps ≡ count g ps
unfolding count
count_alike f g h [] = refl
count_alike f g h (p ∷ ps) = ap₂ (λ (b : Bool) (n : ℕ). cond b 1 0 + n) (h p) (count_alike f g h ps)

duty-below : (r : List ℕ) (c : ℕ) → duty r c < 16
unfolding duty
duty-below r c = by (odd c)
  where
    by : (b : Bool) → cond b (duty_byte r c % 16) (duty_byte r c / 16 % 16) < 16
    by true = mod-lt (duty_byte r c) (omega arith)
    by false = mod-lt (duty_byte r c / 16) (omega arith)

-- the phase decides only where row 1 does: no other row goes by it
phase_alone : (events : Events) (phase p : ℕ) (r : List ℕ) (c : ℕ) → (output_of events phase r c).row ≡ 1 → (output_of events p r c).on ≡ ltb p (duty r c)
unfolding output_of decided table27
phase_alone events phase p r c =
    by-row_1 events.shutdown (muted r) events.wrcfgb (dcc r c) events.measurement events.wrpwm (ltb phase (duty r c)) (ltb p (duty r c))

pub on_for_its-duty : (events : Events) (phase : ℕ) (r : List ℕ) (c : ℕ) → (output_of events phase r c).row ≡ 1
    → count (λ p. (output_of events p r c).on) phases ≡ duty r c
unfolding phases
on_for_its-duty events phase r c e =
    count_alike (λ p. (output_of events p r c).on) (λ p. ltb p (duty r c)) (λ p. phase_alone events phase p r c e) phases
    ∙ below_among (duty r c) 0 15
    ∙ omega (arith, duty-below r c)
