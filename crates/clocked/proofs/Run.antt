-- A frame clocked a byte at a time: the clock after it, and the bytes that came back. The first four bytes are gone through one by
-- one; the later ones by recursion, for any clock that has its four.
-- Assumes nothing.
use mathlib.Core.Path.{◌≡◌, refl, ap, ap₂, ◌∙◌}
use mathlib.Core.Bool.{Bool, cond}
use mathlib.Core.List.{List, [], ◌∷◌, ◌++◌}
use Prim.Native.Nat.{ℕ, suc, ◌+◌, ◌≤◌, ◌<◌, min}
use native.Mathlib.Decide.{dec_lt}
use native.Mathlib.Omega.{arith}
use lib.Dec.{ltb, lit≤}
use lib.ListN.{length, take, drop, replicate}
use borrow.Author.Tests.{lt-ltb, le-ltb, ne_eqb}
use Rattle.wire.specs.Windows.{enter_all, left, drawn}
use Rattle.records.specs.declared.commands.Command.{Command}
use Rattle.clock_state.specs.declared.state.Kind.{Kind}
use Rattle.clock_state.specs.declared.state.Kind.TheVariants.{Fills, Drains, Still}
use Rattle.clocking.specs.Clock.{Clock, start, far, known, kind_of, filled_for, chained_by, fourth, early, most_seen, one_more, moved, later, clocked, leaving, answered}
use Rattle.clocked.specs.Frames.{clocked_all, answered_all}

-- a byte comes back for each that was clocked
pub length-answered_all : (table frame : List ℕ) (c : Clock) → length (answered_all table frame c) ≡ length frame
unfolding answered_all
length-answered_all table [] c = refl
length-answered_all table (byte ∷ frame) c = ap suc (length-answered_all table frame (clocked table byte c))

-- ---- a frame under four bytes

-- all its bytes are counted
pub seen_short : (table frame : List ℕ) → length frame < 4 → (clocked_all table frame start).seen ≡ length frame
unfolding clocked_all clocked early start
seen_short table [] h = refl
seen_short table (a ∷ []) h = refl
seen_short table (a ∷ b ∷ []) h = refl
seen_short table (a ∷ b ∷ c ∷ []) h = refl
seen_short table (a ∷ b ∷ c ∷ d ∷ bytes) h = absurd (omega arith)

-- nothing but `far` comes back
pub back_short : (table frame : List ℕ) → length frame < 4 → answered_all table frame start ≡ replicate (length frame) far
unfolding answered_all answered clocked early start
back_short table [] h = refl
back_short table (a ∷ []) h = refl
back_short table (a ∷ b ∷ []) h = refl
back_short table (a ∷ b ∷ c ∷ []) h = refl
back_short table (a ∷ b ∷ c ∷ d ∷ bytes) h = absurd (omega arith)

-- ---- a later byte

-- one more, counted up to `most_seen`
one_more_lem : (k : ℕ) → k ≤ most_seen → one_more k ≡ min (k + 1) most_seen
unfolding one_more
one_more_lem k h = by (dec_lt k most_seen)
  where
    by : Dec (k < most_seen) → cond (ltb k most_seen) (k + 1) k ≡ min (k + 1) most_seen
    by (yes l) = ap (λ (b : Bool). cond b (k + 1) k) (lt-ltb k most_seen l) ∙ omega arith
    by (no l) = ap (λ (b : Bool). cond b (k + 1) k) (le-ltb k most_seen (omega arith)) ∙ omega arith

-- a clock that has its four bytes
record Late (c : Clock) : Type 0 where
  four : 4 ≤ c.seen
  most : c.seen ≤ most_seen

module _ (table : List ℕ) (byte : ℕ) (c : Clock) (l : Late c) where
  -- the next byte is a later one
  late : clocked table byte c ≡ later byte c
  unfolding clocked
  late =
      ap₂ (λ (x y : Bool). cond x (early byte c) (cond y (fourth table byte c) (later byte c)))
      (le-ltb c.seen 3 (omega arith)) (ne_eqb c.seen 3 (λ e. omega arith))

  -- it is counted
  seen-late : (later byte c).seen ≡ min (c.seen + 1) most_seen
  unfolding later
  seen-late = one_more_lem c.seen l.most

  -- the clock still has its four
  stays_late : Late (later byte c)
  stays_late = record { four = omega (arith, seen-late); most = omega (arith, seen-late) }

  -- what leaves monitor 1 comes back
  answered-late : answered c ≡ leaving c.kind c.windows
  unfolding answered
  answered-late = ap (λ (b : Bool). cond b far (leaving c.kind c.windows)) (le-ltb c.seen 4 l.four)

-- ---- all the later bytes

-- what they make of the windows
abbrev pub moved_all : Kind → List ℕ → List (List ℕ) → List (List ℕ)
moved_all (Fills w) bytes windows = enter_all w bytes windows
moved_all Drains bytes windows = drawn far (length bytes) windows
moved_all Still bytes windows = windows

-- what comes back for k of them
abbrev pub leaving_all : Kind → ℕ → List (List ℕ) → List ℕ
leaving_all (Fills w) k windows = replicate k far
leaving_all Drains k windows = left far k windows
leaving_all Still k windows = replicate k far

-- none of them leaves the windows as they are
moved_none : (kind : Kind) (windows : List (List ℕ)) → windows ≡ moved_all kind [] windows
unfolding enter_all drawn
moved_none (Fills w) windows = refl
moved_none Drains windows = refl
moved_none Still windows = refl

-- the first of them, and then the others
moved_more : (kind : Kind) (byte : ℕ) (bytes : List ℕ) (windows : List (List ℕ))
    → moved_all kind bytes (moved kind byte windows) ≡ moved_all kind (byte ∷ bytes) windows
unfolding moved enter_all drawn
moved_more (Fills w) byte bytes windows = refl
moved_more Drains byte bytes windows = refl
moved_more Still byte bytes windows = refl

-- for none of them nothing comes back
leaving-none : (kind : Kind) (windows : List (List ℕ)) → [] ≡ leaving_all kind 0 windows
unfolding left
leaving-none (Fills w) windows = refl
leaving-none Drains windows = refl
leaving-none Still windows = refl

-- what comes back for the first of them, and then for the others
leaving_more : (kind : Kind) (byte k : ℕ) (windows : List (List ℕ))
    → leaving kind windows ∷ leaving_all kind k (moved kind byte windows) ≡ leaving_all kind (suc k) windows
unfolding moved leaving left
leaving_more (Fills w) byte k windows = refl
leaving_more Drains byte k windows = refl
leaving_more Still byte k windows = refl

-- the clock after them
abbrev later_all : List ℕ → Clock → Clock
later_all bytes c = record { seen = min (c.seen + length bytes) most_seen; head = c.head; chained = c.chained; kind = c.kind; windows = moved_all c.kind bytes c.windows }

-- so it is
run_later : (table bytes : List ℕ) (c : Clock) → Late c → clocked_all table bytes c ≡ later_all bytes c
unfolding clocked_all later
run_later table [] c l = same
  where
    count : c.seen ≡ min (c.seen + 0) most_seen
    count = omega (arith, l.most)

    same : c ≡ later_all [] c
    same i = record { seen = count i; head = c.head; chained = c.chained; kind = c.kind; windows = moved_none c.kind c.windows i }
run_later table (byte ∷ bytes) c l =
    ap (clocked_all table bytes) (late table byte c l) ∙ run_later table bytes (later byte c) (stays_late table byte c l) ∙ same
  where
    count : min ((later byte c).seen + length bytes) most_seen ≡ min (c.seen + suc (length bytes)) most_seen
    count = omega (arith, seen-late table byte c l)

    same : later_all bytes (later byte c) ≡ later_all (byte ∷ bytes) c
    same i = record { seen = count i; head = c.head; chained = c.chained; kind = c.kind; windows = moved_more c.kind byte bytes c.windows i }

-- and what came back for them
back_later : (table bytes : List ℕ) (c : Clock) → Late c → answered_all table bytes c ≡ leaving_all c.kind (length bytes) c.windows
unfolding answered_all later
back_later table [] c l = leaving-none c.kind c.windows
back_later table (byte ∷ bytes) c l =
    ap₂ ◌∷◌ (answered-late table byte c l)
    (ap (answered_all table bytes) (late table byte c l) ∙ back_later table bytes (later byte c) (stays_late table byte c l))
    ∙ leaving_more c.kind byte (length bytes) c.windows

-- ---- a frame of four bytes and more

-- the clock after byte four
abbrev after_four : List ℕ → List ℕ → Clock
after_four table four =
    let command = known table four in
    record { seen = 4; head = four; chained = chained_by table; kind = kind_of command; windows = filled_for command (chained_by table) table }

-- it has its four
four-late : (table four : List ℕ) → Late (after_four table four)
four-late table four = record { four = lit≤ tt; most = lit≤ tt }

module _ (table frame : List ℕ) where
  -- by the command that is known and N: the windows after the frame
  abbrev pub windows_for : Command → ℕ → List (List ℕ)
  windows_for command n = moved_all (kind_of command) (drop 4 frame) (filled_for command n table)

  -- and what came back after byte four
  abbrev pub came_for : Command → ℕ → List ℕ
  came_for command n = leaving_all (kind_of command) (length (drop 4 frame)) (filled_for command n table)

  -- the clock after the frame
  abbrev pub ran : Clock
  ran =
      let command = known table (take 4 frame) in
      record {
        seen = min (length frame) most_seen;
        head = take 4 frame;
        chained = chained_by table;
        kind = kind_of command;
        windows = windows_for command (chained_by table);
      }

-- so it is
pub run : (table frame : List ℕ) → 4 ≤ length frame → clocked_all table frame start ≡ ran table frame
unfolding clocked_all clocked early fourth start
run table [] h = absurd (omega arith)
run table (a ∷ []) h = absurd (omega arith)
run table (a ∷ b ∷ []) h = absurd (omega arith)
run table (a ∷ b ∷ c ∷ []) h = absurd (omega arith)
run table (a ∷ b ∷ c ∷ d ∷ bytes) h = run_later table bytes now (four-late table (a ∷ b ∷ c ∷ d ∷ [])) ∙ same
  where
    now : Clock
    now = after_four table (a ∷ b ∷ c ∷ d ∷ [])

    count : min (4 + length bytes) most_seen ≡ min (length (a ∷ b ∷ c ∷ d ∷ bytes)) most_seen
    count = omega arith

    same : later_all bytes now ≡ ran table (a ∷ b ∷ c ∷ d ∷ bytes)
    same i = record { seen = count i; head = now.head; chained = now.chained; kind = now.kind; windows = moved_all now.kind bytes now.windows }

-- and what came back
pub back : (table frame : List ℕ) → 4 ≤ length frame
    → answered_all table frame start ≡ replicate 4 far ++ came_for table frame (known table (take 4 frame)) (chained_by table)
unfolding answered_all answered clocked early fourth start
back table [] h = absurd (omega arith)
back table (a ∷ []) h = absurd (omega arith)
back table (a ∷ b ∷ []) h = absurd (omega arith)
back table (a ∷ b ∷ c ∷ []) h = absurd (omega arith)
back table (a ∷ b ∷ c ∷ d ∷ bytes) h =
    ap (λ (rest : List ℕ). replicate 4 far ++ rest) (back_later table bytes (after_four table (a ∷ b ∷ c ∷ d ∷ [])) (four-late table (a ∷ b ∷ c ∷ d ∷ [])))
