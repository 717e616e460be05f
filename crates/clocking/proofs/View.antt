-- The bytes of a state stand for the clock: after any byte, with any table lent, they stand for what the clock then is. By the
-- byte's place in the frame: one of the first three, the fourth, or a later one. A state is taken apart into its first four bytes,
-- which are the count, the kind and N, and the rest: each part then reads what was stored in it, and no other part.
-- Assumes nothing.
use mathlib.Core.Path.{◌≡◌, refl, sym, ap, ap₂, ◌∙◌}
use mathlib.Core.Bool.{Bool, cond}
use mathlib.Core.List.{List, [], ◌∷◌, ◌++◌, append_assoc}
use Prim.Native.Nat.{ℕ, suc, ◌+◌, ◌-◌, ◌*◌, ◌≤◌, ◌<◌}
use native.Mathlib.Nat.{mod-add-div', mul_comm}
use native.Mathlib.Decide.{dec_lt}
use native.Mathlib.Omega.{arith}
use lib.Dec.{eqb}
use lib.ListN.{length, set, take, drop, length-append, length-drop, length-set}
use lib.Seq.{length-take-le, take_at, drop_at, take-set-lt, drop-set-lt}
use borrow.Author.Tests.{eq-eqb, ne_eqb, lt-ltb, le-ltb, le-leb}
use Rattle.wire.specs.Windows.{empty}
use Rattle.records.specs.declared.commands.Command.{Command}
use Rattle.judging.specs.Table.{monitors}
use Rattle.replying.specs.Replied.{replied}
use Rattle.clock_state.specs.declared.state.Kind.{Kind}
use Rattle.clock_state.specs.declared.state.Kind.TheVariants.{Fills, Drains, Still}
use Rattle.clocking.specs.Clock.{Clock, start, known, kind_of, filled_for, chained_by, fourth, early, one_more, moved, later, clocked, far}
use Rattle.clock_state.specs.State.{head_at, windows_at, state_size, seen_in, kind_in, chained_in, head_in, width_in, register_in, idle}
use Rattle.clock_state.proofs.Widths.{Wide, wide_in}
use Rattle.clocking.specs.Bytes.{windows_in, clock_of, counted, headed, noted, shifted, moved_on, taken_in, state_after}
use Rattle.clocking.proofs.Register.{chained-few, length-register, counts_on, windows-early, fills_moved, drains_moved}
use Rattle.clocking.proofs.Known.{chained_by-few, kind_back, filled_known}
use Rattle.clocking.proofs.Lengths.{length-taken_in}

-- ---- before a frame

-- a state of 0s stands for the start
pub view_idle : clock_of idle ≡ start
unfolding clock_of idle start seen_in kind_in chained_in head_in register_in windows_in empty
view_idle = refl

-- ---- the steps by the byte's place in the frame

module _ (table : List ℕ) (byte : ℕ) where
  -- ---- of the state

  module _ (s : List ℕ) where
    -- by the two tests that a state's byte is put to
    abbrev taken : Bool → Bool → List ℕ
    taken a b = cond a (cond b (noted table (headed byte s)) (headed byte s)) (moved_on (kind_in s) byte s)

    -- one of the first three bytes
    pub taken-early : seen_in s < 3 → taken_in table byte s ≡ headed byte s
    unfolding taken_in
    taken-early h = ap₂ taken (lt-ltb (seen_in s) 4 (omega arith)) (ne_eqb (seen_in s) 3 (λ e. omega arith))

    -- the fourth
    pub taken-fourth : seen_in s ≡ 3 → taken_in table byte s ≡ noted table (headed byte s)
    unfolding taken_in
    taken-fourth e = ap₂ taken (lt-ltb (seen_in s) 4 (omega arith)) (eq-eqb (seen_in s) 3 e)

    -- a later one
    pub taken-later : 4 ≤ seen_in s → taken_in table byte s ≡ moved_on (kind_in s) byte s
    unfolding taken_in
    taken-later h = ap (λ (a : Bool). taken a (eqb (seen_in s) 3)) (le-ltb (seen_in s) 4 h)

  -- ---- of the clock

  module _ (c : Clock) where
    -- by the two that a clock's is
    abbrev next : Bool → Bool → Clock
    next a b = cond a (early byte c) (cond b (fourth table byte c) (later byte c))

    -- one of the first three bytes
    pub clocked-early : c.seen < 3 → clocked table byte c ≡ early byte c
    unfolding clocked
    clocked-early h = ap (λ (a : Bool). next a (eqb c.seen 3)) (lt-ltb c.seen 3 h)

    -- the fourth
    pub clocked-fourth : c.seen ≡ 3 → clocked table byte c ≡ fourth table byte c
    unfolding clocked
    clocked-fourth e = ap₂ next (le-ltb c.seen 3 (omega arith)) (eq-eqb c.seen 3 e)

    -- a later one
    pub clocked-later : 4 ≤ c.seen → clocked table byte c ≡ later byte c
    unfolding clocked
    clocked-later h = ap₂ next (le-ltb c.seen 3 (omega arith)) (ne_eqb c.seen 3 (λ e. omega arith))

-- ---- the count

-- the clock that a state stands for, where so many bytes came
abbrev clock_at : ℕ → List ℕ → Clock
clock_at count s =
    let register = register_in (width_in (kind_in s)) (chained_in s) s in
    record { seen = count; head = head_in s; chained = chained_in s; kind = kind_in s; windows = windows_in (kind_in s) count (chained_in s) register }

-- the count's two bytes hold it, and are of no other part
clock-counted : (s : List ℕ) → length s ≡ state_size → clock_of (counted s) ≡ clock_at (one_more (seen_in s)) s
unfolding clock_of counted seen_in kind_in chained_in head_in register_in
clock-counted [] sized = absurd (omega arith)
clock-counted (low ∷ []) sized = absurd (omega arith)
clock-counted (low ∷ high ∷ rest) sized = ap (λ (count : ℕ). clock_at count (low ∷ high ∷ rest)) (mod-add-div' (one_more (seen_in (low ∷ high ∷ rest))) 256)

-- ---- the other parts

-- the clock after byte four, by the table that is lent with it
abbrev after_four : List ℕ → List ℕ → Clock
after_four table head =
    record { seen = 4; head = head; chained = chained_by table; kind = kind_of (known table head); windows = filled_for (known table head) (chained_by table) table }

module _ (low high kind chained : ℕ) where
  module _ (rest : List ℕ) (sized : length rest ≡ state_size - head_at) where
    abbrev state : List ℕ
    state = low ∷ high ∷ kind ∷ chained ∷ rest

    abbrev seen : ℕ
    seen = seen_in state

    abbrev n : ℕ
    n = chained_in state

    -- by a kind that the state has
    abbrev register : Kind → List ℕ
    register k = register_in (width_in k) n state

    -- it is of windows that can be
    wide : (k : Kind) → kind_in state ≡ k → Wide (width_in k)
    wide k e = rw e at (wide_in state)

    -- the register is whole
    whole : (k : Kind) → kind_in state ≡ k → length (register k) ≡ n * width_in k
    whole k e = length-register (width_in k) n state (wide k e) (chained-few state) (omega arith)

    -- and the head
    four : length (take 4 rest) ≡ 4
    four = length-take-le 4 rest (omega arith)

    -- the state with one of the first four bytes stored
    abbrev with_byte : ℕ → List ℕ
    with_byte byte = low ∷ high ∷ kind ∷ chained ∷ set rest seen byte

    -- it is what the definition says
    headed_is : (byte : ℕ) → headed byte state ≡ with_byte byte
    unfolding headed
    headed_is byte = ap (λ (k : ℕ). set state k byte) place
      where
        place : head_at + seen ≡ suc (suc (suc (suc seen)))
        place = omega arith

    -- one of the first three bytes: no other part changes
    clock-early : (byte : ℕ) → seen < 3 → clock_at (one_more seen) (with_byte byte) ≡ early byte (clock_of state)
    unfolding clock_of early head_in chained_in kind_in register_in
    clock-early byte h i =
        record { seen = one_more_lem i; head = take-set-lt 4 rest seen byte (omega arith) i; chained = n; kind = kind_in state; windows = windows i }
      where
        one_more_lem : one_more seen ≡ seen + 1
        one_more_lem = counts_on seen (omega arith)

        over : List ℕ → List (List ℕ)
        over places = windows_in (kind_in state) (one_more seen) n (take (width_in (kind_in state) * n) places)

        windows : over (drop 4 (set rest seen byte)) ≡ windows_in (kind_in state) seen n (register (kind_in state))
        windows =
            ap over (drop-set-lt 4 rest seen byte (omega arith))
            ∙ windows-early (kind_in state) (one_more seen) seen n (register (kind_in state)) (omega (arith, one_more_lem)) (omega arith)

    -- the fourth: each part reads what was stored
    clock-noted : (table : List ℕ) → clock_at 4 (noted table state) ≡ after_four table (head_in state)
    unfolding head_in chained_in kind_in register_in noted
    clock-noted table i =
        record { seen = 4; head = take_at (take 4 rest) places 4 four i; chained = count i; kind = kinds i; windows = windows i }
      where
        command : Command
        command = known table (head_in state)

        places : List ℕ
        places = replied command (monitors table) table (drop 4 rest)

        kinds : kind_in (noted table state) ≡ kind_of command
        kinds = kind_back command

        count : chained_in (noted table state) ≡ chained_by table
        count = ap (λ (b : Bool). cond b (chained_by table) 0) (le-leb _ _ (chained_by-few table))

        windows : (clock_at 4 (noted table state)).windows ≡ filled_for command (chained_by table) table
        windows =
            (λ j. windows_in (kinds j) 4 (count j) (take (width_in (kinds j) * count j) (drop_at (take 4 rest) places 4 four j)))
            ∙ filled_known table (head_in state) (drop 4 rest) (length-drop 4 rest ∙ omega arith)

    -- the clock of the state, but for the count and the windows
    abbrev with_windows : ℕ → List (List ℕ) → Clock
    with_windows count windows = record { seen = count; head = head_in state; chained = n; kind = kind_in state; windows = windows }

    -- a register that moved on by a byte, by the kind
    module _ (k : Kind) (its : kind_in state ≡ k) (byte count : ℕ) where
      abbrev moved_on_lem : List ℕ
      moved_on_lem = drop 1 (register k ++ byte ∷ [])

      clock-shifted : clock_at count (shifted (width_in k) byte state) ≡ with_windows count (windows_in k count n moved_on_lem)
      unfolding head_in chained_in kind_in register_in shifted
      clock-shifted =
          ap (λ (l : List ℕ). clock_at count (low ∷ high ∷ kind ∷ chained ∷ l)) (append_assoc (take 4 rest) moved_on_lem behind)
          ∙ (λ i. record { seen = count; head = take_at (take 4 rest) (moved_on_lem ++ behind) 4 four i; chained = n; kind = kind_in state; windows = windows_in (its i) count n (places i) })
        where
          behind : List ℕ
          behind = drop (windows_at + width_in k * n) state

          as_long : length moved_on_lem ≡ width_in k * n
          as_long = simp (length-drop, length-append) (omega (arith, whole k its, mul_comm n (width_in k)))

          places : take (width_in (kind_in state) * n) (drop 4 (take 4 rest ++ (moved_on_lem ++ behind))) ≡ moved_on_lem
          places =
              ap₂ (λ (j : Kind) (l : List ℕ). take (width_in j * n) l) its (drop_at (take 4 rest) (moved_on_lem ++ behind) 4 four)
              ∙ take_at moved_on_lem behind (width_in k * n) as_long

    -- a later byte, by the kind
    clock-moved : (k : Kind) (byte : ℕ) → kind_in state ≡ k → 4 ≤ seen
        → clock_at (one_more seen) (moved_on k byte state) ≡ with_windows (one_more seen) (moved k byte (windows_in k seen n (register k)))
    unfolding moved_on moved
    clock-moved (Fills w) byte e h =
        clock-shifted (Fills w) e byte (one_more seen)
        ∙ ap (with_windows (one_more seen)) (fills_moved w n (register (Fills w)) (wide (Fills w) e) (whole (Fills w) e) byte seen (chained-few state) h)
    clock-moved Drains byte e h =
        clock-shifted Drains e far (one_more seen)
        ∙ ap (with_windows (one_more seen)) (drains_moved n (register Drains) (whole Drains e) seen (one_more seen))
    clock-moved Still byte e h = ap (λ (k : Kind). with_windows (one_more seen) (windows_in k (one_more seen) n (register k))) e ∙ unfold windows_in in refl

    -- which leaves the count
    seen-moved : (k : Kind) (byte : ℕ) → seen_in (moved_on k byte state) ≡ seen
    unfolding moved_on shifted seen_in
    seen-moved (Fills w) byte = refl
    seen-moved Drains byte = refl
    seen-moved Still byte = refl

  -- ---- any byte

  module _ (table : List ℕ) (byte : ℕ) (rest : List ℕ) (sized : length rest ≡ state_size - head_at) where
    abbrev s : List ℕ
    s = state rest sized

    -- the count comes last
    after : {t : List ℕ} {c : Clock} → taken_in table byte s ≡ t → clock_at (one_more (seen_in t)) t ≡ c → clock_of (state_after table byte s) ≡ c
    unfolding state_after
    after e f =
        clock-counted (taken_in table byte s) (length-taken_in table byte s (omega arith))
        ∙ ap (λ (t : List ℕ). clock_at (one_more (seen_in t)) t) e
        ∙ f

    -- one of the first three bytes
    view_early : seen_in s < 3 → clock_of (state_after table byte s) ≡ clocked table byte (clock_of s)
    unfolding clock_of seen_in
    view_early h =
        after (taken-early table byte s h ∙ headed_is rest sized byte) (clock-early rest sized byte h)
        ∙ sym (clocked-early table byte (clock_of s) h)

    -- the fourth
    view_fourth : seen_in s ≡ 3 → clock_of (state_after table byte s) ≡ clocked table byte (clock_of s)
    unfolding clock_of seen_in noted head_in fourth
    view_fourth e =
        let four-now : one_more (seen_in s) ≡ 4 = counts_on (seen_in s) (omega arith) ∙ omega arith in
        after (taken-fourth table byte s e ∙ ap (noted table) (headed_is rest sized byte))
        (ap (λ (count : ℕ). clock_at count (noted table (with_byte rest sized byte))) four-now
        ∙ clock-noted (set rest (seen_in s) byte) (length-set rest (seen_in s) byte ∙ sized) table
        ∙ ap (after_four table) (take-set-lt 4 rest (seen_in s) byte (omega arith) ∙ ap (λ (k : ℕ). set (take 4 rest) k byte) e))
        ∙ sym (clocked-fourth table byte (clock_of s) e)

    -- a later one
    view_later : 4 ≤ seen_in s → clock_of (state_after table byte s) ≡ clocked table byte (clock_of s)
    unfolding clock_of later
    view_later h =
        after (taken-later table byte s h)
        (ap (λ (count : ℕ). clock_at (one_more count) (moved_on (kind_in s) byte s)) (seen-moved rest sized (kind_in s) byte)
        ∙ clock-moved rest sized (kind_in s) byte refl h)
        ∙ sym (clocked-later table byte (clock_of s) h)

    -- any, by where it comes
    view_state : Dec (seen_in s < 3) → Dec (seen_in s < 4) → clock_of (state_after table byte s) ≡ clocked table byte (clock_of s)
    view_state (yes h) d = view_early h
    view_state (no h) (yes l) = view_fourth (omega arith)
    view_state (no h) (no l) = view_later (omega arith)

-- the bytes after a byte stand for the clock after that byte
pub view : (table : List ℕ) (byte : ℕ) (s : List ℕ) → length s ≡ state_size → clock_of (state_after table byte s) ≡ clocked table byte (clock_of s)
view table byte [] sized = absurd (omega arith)
view table byte (low ∷ []) sized = absurd (omega arith)
view table byte (low ∷ high ∷ []) sized = absurd (omega arith)
view table byte (low ∷ high ∷ kind ∷ []) sized = absurd (omega arith)
view table byte (low ∷ high ∷ kind ∷ chained ∷ rest) sized =
    view_state low high kind chained table byte rest (omega arith) (dec_lt (seen_in (low ∷ high ∷ kind ∷ chained ∷ rest)) 3) (dec_lt (seen_in (low ∷ high ∷ kind ∷ chained ∷ rest)) 4)
