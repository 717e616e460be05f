-- A frame clocked a byte at a time is refused as the whole frame is. Where the table is not sound the first refusal holds for
-- both, and of a frame under four bytes the second; otherwise both have the same list of refusals, row by row.
-- Assumes nothing.
use mathlib.Core.Path.{◌≡◌, refl, sym, ap, ap₂, ◌∙◌}
use mathlib.Core.Bool.{Bool, true, false, not, ◌&&◌, ◌||◌, and-false, or-false}
use mathlib.Core.List.{List, [], ◌∷◌}
use Prim.Native.Nat.{ℕ, ◌+◌, ◌*◌, ◌≤◌, ◌<◌, min}
use native.Mathlib.Decide.{dec_lt}
use native.Mathlib.Omega.{arith}
use lib.Dec.{eqb, leb, ltb, lit<}
use lib.ListN.{length, take}
use lib.Seq.{get_or-take}
use borrow.Author.Tests.{lt-ltb, le-ltb, lt-leb, eq-eqb, ne_eqb}
use Rattle.pec.specs.Words.{word_at}
use Rattle.refusals.specs.declared.Refusal.{Refusal}
use Rattle.refusals.specs.declared.Refusal.TheVariants.{TableNotSound, FrameShort, CodeNotListed, LengthWrong}
use Rattle.refusals.specs.Order.{Row, ◌gives◌, decide, Passed}
use Rattle.refusals.proofs.Deciding.{holds_here, holds_not, passed_agree}
use Rattle.records.specs.declared.commands.Command.{Command}
use Rattle.records.specs.declared.commands.Command.TheVariants.{Reads, Writes, Bares, Unlisted}
use Rattle.records.specs.Commands.{commands, command_of, is_listed, most_monitors, frame_length}
use Rattle.judging.specs.Table.{monitors, sound}
use Rattle.judging.specs.Refusals.{command_in, command_row, room_row}
use Rattle.chain.specs.Frame.{frame_refusals}
use Rattle.judging.proofs.Soundness.{is_sound}
use Rattle.clocking.specs.Clock.{Clock, start, most_seen}
use Rattle.releasing.specs.Release.{another_count, another, release_refusals}
use Rattle.clocked.specs.Frames.{clocked_all, settle_refusals}
use Rattle.clocking.proofs.Register.{register-fits}
use Rattle.clocking.proofs.Known.{chained-sound, wide_of}
use Rattle.clocked.proofs.Run.{seen_short, run}

-- ---- what the two have in common

-- the first four bytes hold the command
pub command-head : (frame : List ℕ) → command_in (take 4 frame) ≡ command_in frame
unfolding command_in word_at
command-head frame =
    ap₂ (λ (high low : ℕ). command_of (high * 256 + low) commands) (get_or-take 4 frame 0 0 (lit< tt)) (get_or-take 4 frame 1 0 (lit< tt))

-- every frame that is accepted has less than the most bytes that are counted
below_most : (c : Command) (n : ℕ) → n ≤ most_monitors → frame_length c n < most_seen
below_most (Reads part) n h = omega arith
below_most (Writes c) n h = omega (arith, register-fits (wide_of (Writes c)) h)
below_most (Bares c) n h = omega arith
below_most Unlisted n h = omega arith

-- so the count tells its length
counted-length : (l n : ℕ) → n < most_seen → eqb (min l most_seen) n ≡ eqb l n
counted-length l n h = by (dec_lt l most_seen)
  where
    by : Dec (l < most_seen) → eqb (min l most_seen) n ≡ eqb l n
    by (yes below) =
        let all : min l most_seen ≡ l = omega arith in
        ap (λ (k : ℕ). eqb k n) all
    by (no past) = ne_eqb (min l most_seen) n (λ e. omega arith) ∙ sym (ne_eqb l n (λ e. omega arith))

module _ (table frame : List ℕ) where
  abbrev clock : Clock
  clock = clocked_all table frame start

  -- ---- the table is sound

  module _ (s : sound table ≡ true) where
    -- the release meets the table that the frame met
    same-table : Dec (length frame < 4) → another clock table ≡ false
    unfolding another_count
    same-table (yes h) = ap (λ (b : Bool). b && not (eqb clock.chained (monitors table))) (lt-leb 4 clock.seen (omega (arith, seen_short table frame h)))
    same-table (no h) =
        let its : clock.chained ≡ monitors table = ap (λ (c : Clock). c.chained) (run table frame (omega arith)) ∙ chained-sound table s in
        ap (λ (b : Bool). leb 4 clock.seen && not b) (eq-eqb clock.chained (monitors table) its) ∙ and-false (leb 4 clock.seen)

    first : Dec (length frame < 4) → not (sound table) || another clock table ≡ not (sound table)
    first d = ap (λ (b : Bool). not (sound table) || b) (same-table d) ∙ or-false (not (sound table))

    -- the refusals of a frame of four bytes and more
    same_rows : (room : ℕ) → (length frame < 4 → ⊥) → settle_refusals clock table room ≡ frame_refusals table frame room
    unfolding settle_refusals release_refusals frame_refusals
    same_rows room long = rows
      where
        after : (clocked_all table frame start).seen ≡ min (length frame) most_seen
        after = ap (λ (c : Clock). c.seen) (run table frame (omega arith))

        head : clock.head ≡ take 4 frame
        head = ap (λ (c : Clock). c.head) (run table frame (omega arith))

        command : command_in clock.head ≡ command_in frame
        command = ap command_in head ∙ command-head frame

        short : ltb clock.seen 4 ≡ ltb (length frame) 4
        short = le-ltb clock.seen 4 (omega (arith, after)) ∙ sym (le-ltb (length frame) 4 (omega arith))

        whole : eqb clock.seen (frame_length (command_in clock.head) (monitors table)) ≡ eqb (length frame) (frame_length (command_in frame) (monitors table))
        whole =
            ap₂ (λ (k : ℕ) (c : Command). eqb k (frame_length c (monitors table))) after command
            ∙ counted-length (length frame) (frame_length (command_in frame) (monitors table)) (below_most (command_in frame) (monitors table) (is_sound table s).few)

        rows : settle_refusals clock table room ≡ frame_refusals table frame room
        rows i =
            (first (no long) i gives TableNotSound)
            ∷ (short i gives FrameShort)
            ∷ command_row (head i)
            ∷ (not (is_listed (command i)) gives CodeNotListed)
            ∷ (not (whole i) gives LengthWrong)
            ∷ room_row room (command i) (monitors table)
            ∷ []

  -- ---- any table

  -- what comes of the clocked frame comes of the whole one, if the same comes of both where they are accepted
  pub same_outcome : {A : Type 0} (room : ℕ) (refused : Refusal → A) (a b : A) → (Passed (frame_refusals table frame room) → a ≡ b)
      → decide (settle_refusals clock table room) refused a ≡ decide (frame_refusals table frame room) refused b
  unfolding settle_refusals release_refusals frame_refusals
  same_outcome {A} room refused a b h = by (sound table) refl (dec_lt (length frame) 4)
    where
      by : (t : Bool) → sound table ≡ t → Dec (length frame < 4)
          → decide (settle_refusals clock table room) refused a ≡ decide (frame_refusals table frame room) refused b
      by false s d = holds_here _ _ refused a (ap (λ (t : Bool). not t || another clock table) s) ∙ sym (holds_here _ _ refused b (ap not s))
      by true s (yes short) =
          holds_not _ _ refused a (first s (yes short) ∙ ap not s)
          ∙ holds_here _ _ refused a (lt-ltb clock.seen 4 (omega (arith, seen_short table frame short)))
          ∙ sym (holds_not _ _ refused b (ap not s) ∙ holds_here _ _ refused b (lt-ltb (length frame) 4 short))
      by true s (no long) = ap (λ (rows : List Row). decide rows refused a) (same_rows s room long) ∙ passed_agree (frame_refusals table frame room) refused a b h
