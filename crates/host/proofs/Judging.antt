-- Judging a request for a frame: down the list of its refusals to the first that holds, and back up it to what is known of a
-- request that is accepted. What comes of building goes by the judgement.
-- Assumes nothing.
use mathlib.Core.Path.{◌≡◌, refl, sym}
use mathlib.Core.Bool.{Bool, true, false, ◌&&◌}
use mathlib.Core.List.{List, ◌++◌}
use Prim.Native.Nat.{ℕ, ◌≤◌}
use native.Mathlib.Omega.{arith}
use lib.Dec.{eqb, leb, ltb}
use lib.ListN.{length, drop}
use borrow.Author.Tests.{not-false, eqb-true, eq-eqb, leb-true, ltb-false, le-ltb, le-leb}
use Rattle.laws.proofs.Tests.{both_first, both_second}
use Rattle.refusals.specs.declared.Refusal.{Refusal}
use Rattle.refusals.specs.declared.Refusal.TheVariants.{CodeNotListed, NoRoom, PositionWrong, CountWrong}
use Rattle.refusals.specs.Order.{decide, Passed}
use Rattle.refusals.proofs.Deciding.{decide-map, passes, has_passed}
use Rattle.records.specs.declared.commands.Command.{Command}
use Rattle.records.specs.Commands.{commands, command_of, is_listed, most_monitors, frame_length}
use Rattle.host.specs.Frames.{value_count, frame_for, request_refusals, judged, build_refusals, built, buffer_after}
use Rattle.std.specs.Prelude.{Result, Ok, Err}

-- as many monitors as a chain can have
pub chain-test : (n : ℕ) → leb 1 n && leb n most_monitors ≡ true → (1 ≤ n) × (n ≤ most_monitors)
chain-test n h =
    (leb-true 1 n (both_first (leb 1 n) (leb n most_monitors) h), leb-true n most_monitors (both_second (leb 1 n) (leb n most_monitors) h))

-- what a command, n monitors, so many value bytes and a buffer's room must have
pub record Buildable (command : Command) (n given room : ℕ) : Type 0 where
  pub listed : is_listed command ≡ true
  pub first : 1 ≤ n
  pub most : n ≤ most_monitors
  pub count : given ≡ value_count command n
  pub fits : frame_length command n ≤ room

-- what is made of each judgement
abbrev pub by_judgement : {R : Type 0} → (Refusal → R) → (ℕ → R) → Result ℕ Refusal → R
by_judgement refused accepted (Err r) = refused r
by_judgement refused accepted (Ok l) = accepted l

module _ (command : Command) (n given room : ℕ) where
  abbrev chain_test : Bool
  chain_test = leb 1 n && leb n most_monitors

  abbrev count_test : Bool
  count_test = eqb given (value_count command n)

  abbrev room_test : Bool
  room_test = ltb room (frame_length command n)

  -- ---- down the list

  pub not_listed : is_listed command ≡ false → judged command n given room ≡ Err CodeNotListed
  unfolding judged decide
  not_listed l = simp l

  pub no_chain : is_listed command ≡ true → chain_test ≡ false → judged command n given room ≡ Err PositionWrong
  unfolding judged decide
  no_chain l c = simp (l, c)

  pub count_wrong : is_listed command ≡ true → chain_test ≡ true → count_test ≡ false → judged command n given room ≡ Err CountWrong
  unfolding judged decide
  count_wrong l c v = simp (l, c, v)

  pub no_room : is_listed command ≡ true → chain_test ≡ true → count_test ≡ true → room_test ≡ true → judged command n given room ≡ Err NoRoom
  unfolding judged decide
  no_room l c v r = simp (l, c, v, r)

  pub is_accepted : is_listed command ≡ true → chain_test ≡ true → count_test ≡ true → room_test ≡ false
      → judged command n given room ≡ Ok (frame_length command n)
  unfolding judged decide
  is_accepted l c v r = simp (l, c, v, r)

  pub buildable_accepted : Buildable command n given room → judged command n given room ≡ Ok (frame_length command n)
  buildable_accepted b =
      is_accepted b.listed (simp (le-leb 1 n b.first, le-leb n most_monitors b.most))
      (eq-eqb given (value_count command n) b.count)
      (le-ltb room (frame_length command n) b.fits)

  -- ---- back up the list

  -- no refusal held
  passed : {l : ℕ} → judged command n given room ≡ Ok l → Passed (request_refusals command n given room)
  unfolding judged
  passed {l} e = has_passed (request_refusals command n given room) Err (Ok (frame_length command n)) (Ok l) apart e
    where
      apart : (r : Refusal) → Ok l ≡ Err r → ⊥
      apart r e = let z : ◌≡◌ {A = ℕ} 0 1 = cc in omega arith

  -- the length is the frame's
  pub accepted-length : {l : ℕ} → judged command n given room ≡ Ok l → l ≡ frame_length command n
  unfolding judged
  accepted-length e =
      let whole : judged command n given room ≡ Ok (frame_length command n) = passes (request_refusals command n given room) Err (Ok (frame_length command n)) (passed e) in
      cc

  pub accepted_buildable : {l : ℕ} → judged command n given room ≡ Ok l → Buildable command n given room
  accepted_buildable e =
      let p = passed e in
      let chain = chain-test n (not-false chain_test p.1.0) in
      record {
        listed = not-false (is_listed command) p.0;
        first = chain.0;
        most = chain.1;
        count = eqb-true given (value_count command n) (not-false count_test p.1.1.0);
        fits = ltb-false room (frame_length command n) p.1.1.1.0;
      }

-- ---- what goes by the judgement

module _ (code n : ℕ) (values : List ℕ) where
  pub built-by : (room : ℕ) → built code n values room ≡ judged (command_of code commands) n (length values) room
  unfolding built build_refusals judged
  built-by room = refl

  pub after-by : (buffer : List ℕ) → buffer_after code n values buffer
      ≡ by_judgement (λ r. buffer) (λ l. frame_for code n values ++ drop l buffer) (judged (command_of code commands) n (length values) (length buffer))
  unfolding buffer_after build_refusals judged
  after-by buffer =
      sym (decide-map (by_judgement (λ r. buffer) (λ l. frame_for code n values ++ drop l buffer))
      (request_refusals (command_of code commands) n (length values) (length buffer)) Err (Ok (frame_length (command_of code commands) n)))
