-- Document 02, L8, (c): a message that is struck on a hop comes to nothing behind it. Through monitors that send on a right message stays right; struck it is
-- right no more, the next monitor ignores it, and nothing behind it hears anything. Struck on its way out of the chain it is damaged in the host's eyes.
-- Assumes nothing.
use mathlib.Core.Path.{◌≡◌, ap, ap₂, ◌∙◌}
use mathlib.Core.Bool.{Bool, true, false, cond, not, ◌&&◌}
use mathlib.Core.List.{List, []}
use mathlib.Core.Logic.{inl, inr}
use Prim.Native.Nat.{ℕ, zero, suc, ◌+◌, ◌*◌, ◌≤◌, ◌<◌}
use native.Mathlib.Omega.{arith}
use lib.ListN.{length, take, drop}
use Rattle.laws.specs.Tables.{tabulate}
use Rattle.laws.proofs.Tables.{take-table, drop-table}
use Rattle.laws.proofs.Tests.{both_first, both_second}
use Rattle.records.specs.Record.{record_size, in_lpcm}
use Rattle.judging.specs.Table.{monitors}
use Rattle.judging.proofs.Soundness.{is_sound}
use Rattle.messages.specs.declared.verdicts.Verdict.TheVariants.{Damaged}
use Rattle.messages.specs.Messages.{count_in, flags_in, message_right}
use Rattle.messages.specs.Verdicts.{verdict}
use Rattle.messages.proofs.Sent.{message-right}
use Rattle.messages.proofs.Struck.{message_hit_command, message_hit_data, damaged_by-command, damaged_by_data}
use Rattle.heartbeats.specs.declared.steps.Beat.{Beat}
use Rattle.heartbeats.specs.Steps.{manages, is_manager, is_timeout, ndev, counted_down, joined_to, wakes, hears, answers}
use Rattle.passing.specs.Hops.{bytes_sent, wake_sends, wake_leaves, hop_sends, hop_leaves, hops, behind, way, way_from, sent_along, left_along, beat_sends}
use Rattle.guarding.specs.Chains.{at, sends_on, Guarded, Struck}
use Rattle.passing.proofs.Silent.{wrong_along, behind_within}
use Rattle.guarding.proofs.Ways.{behind_past, woken-whole, ahead_woken, hop_whole, ahead_hop}
use Rattle.std.specs.Prelude.{Option, None, Ok}
use Rattle.heartbeats.specs.Steps.{sends}

-- ---- a right message that is struck

not_right : (sent came : List ℕ) → message_right sent ≡ true → Struck sent came → message_right came ≡ false
not_right sent came right (long, inl s) = message_hit_data sent came right s
not_right sent came right (long, inr s) = message_hit_command sent came right s

damaged : (sent came : List ℕ) → message_right sent ≡ true → Struck sent came → verdict came false ≡ Ok Damaged
damaged sent came right (long, inl s) = damaged_by_data sent came right s
damaged sent came right (long, inr s) = damaged_by-command sent came right s long

-- ---- what is sent is right

pub sends-on : (m r : List ℕ) → sends_on r ≡ true → message_right m ≡ true → answers m r ≡ sends (counted_down r (count_in m)) (joined_to r (flags_in m))
unfolding sends_on answers hears
sends-on m r on right =
    let ready = both_first (in_lpcm r && not (manages r)) (not (is_timeout r)) on in
    let no_end = both_second (in_lpcm r && not (manages r)) (not (is_timeout r)) on in
    ap₂ (λ (a b : Bool). cond (a && b) (sends (counted_down r (count_in m)) (joined_to r (flags_in m))) None) (ap₂ ◌&&◌ ready right) no_end

sent_right : {b : Option Beat} (count flags : ℕ) → b ≡ sends count flags → message_right (bytes_sent b) ≡ true
sent_right count flags e = ap (λ (b : Option Beat). message_right (bytes_sent b)) e ∙ message-right count flags

pub wake_right : (k : ℕ) (table : List ℕ) → is_manager (at k table) ≡ true → message_right (wake_sends k table) ≡ true
unfolding wake_sends wakes
wake_right k table e =
    let r = at k table in
    sent_right (counted_down r (ndev r)) (joined_to r 0) (ap (λ (b : Bool). cond b (sends (counted_down r (ndev r)) (joined_to r 0)) None) e)

pub hop_right : (k : ℕ) (bytes table : List ℕ) → sends_on (at k table) ≡ true → message_right bytes ≡ true → message_right (hop_sends k bytes table) ≡ true
unfolding hop_sends
hop_right k bytes table on right =
    let r = at k table in
    sent_right (counted_down r (count_in bytes)) (joined_to r (flags_in bytes)) (sends-on bytes r on right)

-- ---- and stays right along a way through monitors that send on

module _ (toA : Bool) (n k : ℕ) (there : k < n) where
  right-along : (m i : ℕ) → i + m ≤ hops toA n k → (bytes table : List ℕ) → length table ≡ n * record_size
      → ((j : ℕ) → i ≤ j → j < i + m → sends_on (at (behind toA k j) table) ≡ true) → message_right bytes ≡ true
      → message_right (sent_along (tabulate (behind toA k) i m) bytes table) ≡ true
  unfolding tabulate sent_along
  right-along zero i l bytes table whole on right = right
  right-along (suc m) i l bytes table whole on right =
      let within : i < hops toA n k = omega arith in
      right-along m (suc i) (omega arith) (hop_sends (behind toA k i) bytes table) (hop_leaves (behind toA k i) bytes table)
      (hop_whole toA n k there table whole i within bytes)
      (λ j a b. ap sends_on (ahead_hop toA n k there table whole i within bytes j (omega arith) (omega arith)) ∙ on j (omega arith) (omega arith))
      (hop_right (behind toA k i) bytes table (on i (omega arith) (omega arith)) right)

-- ---- a guarded chain

module _ (toA : Bool) (k : ℕ) (table : List ℕ) (g : Guarded toA k table) where
  pub its-way : way_from k table ≡ tabulate (behind toA k) 0 (hops toA (monitors table) k)
  unfolding way
  its-way = ap (λ (d : Bool). way d (monitors table) k) g.direction

  -- what is on its way behind h hops is right
  so_far-right : (ks : List ℕ) (h : ℕ) → h ≤ hops toA (monitors table) k → ks ≡ tabulate (behind toA k) 0 h
      → message_right (sent_along ks (wake_sends k table) (wake_leaves k table)) ≡ true
  so_far-right ks h l e =
      let n = monitors table in
      let whole = (is_sound table g.its-sound).whole in
      ap (λ (js : List ℕ). message_right (sent_along js (wake_sends k table) (wake_leaves k table))) e
      ∙ right-along toA n k g.there h 0 (omega arith) (wake_sends k table) (wake_leaves k table) (woken-whole toA n k g.there table whole)
      (λ j a b.
      let within : j < hops toA n k = omega arith in
      ap sends_on (ahead_woken toA n k g.there table whole j within)
      ∙ g.others (behind toA k j) (behind_within toA n k j g.there within) (behind_past toA n k j g.there within))
      (wake_right k table g.manager)

  pub struck_hop : (h : ℕ) → h < hops toA (monitors table) k → (came : List ℕ)
      → Struck (sent_along (take h (way_from k table)) (wake_sends k table) (wake_leaves k table)) came
      → let t = left_along (take h (way_from k table)) (wake_sends k table) (wake_leaves k table) in
      (sent_along (drop h (way_from k table)) came t ≡ []) × (left_along (drop h (way_from k table)) came t ≡ t)
  struck_hop h l came struck =
      let t = left_along (take h (way_from k table)) (wake_sends k table) (wake_leaves k table) in
      let m = hops toA (monitors table) k in
      let right = so_far-right (take h (way_from k table)) h (omega arith) (ap (take h) its-way ∙ take-table (behind toA k) h 0 m (omega arith)) in
      let after = ap (drop h) its-way ∙ drop-table (behind toA k) h 0 m l in
      let rest = wrong_along _ _ came t (not_right _ came right struck) in
      (ap (λ (ks : List ℕ). sent_along ks came t) after ∙ rest.0, ap (λ (ks : List ℕ). left_along ks came t) after ∙ rest.1)

  -- on the last hop, to the host, which judges what comes in time
  pub struck_last : (came : List ℕ) → Struck (beat_sends k table) came → verdict came false ≡ Ok Damaged
  unfolding beat_sends
  struck_last came struck =
      damaged (beat_sends k table) came (so_far-right (way_from k table) (hops toA (monitors table) k) (omega arith) its-way) struck
