-- A message along a way through monitors that send on: what comes of its count and its flags, and what it leaves of each monitor.
-- Assumes nothing.
use mathlib.Core.Path.{◌≡◌, refl, sym, ap, ap₂, ◌∙◌, subst⁻¹}
use mathlib.Core.Bool.{Bool, true, cond, not, ◌&&◌}
use mathlib.Core.List.{List, [], ◌∷◌, ◌++◌}
use Prim.Native.Nat.{ℕ, zero, suc, ◌+◌, ◌*◌, ◌≤◌, ◌<◌}
use native.Mathlib.Omega.{arith}
use lib.Bits.{bit_or, or_zero_r}
use lib.ListN.{length}
use borrow.Author.Tests.{not-true}
use Rattle.laws.specs.Counts.{count}
use Rattle.laws.specs.Tables.{tabulate}
use Rattle.laws.proofs.Rows.{row_fits}
use Rattle.laws.proofs.Tests.{both_first, both_second}
use Rattle.records.specs.Record.{record_size, cmf1, in_lpcm, on_bytes}
use Rattle.judging.proofs.Changed.{changed_record, other_record}
use Rattle.measuring.specs.Measuring.{measured}
use Rattle.messages.specs.Messages.{message, message_right}
use Rattle.messages.proofs.Sent.{message-right, message-count, message-flags}
use Rattle.heartbeats.specs.Steps.{manages, is_manager, is_timeout, ndev, counted_down, joined_to, woken, wakes, hears, judged, reached}
use Rattle.heartbeats.proofs.Kept.{length-woken, length-reached}
use Rattle.passing.specs.Hops.{bytes_sent, wake_sends, wake_leaves, hop_sends, hop_leaves, hops, behind, sent_along, left_along}
use Rattle.guarding.specs.Chains.{at, sends_on, passing, union, less}
use Rattle.passing.proofs.Silent.{behind_within}
use Rattle.guarding.proofs.Ways.{behind-apart, behind_past, woken-whole, ahead_woken, hop_whole, ahead_hop}
use Rattle.guarding.proofs.Struck.{sends-on, hop_right, wake_right}
use Rattle.guarding.proofs.Summed.{less_none, counted_byte, counted-first, joined-first}
use Rattle.guarding.proofs.MetAlong.{met}
use Rattle.std.specs.Prelude.{None}
use Rattle.heartbeats.specs.Steps.{sends}

-- ---- one monitor

hop_message : (k c f : ℕ) (table : List ℕ) → sends_on (at k table) ≡ true
    → hop_sends k (message c f) table ≡ message (counted_down (at k table) c) (joined_to (at k table) f)
unfolding hop_sends
hop_message k c f table on =
    let r = at k table in
    ap bytes_sent (sends-on (message c f) r on (message-right c f))
    ∙ ap₂ (λ (x y : ℕ). message (counted_down r x) (joined_to r y)) (message-count c f) (message-flags c f)

wake_message : (k : ℕ) (table : List ℕ) → is_manager (at k table) ≡ true
    → wake_sends k table ≡ message (counted_down (at k table) (ndev (at k table))) (joined_to (at k table) 0)
unfolding wake_sends wakes
wake_message k table e =
    let r = at k table in
    ap (λ (b : Bool). bytes_sent (cond b (sends (counted_down r (ndev r)) (joined_to r 0)) None)) e

measures : (m r : List ℕ) → sends_on r ≡ true → message_right m ≡ true → reached m r ≡ measured r
unfolding sends_on reached hears
measures m r on right =
    let ready = both_first (in_lpcm r && not (manages r)) (not (is_timeout r)) on in
    let no_end = both_second (in_lpcm r && not (manages r)) (not (is_timeout r)) on in
    ap₂ (λ (a b : Bool). cond a (cond b (on_bytes cmf1 (λ i old. judged m r old) (measured r)) (measured r)) r) (ap₂ ◌&&◌ ready right) (not-true (is_timeout r) no_end)

-- ---- a way in two parts

pub left_append : (ks js bytes table : List ℕ) → left_along (ks ++ js) bytes table ≡ left_along js (sent_along ks bytes table) (left_along ks bytes table)
unfolding sent_along left_along
left_append [] js bytes table = refl
left_append (k ∷ ks) js bytes table = left_append ks js (hop_sends k bytes table) (hop_leaves k bytes table)

-- ---- along a way of m monitors from hop i on

module _ (toA : Bool) (n k : ℕ) (there : k < n) where
  -- a monitor that is not on it stays
  pub left_beside : (m i : ℕ) → i + m ≤ hops toA n k → (bytes table : List ℕ) → length table ≡ n * record_size → (x : ℕ) → x < n
      → ((j : ℕ) → i ≤ j → j < i + m → x ≡ behind toA k j → ⊥) → at x (left_along (tabulate (behind toA k) i m) bytes table) ≡ at x table
  unfolding tabulate left_along hop_leaves
  left_beside zero i l bytes table whole x h beside = refl
  left_beside (suc m) i l bytes table whole x h beside =
      let within : i < hops toA n k = omega arith in
      left_beside m (suc i) (omega arith) (hop_sends (behind toA k i) bytes table) (hop_leaves (behind toA k i) bytes table)
      (hop_whole toA n k there table whole i within bytes) x h (λ j a b. beside j (omega arith) (omega arith))
      ∙ other_record (behind toA k i) (reached bytes) (λ r. length-reached r bytes) n table (behind_within toA n k i there within) whole x h
      (beside i (omega arith) (omega arith))

  module _ (start : List ℕ) where
    -- those on it are as they were at the start
    record Ahead (i m : ℕ) (table : List ℕ) : Type 0 where
      whole : length table ≡ n * record_size
      same : (j : ℕ) → i ≤ j → j < i + m → at (behind toA k j) table ≡ at (behind toA k j) start

    -- and they send on
    abbrev Open : ℕ → ℕ → Type 0
    Open i m = (j : ℕ) → i ≤ j → j < i + m → sends_on (at (behind toA k j) start) ≡ true

    ahead_next : (m i : ℕ) → i + suc m ≤ hops toA n k → (bytes table : List ℕ) → Ahead i (suc m) table
        → Ahead (suc i) m (hop_leaves (behind toA k i) bytes table)
    ahead_next m i l bytes table a =
        let within : i < hops toA n k = omega arith in
        record {
          whole = hop_whole toA n k there table a.whole i within bytes;
          same =
              λ j b c.
              ahead_hop toA n k there table a.whole i within bytes j (omega arith) (omega arith)
              ∙ a.same j (omega arith) (omega arith);
        }

    sent-along : (m i : ℕ) → i + m ≤ hops toA n k → (c f : ℕ) → c < 256 → (table : List ℕ) → Ahead i m table → Open i m
        → sent_along (tabulate (behind toA k) i m) (message c f) table
        ≡ message (less c (passing (met (behind toA k) i m start))) (bit_or f (union (met (behind toA k) i m start)))
    unfolding tabulate sent_along passing count union
    sent-along zero i l c f h table a on = ap₂ message (sym (less_none c h)) (sym (or_zero_r f))
    sent-along (suc m) i l c f h table a on =
        let p = behind toA k i in
        let r = at p start in
        let is-r = a.same i (omega arith) (omega arith) in
        let rest = met (behind toA k) (suc i) m start in
        let sent =
        hop_message p c f table (ap sends_on is-r ∙ on i (omega arith) (omega arith))
        ∙ ap (λ (q : List ℕ). message (counted_down q c) (joined_to q f)) is-r in
        ap (λ (bytes : List ℕ). sent_along (tabulate (behind toA k) (suc i) m) bytes (hop_leaves p (message c f) table)) sent
        ∙ sent-along m (suc i) (omega arith) (counted_down r c) (joined_to r f) (counted_byte r c h) (hop_leaves p (message c f) table)
        (ahead_next m i l (message c f) table a) (λ j b d. on j (omega arith) (omega arith))
        ∙ ap₂ message (counted-first r rest c) (joined-first r rest f)

    -- each on it is measured; that at hop j is d hops further on
    left-met : (d m i : ℕ) → i + m ≤ hops toA n k → (j : ℕ) → i + d ≡ j → d < m → (bytes table : List ℕ) → Ahead i m table → Open i m
        → message_right bytes ≡ true → at (behind toA k j) (left_along (tabulate (behind toA k) i m) bytes table) ≡ measured (at (behind toA k j) start)
    unfolding tabulate left_along hop_leaves
    left-met d zero i l j e b bytes table a on right = absurd (omega arith)
    left-met zero (suc m) i l j e b bytes table a on right =
        let here : j ≡ i = omega arith in
        let within : i < hops toA n k = omega arith in
        let p = behind toA k i in
        let is-r = a.same i (omega arith) (omega arith) in
        let after = hop_leaves p bytes table in
        let stands = behind_within toA n k i there within in
        subst⁻¹ (λ (x : ℕ). at (behind toA k x) (left_along (tabulate (behind toA k) (suc i) m) (hop_sends p bytes table) after) ≡ measured (at (behind toA k x) start)) here
        (left_beside m (suc i) (omega arith) (hop_sends p bytes table) after (hop_whole toA n k there table a.whole i within bytes) p stands
        (λ x y z apart. behind-apart toA n k i x there (omega arith) (omega arith) (sym apart))
        ∙ changed_record p (reached bytes) (λ r. length-reached r bytes) table (row_fits record_size stands (omega (arith, a.whole)))
        ∙ ap (reached bytes) is-r
        ∙ measures bytes (at p start) (on i (omega arith) (omega arith)) right)
    left-met (suc d) (suc m) i l j e b bytes table a on right =
        let p = behind toA k i in
        left-met d m (suc i) (omega arith) j (omega arith) (omega arith) (hop_sends p bytes table) (hop_leaves p bytes table)
        (ahead_next m i l bytes table a) (λ x y z. on x (omega arith) (omega arith))
        (hop_right p bytes table (ap sends_on (a.same i (omega arith) (omega arith)) ∙ on i (omega arith) (omega arith)) right)

    -- ---- from the manager on

    module _ (whole : length start ≡ n * record_size) (manager : is_manager (at k start) ≡ true) (m : ℕ) (l : m ≤ hops toA n k) (on : (j : ℕ) → j < m → sends_on (at (behind toA k j) start) ≡ true) where
      after_wake : Ahead 0 m (wake_leaves k start)
      after_wake =
          record {
            whole = woken-whole toA n k there start whole;
            same = λ j b c. ahead_woken toA n k there start whole j (omega arith);
          }

      pub sent_behind : ndev (at k start) < 256
          → sent_along (tabulate (behind toA k) 0 m) (wake_sends k start) (wake_leaves k start)
          ≡ message (less (ndev (at k start)) (passing (at k start ∷ met (behind toA k) 0 m start))) (union (at k start ∷ met (behind toA k) 0 m start))
      sent_behind h =
          let r = at k start in
          let rest = met (behind toA k) 0 m start in
          ap (λ (bytes : List ℕ). sent_along (tabulate (behind toA k) 0 m) bytes (wake_leaves k start)) (wake_message k start manager)
          ∙ sent-along m 0 (omega arith) (counted_down r (ndev r)) (joined_to r 0) (counted_byte r (ndev r) h) (wake_leaves k start) after_wake
          (λ j b c. on j (omega arith))
          ∙ ap₂ message (counted-first r rest (ndev r)) (joined-first r rest 0)

      pub measured-behind : (j : ℕ) → j < m
          → at (behind toA k j) (left_along (tabulate (behind toA k) 0 m) (wake_sends k start) (wake_leaves k start)) ≡ measured (at (behind toA k j) start)
      measured-behind j h =
          left-met j m 0 (omega arith) j (omega arith) h (wake_sends k start) (wake_leaves k start) after_wake (λ x b c. on x (omega arith))
          (wake_right k start manager)

      -- and the manager itself
      pub measured-first : at k (left_along (tabulate (behind toA k) 0 m) (wake_sends k start) (wake_leaves k start)) ≡ measured (at k start)
      unfolding wake_leaves woken
      measured-first =
          left_beside m 0 (omega arith) (wake_sends k start) (wake_leaves k start) (woken-whole toA n k there start whole) k there
          (λ j b c e. behind_past toA n k j there (omega arith) (sym e))
          ∙ changed_record k woken length-woken start (row_fits record_size there (omega arith))
          ∙ ap (λ (b : Bool). cond b (measured (at k start)) (at k start)) manager

      -- one that is not on the way so far
      pub beside_so_far : (x : ℕ) → x < n → (x ≡ k → ⊥) → ((j : ℕ) → j < m → x ≡ behind toA k j → ⊥)
          → at x (left_along (tabulate (behind toA k) 0 m) (wake_sends k start) (wake_leaves k start)) ≡ at x start
      unfolding wake_leaves
      beside_so_far x h apart beside =
          left_beside m 0 (omega arith) (wake_sends k start) (wake_leaves k start) (woken-whole toA n k there start whole) x h (λ j b c. beside j (omega arith))
          ∙ other_record k woken length-woken n start there whole x h apart
