-- Document 02, L8, (d): a heartbeat does not leave the chain where a monitor on its way is not in LPCM. That one ignores what reaches it, and nothing behind it
-- hears anything. And none begins at a monitor that is no manager in LPCM.
-- Assumes nothing.
use mathlib.Core.Path.{◌≡◌, sym, ap, ap₂, ◌∙◌}
use mathlib.Core.Bool.{Bool, true, false, cond}
use mathlib.Core.List.{List, []}
use Prim.Native.Nat.{ℕ, zero, suc, ◌+◌, ◌*◌, ◌<◌}
use native.Mathlib.Omega.{arith}
use lib.ListN.{length}
use Rattle.laws.specs.Tables.{tabulate}
use Rattle.records.specs.Record.{record_size, in_lpcm}
use Rattle.judging.specs.Table.{monitors, sound}
use Rattle.judging.proofs.Soundness.{is_sound}
use Rattle.measuring.specs.Measuring.{measured}
use Rattle.heartbeats.specs.Steps.{towards_a, is_manager, ndev, counted_down, joined_to, woken, wakes}
use Rattle.heartbeats.proofs.Kept.{awake_left}
use Rattle.passing.specs.Hops.{bytes_sent, wake_sends, wake_leaves, hop_sends, hop_leaves, hops, behind, way, way_from, sent_along, left_along, beat_sends, beat_leaves}
use Rattle.guarding.specs.Chains.{at}
use Rattle.passing.proofs.Silent.{same-table, none-along}
use Rattle.guarding.proofs.Ways.{woken-whole, ahead_woken, hop_whole, ahead_hop}
use Rattle.std.specs.Prelude.{None}
use Rattle.heartbeats.specs.Steps.{sends}

awake_hop : (k : ℕ) (bytes table : List ℕ) → in_lpcm (at k table) ≡ false → hop_sends k bytes table ≡ []
unfolding hop_sends
awake_hop k bytes table e = ap bytes_sent (awake_left (at k table) bytes e).1

-- the monitor behind hop j is not in LPCM: from hop i it is d further on
module _ (toA : Bool) (n k : ℕ) (there : k < n) (j : ℕ) (within : j < hops toA n k) where
  stopped_along : (d m i : ℕ) → i + d ≡ j → d < m → (bytes table : List ℕ) → length table ≡ n * record_size → in_lpcm (at (behind toA k j) table) ≡ false
      → sent_along (tabulate (behind toA k) i m) bytes table ≡ []
  unfolding tabulate sent_along
  stopped_along d zero i e l bytes table whole awake = absurd (omega arith)
  stopped_along zero (suc m) i e l bytes table whole awake =
      let here : j ≡ i = omega arith in
      let nothing = awake_hop (behind toA k i) bytes table (ap (λ (x : ℕ). in_lpcm (at (behind toA k x) table)) (sym here) ∙ awake) in
      ap (λ (sent : List ℕ). sent_along (tabulate (behind toA k) (suc i) m) sent (hop_leaves (behind toA k i) bytes table)) nothing
      ∙ (none-along (tabulate (behind toA k) (suc i) m) (hop_leaves (behind toA k i) bytes table)).0
  stopped_along (suc d) (suc m) i e l bytes table whole awake =
      let here : i < hops toA n k = omega arith in
      stopped_along d m (suc i) (omega arith) (omega arith) (hop_sends (behind toA k i) bytes table) (hop_leaves (behind toA k i) bytes table)
      (hop_whole toA n k there table whole i here bytes)
      (ap in_lpcm (ahead_hop toA n k there table whole i here bytes j (omega arith) within) ∙ awake)

pub stopped : (k : ℕ) (table : List ℕ) → sound table ≡ true → k < monitors table → (i : ℕ) → i < hops (towards_a (at k table)) (monitors table) k
    → in_lpcm (at (behind (towards_a (at k table)) k i) table) ≡ false → beat_sends k table ≡ []
unfolding beat_sends way
stopped k table s there i within awake =
    let toA = towards_a (at k table) in
    let n = monitors table in
    let whole = (is_sound table s).whole in
    stopped_along toA n k there i within i (hops toA n k) 0 (omega arith) within (wake_sends k table) (wake_leaves k table)
    (woken-whole toA n k there table whole) (ap in_lpcm (ahead_woken toA n k there table whole i within) ∙ awake)

-- at a monitor that does not wake nothing begins
pub no_beat : (k : ℕ) (table : List ℕ) → is_manager (at k table) ≡ false → (beat_sends k table ≡ []) × (beat_leaves k table ≡ table)
unfolding beat_sends beat_leaves wake_sends wake_leaves wakes woken
no_beat k table e =
    let r = at k table in
    let sent = ap bytes_sent (ap (λ (b : Bool). cond b (sends (counted_down r (ndev r)) (joined_to r 0)) None) e) in
    let left = same-table k woken table (ap (λ (b : Bool). cond b (measured r) r) e) in
    let none = none-along (way_from k table) table in
    (ap₂ (sent_along (way_from k table)) sent left ∙ none.0, ap₂ (left_along (way_from k table)) sent left ∙ none.1)
