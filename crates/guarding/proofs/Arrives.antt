-- Document 02, L8, (a) and (b): in a chain of monitors that send on, a heartbeat from a manager at the end that it sends away from leaves the chain. What
-- CMC_NDEV is above its count, in eight bits, is the number of monitors that passed, all exactly where each did; its flags are the union of theirs; and
-- where CMC_NDEV is 42 (hex) above the number of monitors, the verdict is that it passed exactly where all did.
-- Assumes nothing.
use mathlib.Core.Path.{◌≡◌, sym, ap, ap₂, ◌∙◌, subst, subst⁻¹}
use mathlib.Core.Bool.{Bool, true, false}
use mathlib.Core.List.{List}
use mathlib.Core.Logic.Iff
use mathlib.Core.Logic.{◌↔◌}
use Prim.Native.Nat.{ℕ, ◌+◌, ◌≤◌, ◌<◌}
use native.Mathlib.Omega.{arith}
use Rattle.std.specs.Prelude.{Ok}
use Rattle.laws.specs.Counts.{all}
use Rattle.laws.proofs.Rows.{length-rows}
use Rattle.records.specs.Record.{record_size}
use Rattle.records.specs.Commands.{most_monitors}
use Rattle.judging.specs.Table.{monitors}
use Rattle.judging.proofs.Soundness.{is_sound}
use Rattle.measuring.specs.Measuring.{passes}
use Rattle.messages.specs.declared.verdicts.Verdict.TheVariants.{Passed}
use Rattle.messages.specs.Messages.{message, pass_count}
use Rattle.messages.specs.Verdicts.{verdict}
use Rattle.messages.proofs.Judged.{sent_passed}
use Rattle.heartbeats.specs.Steps.{ndev}
use Rattle.passing.specs.Hops.{wake_sends, wake_leaves, hops, behind, sent_along, beat_sends}
use Rattle.guarding.specs.Chains.{at, chain, sends_on, Guarded, FromTheEnd, passing, union, less}
use Rattle.passing.proofs.Silent.{behind_within}
use Rattle.guarding.proofs.Ways.{behind_past}
use Rattle.guarding.proofs.Struck.{its-way}
use Rattle.guarding.proofs.Summed.{less_back, all-passing, passing_most, pass_value, pass_exactly}
use Rattle.guarding.proofs.MetAlong.{met_all}
use Rattle.guarding.proofs.Along.{sent_behind}

pub exactly_all : (table : List ℕ) → (passing (chain table) ≡ monitors table) ↔ (all passes (chain table) ≡ true)
exactly_all table =
    subst (λ (n : ℕ). (passing (chain table) ≡ n) ↔ (all passes (chain table) ≡ true)) (length-rows record_size (monitors table) table)
    (all-passing (chain table))

-- CMC_NDEV as it has to be
pub passed-all : (table : List ℕ) → monitors table ≤ most_monitors → (first : ℕ) → first ≡ monitors table + 0x42
    → ((less first (passing (chain table)) ≡ pass_count) × (union (chain table) ≡ 0)) ↔ (all passes (chain table) ≡ true)
passed-all table few first e =
    let rs = chain table in
    let n = length-rows record_size (monitors table) table in
    subst⁻¹ (λ (c : ℕ). ((less c (passing rs) ≡ pass_count) × (union rs ≡ 0)) ↔ (all passes rs ≡ true)) (e ∙ ap (λ (m : ℕ). m + 0x42) (sym n))
    (pass_value rs (omega (arith, n)))

module _ (toA : Bool) (k : ℕ) (table : List ℕ) (g : Guarded toA k table) where
  -- every monitor on the way
  pub sends_behind : (j : ℕ) → j < hops toA (monitors table) k → sends_on (at (behind toA k j) table) ≡ true
  sends_behind j h =
      let n = monitors table in
      g.others (behind toA k j) (behind_within toA n k j g.there h) (behind_past toA n k j g.there h)

  module _ (end : FromTheEnd toA k (monitors table)) where
    pub arrives : ndev (at k table) < 256 → beat_sends k table ≡ message (less (ndev (at k table)) (passing (chain table))) (union (chain table))
    unfolding beat_sends
    arrives h =
        let n = monitors table in
        let m = hops toA n k in
        let alike = met_all toA k n table g.there end in
        ap (λ (ks : List ℕ). sent_along ks (wake_sends k table) (wake_leaves k table)) (its-way toA k table g)
        ∙ sent_behind toA n k g.there table (is_sound table g.its-sound).whole g.manager m (omega arith) sends_behind h
        ∙ ap₂ message (ap (less (ndev (at k table))) alike.as_many) alike.same_flags

    pub number : ndev (at k table) < 256 → less (ndev (at k table)) (less (ndev (at k table)) (passing (chain table))) ≡ passing (chain table)
    number h =
        less_back (ndev (at k table)) (passing (chain table)) h
        (omega (arith, (is_sound table g.its-sound).few, passing_most (chain table), length-rows record_size (monitors table) table))

    pub verdict-passed : ndev (at k table) ≡ monitors table + 0x42 → (verdict (beat_sends k table) false ≡ Ok Passed) ↔ (all passes (chain table) ≡ true)
    verdict-passed e =
        let few = (is_sound table g.its-sound).few in
        let first = ndev (at k table) in
        let sent = arrives (omega arith) in
        subst⁻¹ (λ (bytes : List ℕ). (verdict bytes false ≡ Ok Passed) ↔ (all passes (chain table) ≡ true)) sent
        (Iff.trans (sent_passed (less first (passing (chain table))) (union (chain table))) (passed-all table few first e))

    -- so no chain of another number passes by CMC_NDEV's count, whatever it is
    pub verdict_exactly : ndev (at k table) < 256
        → (verdict (beat_sends k table) false ≡ Ok Passed) ↔ ((all passes (chain table) ≡ true) × (ndev (at k table) ≡ monitors table + 0x42))
    verdict_exactly byte =
        let rs = chain table in
        let n = length-rows record_size (monitors table) table in
        let first = ndev (at k table) in
        subst⁻¹ (λ (bytes : List ℕ). (verdict bytes false ≡ Ok Passed) ↔ ((all passes rs ≡ true) × (first ≡ monitors table + 0x42))) (arrives byte)
        (Iff.trans (sent_passed (less first (passing rs)) (union rs))
        (subst (λ (m : ℕ). ((less first (passing rs) ≡ pass_count) × (union rs ≡ 0)) ↔ ((all passes rs ≡ true) × (first ≡ m + 0x42))) n
        (pass_exactly rs first byte (omega (arith, n, (is_sound table g.its-sound).few)))))
