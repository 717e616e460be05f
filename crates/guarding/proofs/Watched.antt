-- Document 02, L8, (e): a timeout monitor nearest the host takes the last step of a heartbeat from the far end. Where CMC_NDEV is 42 (hex) above the number of
-- monitors its two flags are clear afterwards exactly where all of them passed.
-- Assumes nothing.
use mathlib.Core.Path.{◌≡◌, refl, sym, ap, ap₂, ◌∙◌, subst, subst⁻¹}
use mathlib.Core.Bool.{Bool, true, false, cond, not, ◌&&◌}
use mathlib.Core.List.{List, [], ◌∷◌, ◌++◌}
use mathlib.Core.Logic.Iff
use mathlib.Core.Logic.{◌↔◌}
use Prim.Native.Nat.{ℕ, zero, suc, ◌+◌, ◌-◌, ◌*◌, ◌≤◌, ◌<◌}
use native.Mathlib.Omega.{arith}
use lib.Bits.{bit_and, bit_or}
use lib.Dec.{eqb, lit<}
use lib.ListN.{length}
use borrow.Author.Tests.{eq-eqb, eqb-true}
use Rattle.laws.specs.Bits.{odd, bit_at}
use Rattle.laws.specs.Counts.{all}
use Rattle.laws.specs.Rows.{rows}
use Rattle.laws.specs.Tables.{tabulate}
use Rattle.laws.proofs.BitAt.{bit-or, bit-and}
use Rattle.laws.proofs.Rows.{length_row-at}
use Rattle.laws.proofs.Tests.{both_first, both_second}
use Rattle.laws.proofs.Tables.{table_snoc}
use Rattle.records.specs.Record.{record_size, cmf1, in_lpcm, byte_in, byte_of, lpcm_configuration, on_bytes}
use Rattle.records.proofs.Anew.{anew_inside}
use Rattle.judging.specs.Table.{monitors}
use Rattle.judging.proofs.Soundness.{is_sound}
use Rattle.judging.proofs.Changed.{changed_record}
use Rattle.measuring.specs.Measuring.{measured, passes}
use Rattle.measuring.proofs.Measured.{length-measured}
use Rattle.messages.specs.Messages.{message, message_right, pass_count, is_pass}
use Rattle.messages.proofs.Sent.{message-right, message-count, message-flags}
use Rattle.messages.proofs.Judged.{not_both}
use Rattle.heartbeats.specs.Steps.{manages, is_timeout, ndev, counted_down, joined_to, hears, judged, reached}
use Rattle.heartbeats.proofs.Kept.{length-reached}
use Rattle.passing.specs.Hops.{wake_sends, wake_leaves, hop_leaves, hops, behind, way, sent_along, left_along, way_from, beat_leaves}
use Rattle.guarding.specs.Chains.{at, chain, sends_on, Watched, passing, union, less}
use Rattle.passing.proofs.Silent.{wake_keeps, along-keeps, behind_within, within_table}
use Rattle.guarding.proofs.Summed.{counted-last, joined-last}
use Rattle.guarding.proofs.MetAlong.{Alike, met, met_snoc, alike, alike_then, alike_snoc, far}
use Rattle.guarding.proofs.Along.{left_append, sent_behind, beside_so_far}
use Rattle.guarding.proofs.Arrives.{passed-all}

-- ---- its step

-- the final pass value
pass_parts : (c f : ℕ) → (is_pass c f ≡ true) ↔ ((c ≡ pass_count) × (f ≡ 0))
unfolding is_pass
pass_parts c f = (
  λ e. (eqb-true c pass_count (both_first (eqb c pass_count) (eqb f 0) e), eqb-true f 0 (both_second (eqb c pass_count) (eqb f 0) e)),
  λ e. ap₂ ◌&&◌ (eq-eqb c pass_count e.0) (eq-eqb f 0 e.1),
)

judges : (m r : List ℕ) → is_timeout r ≡ true → message_right m ≡ true → reached m r ≡ on_bytes cmf1 (λ i old. judged m r old) (measured r)
unfolding is_timeout reached hears
judges m r end right =
    let ready = both_first (in_lpcm r && not (manages r)) (bit_at 3 (byte_in lpcm_configuration r 0)) end in
    ap₂ (λ (a b : Bool). cond a (cond b (on_bytes cmf1 (λ i old. judged m r old) (measured r)) (measured r)) r) (ap₂ ◌&&◌ ready right) end

marked : (f : ℕ → ℕ) (l : List ℕ) → length l ≡ record_size → byte_of cmf1 (on_bytes cmf1 (λ i old. f old) l) ≡ f (byte_of cmf1 l)
unfolding on_bytes byte_of
marked f l whole = anew_inside (λ i old. f old) cmf1.at cmf1.size l 0 (lit< tt) (omega arith)

-- both flags are clear where the test passes that clears them
both_clear : (b : Bool) (old : ℕ)
    → ((bit_at 0 (cond b (bit_and old 0xFC) (bit_or old 0x01)) ≡ false) × (bit_at 1 (cond b (bit_and old 0xFC) (bit_or old 0x01)) ≡ false)) ↔ (b ≡ true)
unfolding bit_at odd
both_clear true old = (λ e. refl, λ e. (bit-and 0 old 0xFC refl, bit-and 1 old 0xFC refl))
both_clear false old = (λ e. absurd (not_both (bit_at 0 (bit_or old 0x01)) (bit-or 0 old 0x01 refl) e.0), λ e. absurd (not_both false e refl))

step_clears : (c f : ℕ) (r : List ℕ) → length r ≡ record_size → is_timeout r ≡ true
    → ((bit_at 0 (byte_of cmf1 (reached (message c f) r)) ≡ false) × (bit_at 1 (byte_of cmf1 (reached (message c f) r)) ≡ false))
    ↔ ((counted_down r c ≡ pass_count) × (joined_to r f ≡ 0))
unfolding judged
step_clears c f r whole end =
    let m = message c f in
    let old = byte_of cmf1 (measured r) in
    let now =
    ap (byte_of cmf1) (judges m r end (message-right c f))
    ∙ marked (judged m r) (measured r) (length-measured r ∙ whole)
    ∙ ap₂ (λ (x y : ℕ). cond (is_pass (counted_down r x) (joined_to r y)) (bit_and old 0xFC) (bit_or old 0x01)) (message-count c f) (message-flags c f) in
    subst⁻¹ (λ (x : ℕ). ((bit_at 0 x ≡ false) × (bit_at 1 x ≡ false)) ↔ ((counted_down r c ≡ pass_count) × (joined_to r f ≡ 0))) now
    (Iff.trans (both_clear (is_pass (counted_down r c) (joined_to r f)) old) (pass_parts (counted_down r c) (joined_to r f)))

-- ---- the manager at suc m, m monitors between them

module _ (m : ℕ) (table : List ℕ) (w : Watched (suc m) table) (byte : ndev (at (suc m) table) < 256) where
  abbrev n : ℕ
  n = monitors table

  abbrev between_them : List ℕ
  between_them = tabulate (behind true (suc m)) 0 m

  -- what the timeout monitor's step follows
  abbrev so_far : List (List ℕ)
  so_far = at (suc m) table ∷ met (behind true (suc m)) 0 m table

  there : suc m < n
  there = omega arith

  whole : length table ≡ n * record_size
  whole = (is_sound table w.its-sound).whole

  within : m ≤ hops true n (suc m)
  unfolding hops
  within = omega arith

  last : behind true (suc m) (0 + m) ≡ 0
  unfolding behind
  last = omega arith

  open_so_far : (j : ℕ) → j < m → sends_on (at (behind true (suc m) j) table) ≡ true
  unfolding behind
  open_so_far j h = w.between (suc m - suc j) (omega arith) (omega arith)

  before_last : (j : ℕ) → j < m → 0 ≡ behind true (suc m) j → ⊥
  unfolding behind
  before_last j h e = omega arith

  its-way : way_from (suc m) table ≡ between_them ++ 0 ∷ []
  unfolding way hops
  its-way =
      ap (λ (d : Bool). way d n (suc m)) w.direction
      ∙ table_snoc (behind true (suc m)) 0 m
      ∙ ap (λ (j : ℕ). between_them ++ j ∷ []) last

  left-whole : length (left_along between_them (wake_sends (suc m) table) (wake_leaves (suc m) table)) ≡ n * record_size
  left-whole =
      let first = wake_keeps (suc m) table w.its-sound there in
      let kept =
      along-keeps n between_them (wake_sends (suc m) table) (wake_leaves (suc m) table) first.sound-after first.monitors-after
      (within_table n (behind true (suc m)) 0 m (λ j h. behind_within true n (suc m) j there (omega (arith, within)))) in
      (is_sound (left_along between_them (wake_sends (suc m) table) (wake_leaves (suc m) table)) kept.sound-after).whole
      ∙ ap (λ (x : ℕ). x * record_size) (kept.monitors-after ∙ first.monitors-after)

  its_record : at 0 (beat_leaves (suc m) table) ≡ reached (message (less (ndev (at (suc m) table)) (passing so_far)) (union so_far)) (at 0 table)
  unfolding beat_leaves left_along hop_leaves
  its_record =
      let sent = sent_along between_them (wake_sends (suc m) table) (wake_leaves (suc m) table) in
      let left = left_along between_them (wake_sends (suc m) table) (wake_leaves (suc m) table) in
      ap (λ (ks : List ℕ). at 0 (left_along ks (wake_sends (suc m) table) (wake_leaves (suc m) table))) its-way
      ∙ ap (at 0) (left_append between_them (0 ∷ []) (wake_sends (suc m) table) (wake_leaves (suc m) table))
      ∙ changed_record 0 (reached sent) (λ r. length-reached r sent) left (omega (arith, left-whole, there))
      ∙ ap₂ reached
      (sent_behind true n (suc m) there table whole w.manager m within open_so_far byte)
      (beside_so_far true n (suc m) there table whole w.manager m within open_so_far 0 (omega (arith, there)) (λ e. omega arith) before_last)

  -- with it the step is the whole chain's
  all-met : Alike (at 0 table ∷ so_far) (chain table)
  all-met =
      alike_then (alike_snoc so_far (at 0 table))
      (alike_then
      (alike
      (ap (λ (rs : List (List ℕ)). at (suc m) table ∷ rs)
      (sym (met_snoc (behind true (suc m)) 0 m table ∙ ap (λ (j : ℕ). met (behind true (suc m)) 0 m table ++ at j table ∷ []) last))))
      (subst (λ (x : ℕ). Alike (at (suc m) table ∷ met (behind true (suc m)) 0 (suc m) table) (rows record_size x table)) w.far (far (suc m) table)))

  its-count : counted_down (at 0 table) (less (ndev (at (suc m) table)) (passing so_far)) ≡ less (ndev (at (suc m) table)) (passing (chain table))
  its-count = counted-last (at 0 table) so_far (ndev (at (suc m) table)) ∙ ap (less (ndev (at (suc m) table))) all-met.as_many

  its-flags : joined_to (at 0 table) (union so_far) ≡ union (chain table)
  its-flags = joined-last (at 0 table) so_far ∙ all-met.same_flags

  clear_by : ((bit_at 0 (byte_of cmf1 (at 0 (beat_leaves (suc m) table))) ≡ false) × (bit_at 1 (byte_of cmf1 (at 0 (beat_leaves (suc m) table))) ≡ false))
      ↔ ((less (ndev (at (suc m) table)) (passing (chain table)) ≡ pass_count) × (union (chain table) ≡ 0))
  clear_by =
      subst⁻¹ (λ (r : List ℕ). ((bit_at 0 (byte_of cmf1 r) ≡ false) × (bit_at 1 (byte_of cmf1 r) ≡ false)) ↔ ((less (ndev (at (suc m) table)) (passing (chain table)) ≡ pass_count) × (union (chain table) ≡ 0))) its_record
      (Iff.trans
      (step_clears (less (ndev (at (suc m) table)) (passing so_far)) (union so_far) (at 0 table)
      (length_row-at record_size n table 0 (omega (arith, there)) (omega (arith, whole))) w.watch)
      (λ e. (sym its-count ∙ e.0, sym its-flags ∙ e.1), λ e. (its-count ∙ e.0, its-flags ∙ e.1)))

pub watched : (k : ℕ) (table : List ℕ) → Watched k table → ndev (at k table) ≡ monitors table + 0x42
    → ((bit_at 0 (byte_of cmf1 (at 0 (beat_leaves k table))) ≡ false) × (bit_at 1 (byte_of cmf1 (at 0 (beat_leaves k table))) ≡ false)) ↔ (all passes (chain table) ≡ true)
watched zero table w e = absurd (omega arith)
watched (suc m) table w e =
    let few = (is_sound table w.its-sound).few in
    Iff.trans (clear_by m table w (omega arith)) (passed-all table few (ndev (at (suc m) table)) e)
