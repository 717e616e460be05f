-- What a read shows of a missed command (L5). After a frame a monitor's counter is the next one, where it took it, or the old one; against the next its reply is
-- right, or its counter differs, in the chain's reply and from both ports. Of a write with some monitors' checks wrong those take it that were not hit and are not
-- in LPCM; of one of WRRR all that are not in LPCM; of a frame that the chain refuses none.
-- Assumes nothing.
use mathlib.Core.Path.{◌≡◌, refl, sym, ap, ap₂, ◌∙◌, subst, subst⁻¹}
use mathlib.Core.Bool.{Bool, true, false, cond, not, ◌&&◌, false≢true}
use mathlib.Core.List.{List, []}
use mathlib.Core.Logic.{◌⊎◌, inl, inr}
use Prim.Native.Nat.{ℕ, zero, suc, ◌-◌, ◌*◌, ◌≤◌, ◌<◌}
use native.Mathlib.Decide.{dec_lt}
use native.Mathlib.Omega.{arith}
use lib.Dec.{eqb, leb}
use lib.ListN.{length}
use borrow.Author.Tests.{eq-eqb, ne_eqb, leb-true}
use Rattle.ports.specs.declared.checks.Checked.{Checked}
use Rattle.laws.specs.Rows.{rows, row_at}
use Rattle.laws.proofs.Counts.{and_true, all_fails}
use Rattle.laws.proofs.Rows.{length-rows, row-at}
use Rattle.laws.proofs.Tests.{both_first}
use Rattle.refusals.specs.declared.Refusal.{Refusal}
use Rattle.records.specs.declared.commands.Command.TheVariants.{Reads, Writes}
use Rattle.records.specs.declared.commands.Write.{Write}
use Rattle.records.specs.declared.commands.Write.TheVariants.{Wrrr}
use Rattle.records.specs.declared.record.Part.{Part}
use Rattle.records.specs.Record.{record_size, counter, unlocked, most_count, in_lpcm, byte_of, record_sound}
use Rattle.records.specs.Commands.{commands, command_of, payload_size, width_of}
use Rattle.writes.proofs.Written.{needs_but_wrrr}
use Rattle.monitor.specs.Effects.{next_count, accepts}
use Rattle.monitor.proofs.Keeping.{good-checked, good_unchecked}
use Rattle.monitor.proofs.Sound.{next_fine}
use Rattle.reads.specs.Reply.{reply}
use Rattle.judging.specs.Table.{monitors, sound}
use Rattle.judging.proofs.Keeps.{Keeps}
use Rattle.judging.proofs.Lent.{lent_length}
use Rattle.judging.proofs.Soundness.{is_sound}
use Rattle.serving.specs.Served.{Awake}
use Rattle.chain.specs.Frame.{answer, table_after, reply_after}
use Rattle.chain.proofs.FrameKeeps.{frame-keeps}
use Rattle.chain.proofs.Refused.{refused-table}
use Rattle.host.specs.Frames.{frame_for}
use Rattle.ports.specs.declared.checks.Checked.TheVariants.{Right, CounterDiffers}
use Rattle.ports.specs.Verdicts.{is_right}
use Rattle.ports.specs.Check.{checked}
use Rattle.story.specs.Spikes.{own_in, unhit, Spoilt}
use Rattle.story.specs.Missed.{OneCounter, read_after, from_a, SeenAs, SomeDiffer}
use Rattle.story.proofs.Accepted.{own-long}
use Rattle.story.proofs.OurHost.{each-reply-its-own}
use Rattle.story.proofs.BothEnds.{reply-is_right, reply-verdict, reply-same, reply_differs, seen, the_replies}
use Rattle.story.proofs.Spoilt.{came-none, came-its, right-unhit, struck_kept, all-unhit}
use Rattle.story.proofs.Counted.{next-apart, counter-kept}
use Rattle.std.specs.Prelude.{Err, Ok, Result}

-- ---- a sound table's counters

pub counter_fine : (table : List ℕ) → sound table ≡ true → (k : ℕ) → k < monitors table → byte_of counter (row_at record_size k table) ≤ most_count
counter_fine table s k h = leb-true _ _ (both_first (leb (byte_of counter its) most_count) (leb (byte_of unlocked its) 1) (by (record_sound its) refl))
  where
    its : List ℕ
    its = row_at record_size k table

    by : (b : Bool) → record_sound its ≡ b → leb (byte_of counter its) most_count && leb (byte_of unlocked its) 1 ≡ true
    by true e = unfold record_sound in e
    by false e =
        let there : k < length (rows record_size (monitors table) table) = omega (arith, length-rows record_size (monitors table) table) in
        let none = all_fails record_sound (rows record_size (monitors table) table) k [] there (ap record_sound (row-at record_size (monitors table) table k [] h) ∙ e) in
        absurd (false≢true (sym none ∙ (is_sound table s).each))

-- ---- what is read of a monitor that took a command, or missed it

module _ {table after : List ℕ} (kept : Keeps table after) (k : ℕ) (h : k < monitors table) (took : Bool) where
  abbrev old : ℕ
  old = byte_of counter (row_at record_size k table)

  abbrev now-there : ℕ
  now-there = byte_of counter (row_at record_size k after)

  module _ (counts : now-there ≡ cond took (next_count old) old) where
    h_after : k < monitors after
    h_after = subst⁻¹ (λ (n : ℕ). k < n) kept.monitors-after h

    fine_after : now-there ≤ most_count
    fine_after = counter_fine after kept.sound-after k h_after

    -- its counter is the next one where it took it
    next-told : eqb now-there (next_count old) ≡ took
    next-told = ap (λ (c : ℕ). eqb c (next_count old)) counts ∙ by took
      where
        by : (b : Bool) → eqb (cond b (next_count old) old) (next_count old) ≡ b
        by true = eq-eqb (next_count old) (next_count old) refl
        by false = ne_eqb old (next_count old) (λ e. next-apart old (sym e))

    reply_shows : (part : Part) → checked (reply part (row_at record_size k after)) (next_count old) ≡ Ok (cond took Right (CounterDiffers old))
    reply_shows part =
        reply-verdict part (row_at record_size k after) (next_count old) (next_fine old) fine_after
        ∙ ap₂ (λ (same : Bool) (c : ℕ). Ok (cond same Right (CounterDiffers c))) next-told counts
        ∙ by took
      where
        by : (b : Bool) → ◌≡◌ {A = Result Checked Refusal} (Ok (cond b Right (CounterDiffers (cond b (next_count old) old)))) (Ok (cond b Right (CounterDiffers old)))
        by true = refl
        by false = refl

    -- in the chain's reply
    pub read_shows : (part : Part) (code : ℕ) (buffer : List ℕ) → command_of code commands ≡ Reads part → payload_size * monitors table ≤ length buffer
        → checked (row_at payload_size k (reply_after after (frame_for code (monitors table) []) buffer)) (next_count old) ≡ Ok (cond took Right (CounterDiffers old))
    read_shows part code buffer its enough =
        let there = each-reply-its-own after buffer code part its kept.sound-after (subst⁻¹ (λ (n : ℕ). payload_size * n ≤ length buffer) kept.monitors-after enough) k h_after in
        ap (λ (n : ℕ). checked (row_at payload_size k (reply_after after (frame_for code n []) buffer)) (next_count old)) (sym kept.monitors-after)
        ∙ ap (λ (eight : List ℕ). checked eight (next_count old)) there
        ∙ reply_shows part

    -- and right against it
    right-told : (part : Part) → is_right (reply part (row_at record_size k after)) (next_count old) ≡ took
    right-told part = reply-is_right part (row_at record_size k after) (next_count old) (next_fine old) fine_after ∙ next-told

-- from both ports, k counted from 1
pub ports_show : {table after : List ℕ} → Keeps table after → sound table ≡ true → (part : Part) (k : ℕ) → 1 ≤ k → k ≤ monitors table → {took : Bool}
    → byte_of counter (row_at record_size (k - 1) after)
    ≡ cond took (next_count (byte_of counter (row_at record_size (k - 1) table))) (byte_of counter (row_at record_size (k - 1) table))
    → SeenAs part (monitors table) after k (next_count (byte_of counter (row_at record_size (k - 1) table))) took (byte_of counter (row_at record_size (k - 1) table))
ports_show {table} {after} kept s part k first last {took} counts =
    let there : k - 1 < monitors table = omega arith in
    seen part (monitors table) after k first last (is_sound table s).few (next_count (byte_of counter (row_at record_size (k - 1) table)))
    (next_fine (byte_of counter (row_at record_size (k - 1) table))) (reply_shows kept (k - 1) there took counts part) (right-told kept (k - 1) there took counts part)

-- ---- the first places pass a test, or one fails it

record Fails (test : ℕ → Bool) (n : ℕ) : Type 0 where
  at : ℕ
  there : at < n
  fails : test at ≡ false

find : (test : ℕ → Bool) (n : ℕ) → ((k : ℕ) → k < n → test k ≡ true) ⊎ Fails test n
find test zero = inl (λ k h. absurd (omega arith))
find test (suc n) = by (find test n) (test n) refl
  where
    by : ((k : ℕ) → k < n → test k ≡ true) ⊎ Fails test n → (b : Bool) → test n ≡ b → ((k : ℕ) → k < suc n → test k ≡ true) ⊎ Fails test (suc n)
    by (inr f) b e = let there = f.there in inr (record { at = f.at; there = omega arith; fails = f.fails })
    by (inl each) false e = inr (record { at = n; there = omega arith; fails = e })
    by (inl each) true e = inl (λ k h. last k h (dec_lt k n))
      where
        last : (k : ℕ) → k < suc n → Dec (k < n) → test k ≡ true
        last k h (yes below) = each k below
        last k h (no not-below) = let there : k ≡ n = omega arith in ap test there ∙ e

-- ---- a write with some monitors' checks wrong

module _ (table : List ℕ) (s : sound table ≡ true) (w : Write) {sent came : List ℕ} (spoilt : Spoilt w (monitors table) sent came) (room : ℕ) where
  abbrev n : ℕ
  n = monitors table

  abbrev after : List ℕ
  after = table_after table came room

  abbrev row : ℕ → List ℕ
  row k = row_at record_size k table

  kept-after : Keeps table after
  kept-after = frame-keeps table came room s

  -- the counter of a monitor, by whether it accepts its own bytes
  counter-by : (k : ℕ) → k < n → {took : Bool} → accepts w (own_in (Writes w) n came k) (row k) ≡ took
      → byte_of counter (row_at record_size k after) ≡ cond took (next_count (byte_of counter (row k))) (byte_of counter (row k))
  counter-by k h e =
      ap (byte_of counter) (struck_kept table s w spoilt room k h)
      ∙ counter-kept w (own_in (Writes w) n came k) (row k) (lent_length k table (omega (arith, (is_sound table s).whole)))
      ∙ ap (λ (took : Bool). cond took (next_count (byte_of counter (row k))) (byte_of counter (row k))) e

  -- one that was not hit and is not in LPCM does, and no other
  abbrev takes : ℕ → Bool
  takes k = not (in_lpcm (row k)) && unhit (Writes w) n sent came k

  module _ (other : w ≡ Wrrr → ⊥) where
    accepts-unhit : (k : ℕ) → k < n → accepts w (own_in (Writes w) n came k) (row k) ≡ takes k
    unfolding accepts
    accepts-unhit k h =
        ap (λ (b : Bool). not (in_lpcm (row k)) && b) (good-checked w (own_in (Writes w) n came k) (needs_but_wrrr w other) ∙ right-unhit table s w spoilt k h)

    pub counter-after : (k : ℕ) → k < n → byte_of counter (row_at record_size k after) ≡ cond (takes k) (next_count (byte_of counter (row k))) (byte_of counter (row k))
    counter-after k h = counter-by k h (accepts-unhit k h)

    -- in any chain, against each monitor's next counter
    pub missed_in_reply : (part : Part) (code : ℕ) (buffer : List ℕ) → command_of code commands ≡ Reads part → payload_size * n ≤ length buffer → (k : ℕ) → k < n
        → checked (row_at payload_size k (read_after table came room code buffer)) (next_count (byte_of counter (row k))) ≡ Ok (cond (takes k) Right (CounterDiffers (byte_of counter (row k))))
    missed_in_reply part code buffer its enough k h = read_shows kept-after k h (takes k) (counter-after k h) part code buffer its enough

    pub missed_at_ports : (part : Part) (k : ℕ) → 1 ≤ k → k ≤ n
        → SeenAs part n after k (next_count (byte_of counter (row (k - 1)))) (takes (k - 1)) (byte_of counter (row (k - 1)))
    missed_at_ports part k first last = ports_show kept-after s part k first last (counter-after (k - 1) (omega arith))

    -- none in LPCM, and all with one counter
    module _ (common : ℕ) (one : OneCounter n table common) (awake : Awake n table) where
      pub missed_seen : (part : Part) (k : ℕ) → 1 ≤ k → k ≤ n → SeenAs part n after k (next_count common) (unhit (Writes w) n sent came (k - 1)) common
      missed_seen part k first last =
          let there : k - 1 < n = omega arith in
          subst (λ (b : Bool). SeenAs part n after k (next_count common) (not b && unhit (Writes w) n sent came (k - 1)) common) (awake (k - 1) there)
          (subst (λ (c : ℕ). SeenAs part n after k (next_count c) (takes (k - 1)) c) (one (k - 1) there) (missed_at_ports part k first last))

      -- someone is seen where something was turned over
      pub some-seen : (part : Part) → (came ≡ sent → ⊥) → SomeDiffer part n after (next_count common) common
      some-seen part turned = by (find (unhit (Writes w) n sent came) n)
        where
          by : ((k : ℕ) → k < n → unhit (Writes w) n sent came k ≡ true) ⊎ Fails (unhit (Writes w) n sent came) n → SomeDiffer part n after (next_count common) common
          by (inl each) = absurd (turned (all-unhit table s w spoilt each))
          by (inr f) =
              let there = f.there in
              let same : suc f.at - 1 ≡ f.at = omega arith in
              record {
                k = suc f.at;
                first = omega arith;
                last = omega arith;
                seen = subst (λ (b : Bool). SeenAs part n after (suc f.at) (next_count common) b common) (ap (unhit (Writes w) n sent came) same ∙ f.fails) (missed_seen part (suc f.at) (omega arith) (omega arith));
              }

-- WRRR is taken whatever its check: it shows at no monitor that is not in LPCM
module _ (table : List ℕ) (s : sound table ≡ true) {sent came : List ℕ} (spoilt : Spoilt Wrrr (monitors table) sent came) (room k : ℕ) (h : k < monitors table) where
  accepts_any : accepts Wrrr (own_in (Writes Wrrr) (monitors table) came k) (row_at record_size k table) ≡ not (in_lpcm (row_at record_size k table))
  unfolding accepts own_in
  accepts_any =
      ap (λ (b : Bool). not (in_lpcm (row_at record_size k table)) && b)
      (good_unchecked Wrrr (own_in (Writes Wrrr) (monitors table) came k) refl
      ∙ eq-eqb _ (width_of (Writes Wrrr)) (own-long table came room (came-none table s Wrrr spoilt room) (came-its table s Wrrr spoilt) k h))
      ∙ and_true (not (in_lpcm (row_at record_size k table)))

  pub wrrr_unseen : in_lpcm (row_at record_size k table) ≡ false → (part : Part) (code : ℕ) (buffer : List ℕ) → command_of code commands ≡ Reads part
      → payload_size * monitors table ≤ length buffer
      → checked (row_at payload_size k (read_after table came room code buffer)) (next_count (byte_of counter (row_at record_size k table))) ≡ Ok Right
  wrrr_unseen awake part code buffer its enough =
      read_shows (frame-keeps table came room s) k h true (counter-by table s Wrrr spoilt room k h (accepts_any ∙ ap not awake)) part code buffer its enough

-- ---- a frame that the chain refuses

module _ (table frame : List ℕ) (room : ℕ) (s : sound table ≡ true) (r : Refusal) (refused : answer table frame room ≡ Err r) where
  same-counter : (k : ℕ) → byte_of counter (row_at record_size k (table_after table frame room)) ≡ byte_of counter (row_at record_size k table)
  same-counter k = ap (λ (t : List ℕ). byte_of counter (row_at record_size k t)) (refused-table table frame room r refused)

  pub refused_in_reply : (part : Part) (code : ℕ) (buffer : List ℕ) → command_of code commands ≡ Reads part → payload_size * monitors table ≤ length buffer
      → (k : ℕ) → k < monitors table
      → checked (row_at payload_size k (read_after table frame room code buffer)) (next_count (byte_of counter (row_at record_size k table))) ≡ Ok (CounterDiffers (byte_of counter (row_at record_size k table)))
  refused_in_reply part code buffer its enough k h = read_shows (frame-keeps table frame room s) k h false (same-counter k) part code buffer its enough

  pub refused-seen : (part : Part) (k : ℕ) → 1 ≤ k → k ≤ monitors table
      → SeenAs part (monitors table) (table_after table frame room) k (next_count (byte_of counter (row_at record_size (k - 1) table))) false (byte_of counter (row_at record_size (k - 1) table))
  refused-seen part k first last = ports_show (frame-keeps table frame room s) s part k first last (same-counter (k - 1))

-- what comes to port A is what the chain leaves in a buffer of that length
pub read_from_a : (table frame buffer : List ℕ) (room code : ℕ) (part : Part) → command_of code commands ≡ Reads part → sound table ≡ true
    → length buffer ≡ payload_size * monitors table → read_after table frame room code buffer ≡ from_a part (monitors table) (table_after table frame room)
read_from_a table frame buffer room code part its s l =
    let kept = frame-keeps table frame room s in
    subst (λ (n : ℕ). reply_after (table_after table frame room) (frame_for code n []) buffer ≡ from_a part n (table_after table frame room)) kept.monitors-after
    (the_replies (table_after table frame room) buffer code part its kept.sound-after (l ∙ ap (λ (n : ℕ). payload_size * n) (sym kept.monitors-after)))

-- ---- each reply of a sound chain, against its own counter and against another

module _ (table buffer : List ℕ) (code : ℕ) (part : Part) (its : command_of code commands ≡ Reads part) (s : sound table ≡ true)
    (enough : payload_size * monitors table ≤ length buffer) (k : ℕ) (h : k < monitors table) where
  abbrev part_of_it : List ℕ
  part_of_it = row_at payload_size k (reply_after table (frame_for code (monitors table) []) buffer)

  its_own : part_of_it ≡ reply part (row_at record_size k table)
  its_own = each-reply-its-own table buffer code part its s enough k h

  pub own-counter-right : checked part_of_it (byte_of counter (row_at record_size k table)) ≡ Ok Right
  own-counter-right =
      ap (λ (eight : List ℕ). checked eight (byte_of counter (row_at record_size k table))) its_own ∙ reply-same part (row_at record_size k table) (counter_fine table s k h)

  pub other_counter_differs : (expected : ℕ) → expected ≤ most_count → (expected ≡ byte_of counter (row_at record_size k table) → ⊥)
      → checked part_of_it expected ≡ Ok (CounterDiffers (byte_of counter (row_at record_size k table)))
  other_counter_differs expected small apart =
      ap (λ (eight : List ℕ). checked eight expected) its_own ∙ reply_differs part (row_at record_size k table) expected small (counter_fine table s k h) apart
