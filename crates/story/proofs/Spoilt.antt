-- A write of our host that came with some monitors' checks wrong (L5), and one that a spike struck (L7), which is such a write. A frame that came with
-- its length and its first four bytes is judged as the one that was sent; a monitor's own bytes are right where they came as they were
-- sent, and nowhere else; so those that were hit do not take it, and each other does as it does with what was sent.
-- Assumes nothing.
use mathlib.Core.Path.{◌≡◌, refl, sym, ap, ap₂, ◌∙◌, subst⁻¹}
use mathlib.Core.Bool.{Bool, true, false, cond, not, ◌&&◌, false≢true}
use mathlib.Core.List.{List, [], ◌∷◌, ◌++◌}
use mathlib.Core.Logic.{◌⊎◌, inl, inr}
use Prim.Native.Nat.{ℕ, suc, ◌+◌, ◌-◌, ◌*◌, ◌≤◌, ◌<◌}
use native.Mathlib.Nat.{zero-add, mul_comm}
use native.Mathlib.Decide.{dec_lt}
use native.Mathlib.Omega.{arith}
use lib.ListN.{length, take, drop, length-drop, take-append-drop}
use lib.Seq.{ext_get_or}
use borrow.Author.Tests.{eqb-true, not-false}
use Rattle.laws.specs.Counts.{count}
use Rattle.laws.specs.Rows.{row_at}
use Rattle.laws.specs.Tables.{tabulate}
use Rattle.laws.proofs.Counts.{count-places, count_fails}
use Rattle.laws.proofs.Same.{same_are}
use Rattle.laws.proofs.Tables.{length-tabulate, at_each}
use Rattle.pec.specs.Words.{command_right, sealed_right}
use Rattle.wire.specs.Order.{write_payloads, write_data}
use Rattle.wire.proofs.Order.{length-write_payloads, write_at, write_back}
use Rattle.refusals.specs.declared.Refusal.TheVariants.{CodeNotListed}
use Rattle.refusals.specs.Order.{Row, ◌gives◌, Passed}
use Rattle.records.specs.declared.commands.Command.{Command}
use Rattle.records.specs.declared.commands.Command.TheVariants.{Writes}
use Rattle.records.specs.declared.commands.Write.{Write}
use Rattle.records.specs.declared.commands.Write.TheVariants.{Wrrr}
use Rattle.records.specs.Record.{record_size, in_lpcm}
use Rattle.records.specs.Commands.{commands, command_of, is_listed, data_size, width_of, frame_length}
use Rattle.writes.proofs.Written.{needs_but_wrrr}
use Rattle.monitor.specs.Effects.{locked, keeps}
use Rattle.monitor.proofs.Keeping.{keeps_wrong, keeps-none}
use Rattle.judging.specs.Table.{monitors, sound}
use Rattle.judging.specs.Refusals.{command_in, table_row, short_row, command_row, length_row, room_row}
use Rattle.serving.specs.Served.{Awake}
use Rattle.chain.specs.Frame.{frame_refusals, answer, table_after, reply_after}
use Rattle.clocked.proofs.SameRefusals.{command-head}
use Rattle.host.specs.Frames.{head_size, value_count, build_refusals}
use Rattle.host.proofs.FrameFor.{length-frame, frame_right}
use Rattle.story.specs.Spikes.{Ours, own_in, unhit, unhit_of, unhit_awake, Spoilt}
use Rattle.story.proofs.Accepted.{write_answer, write_no_reply, kept_at}
use Rattle.story.proofs.OurHost.{command-in, host_passes, own_data_right}
use Rattle.chain.specs.Frame.{took}

-- ---- counts of monitors that are alike at each

count_alike : {a b : ℕ → Bool} (n : ℕ) → ((k : ℕ) → k < n → a k ≡ b k) → count a (tabulate (λ k. k) 0 n) ≡ count b (tabulate (λ k. k) 0 n)
count_alike {a} {b} n alike =
    let all = length-tabulate (λ k. k) 0 n in
    count-places a b 0 0 (tabulate (λ k. k) 0 n)
    (λ k h. let there : k < n = omega (arith, all) in ap a (at_each (λ k. k) n k there) ∙ alike k there ∙ ap b (sym (zero-add k)))
    ∙ ap (λ (m : ℕ). count b (tabulate (λ k. k) 0 m)) all

-- no more pass two tests than pass one of them
count_both : (a b : ℕ → Bool) (xs : List ℕ) → count (λ k. a k && b k) xs ≤ count b xs
unfolding count
count_both a b [] = omega arith
count_both a b (x ∷ xs) = by (a x) (b x) (count_both a b xs)
  where
    by : (s t : Bool) → count (λ k. a k && b k) xs ≤ count b xs → cond (s && t) 1 0 + count (λ k. a k && b k) xs ≤ cond t 1 0 + count b xs
    by true true h = omega arith
    by true false h = omega arith
    by false true h = omega arith
    by false false h = omega arith

-- ---- a frame that our host built

module _ {c : Command} {n : ℕ} {sent : List ℕ} (o : Ours c n sent) where
  has_values : length o.values ≡ value_count (command_of o.code commands) n
  unfolding build_refusals
  has_values = eqb-true _ _ (not-false _ o.passed.1.1.0)

  values_of : length o.values ≡ value_count c n
  values_of = has_values ∙ ap (λ (k : Command). value_count k n) o.its

  pub sent_long : length sent ≡ frame_length c n
  sent_long =
      ap length o.built ∙ length-frame o.code n o.values has_values ∙ ap (λ (k : Command). frame_length k n) o.its

  pub sent_right : command_right (take head_size sent) ≡ true
  sent_right = ap (λ (frame : List ℕ). command_right (take head_size frame)) o.built ∙ frame_right o.code n o.values

-- ---- a frame of the same length with the same first four bytes

module _ (table sent came : List ℕ) (room : ℕ) (as_long : length came ≡ length sent) (same_head : take head_size came ≡ take head_size sent) where
  same-command : command_in came ≡ command_in sent
  same-command = sym (command-head came) ∙ ap command_in same_head ∙ command-head sent

  -- is judged as it is
  same_refusals : frame_refusals table came room ≡ frame_refusals table sent room
  unfolding frame_refusals
  same_refusals = ap₂ (λ (l : ℕ) (four : List ℕ). rows l four (command_in came)) as_long same_head ∙ ap (rows (length sent) (take head_size sent)) same-command
    where
      rows : ℕ → List ℕ → Command → List Row
      rows l four c =
          table_row table
          ∷ short_row l
          ∷ command_row four
          ∷ (not (is_listed c) gives CodeNotListed)
          ∷ length_row l c (monitors table)
          ∷ room_row room c (monitors table)
          ∷ []

-- ---- a write of our host, and one that came with its length and its first four bytes

module _ (table sent came : List ℕ) (sound-table : sound table ≡ true) {w : Write} (ours : Ours (Writes w) (monitors table) sent)
    (as_long : length came ≡ length sent) (same_head : take head_size came ≡ take head_size sent) where
  sent_passes : (room : ℕ) → Passed (frame_refusals table sent room)
  sent_passes room =
      subst⁻¹ (λ (frame : List ℕ). Passed (frame_refusals table frame room)) ours.built
      (host_passes table ours.values ours.code room (Writes w) ours.its refl sound-table (values_of ours) (omega arith))

  sent_command : command_in sent ≡ Writes w
  sent_command =
      ap command_in ours.built ∙ command-in table ours.values ours.code 0 (Writes w) ours.its refl sound-table (values_of ours) (omega arith)

  -- neither is refused, and both are the same command
  pub came-passes : (room : ℕ) → Passed (frame_refusals table came room)
  came-passes room = subst⁻¹ Passed (same_refusals table sent came room as_long same_head) (sent_passes room)

  pub came-command : command_in came ≡ Writes w
  came-command = same-command table sent came 0 as_long same_head ∙ sent_command

-- ---- a monitor's own bytes as they were sent

pub own-right : {w : Write} {n : ℕ} {sent : List ℕ} → Ours (Writes w) n sent → (k : ℕ) → k < n → sealed_right (data_size w) (own_in (Writes w) n sent k) ≡ true
unfolding own_in
own-right {w} {n} ours k h =
    ap (λ (frame : List ℕ). sealed_right (data_size w) (row_at (width_of (Writes w)) (n - suc k) (drop head_size frame))) ours.built
    ∙ own_data_right ours.code n ours.values w ours.its (values_of ours) k h

-- ---- with some monitors' checks wrong

module _ (table : List ℕ) (sound-table : sound table ≡ true) (w : Write) {sent came : List ℕ} (spoilt : Spoilt w (monitors table) sent came) where
  abbrev n : ℕ
  n = monitors table

  abbrev ours : Ours (Writes w) n sent
  ours = spoilt.ours

  sent_none : (room : ℕ) → Passed (frame_refusals table sent room)
  sent_none = sent_passes table sent came sound-table ours spoilt.as_long spoilt.same_head

  sent_its : command_in sent ≡ Writes w
  sent_its = sent_command table sent came sound-table ours spoilt.as_long spoilt.same_head

  pub came-none : (room : ℕ) → Passed (frame_refusals table came room)
  came-none = came-passes table sent came sound-table ours spoilt.as_long spoilt.same_head

  pub came-its : command_in came ≡ Writes w
  came-its = came-command table sent came sound-table ours spoilt.as_long spoilt.same_head

  -- a monitor's own bytes are right where they came as they were sent, and nowhere else
  pub right-unhit : (k : ℕ) → k < n → sealed_right (data_size w) (own_in (Writes w) n came k) ≡ unhit (Writes w) n sent came k
  unfolding unhit
  right-unhit k h = by (spoilt.each k h) (unhit (Writes w) n sent came k) refl
    where
      by : (unhit (Writes w) n sent came k ≡ true) ⊎ (sealed_right (data_size w) (own_in (Writes w) n came k) ≡ false)
          → (b : Bool) → unhit (Writes w) n sent came k ≡ b → sealed_right (data_size w) (own_in (Writes w) n came k) ≡ b
      by told true e = ap (sealed_right (data_size w)) (same_are (own_in (Writes w) n came k) (own_in (Writes w) n sent k) e) ∙ own-right ours k h
      by (inl as_sent) false e = absurd (false≢true (sym e ∙ as_sent))
      by (inr wrong) false e = wrong

  -- so as many take it as were not hit and are not in LPCM
  abbrev takes_at_lem : ℕ → Bool
  takes_at_lem k = not (in_lpcm (row_at record_size k table)) && sealed_right (data_size w) (own_in (Writes w) n came k)

  taken-unhit : count takes_at_lem (tabulate (λ k. k) 0 n) ≡ unhit_awake (Writes w) n table sent came
  unfolding unhit_awake
  taken-unhit = count_alike n (λ k h. ap (λ (b : Bool). not (in_lpcm (row_at record_size k table)) && b) (right-unhit k h))

  -- and in a chain with none in LPCM as were not hit
  pub awake_unhit : Awake n table → unhit_awake (Writes w) n table sent came ≡ unhit_of (Writes w) n sent came
  unfolding unhit_awake unhit_of
  awake_unhit awake = count_alike n (λ k h. ap (λ (b : Bool). not b && unhit (Writes w) n sent came k) (awake k h))

  -- ---- what comes of it

  pub struck_answer : (w ≡ Wrrr → ⊥) → (room : ℕ) → answer table came room ≡ took (unhit_awake (Writes w) n table sent came) 0
  unfolding own_in
  struck_answer other room = write_answer table came room (came-none room) w other came-its ∙ ap (λ (taken : ℕ). took taken 0) taken-unhit

  pub struck_answer_awake : (w ≡ Wrrr → ⊥) → Awake n table → (room : ℕ) → answer table came room ≡ took (unhit_of (Writes w) n sent came) 0
  struck_answer_awake other awake room = struck_answer other room ∙ ap (λ (taken : ℕ). took taken 0) (awake_unhit awake)

  pub struck_no_reply : (buffer : List ℕ) → reply_after table came buffer ≡ buffer
  struck_no_reply buffer = write_no_reply table came buffer (came-none (length buffer)) w came-its

  module _ (room k : ℕ) (h : k < n) where
    pub struck_kept : row_at record_size k (table_after table came room) ≡ keeps (Writes w) (own_in (Writes w) n came k) (row_at record_size k table)
    unfolding own_in
    struck_kept = kept_at table came room (came-none room) came-its k h

    pub struck_hit : (w ≡ Wrrr → ⊥) → unhit (Writes w) n sent came k ≡ false → row_at record_size k (table_after table came room) ≡ locked (row_at record_size k table)
    struck_hit other e =
        struck_kept
        ∙ keeps_wrong w (own_in (Writes w) n came k) (row_at record_size k table) (needs_but_wrrr w other) (right-unhit k h ∙ e)

    -- one in LPCM, hit or not
    pub struck_lpcm : in_lpcm (row_at record_size k table) ≡ true → row_at record_size k (table_after table came room) ≡ locked (row_at record_size k table)
    struck_lpcm e = struck_kept ∙ keeps-none w (own_in (Writes w) n came k) (row_at record_size k table) e

    pub struck_unhit : unhit (Writes w) n sent came k ≡ true → row_at record_size k (table_after table came room) ≡ row_at record_size k (table_after table sent room)
    unfolding unhit own_in
    struck_unhit e =
        struck_kept
        ∙ ap (λ (own : List ℕ). keeps (Writes w) own (row_at record_size k table)) (same_are (own_in (Writes w) n came k) (own_in (Writes w) n sent k) e)
        ∙ sym (kept_at table sent room (sent_none room) sent_its k h)

  -- ---- someone is hit

  -- where none is hit nothing was turned over
  pub all-unhit : ((k : ℕ) → k < n → unhit (Writes w) n sent came k ≡ true) → came ≡ sent
  unfolding unhit own_in
  all-unhit each =
      sym (take-append-drop head_size came) ∙ ap₂ (λ (a b : List ℕ). a ++ b) spoilt.same_head same_rest ∙ take-append-drop head_size sent
    where
      whole : (frame : List ℕ) → length frame ≡ frame_length (Writes w) n → length (drop head_size frame) ≡ n * width_of (Writes w)
      whole frame e = length-drop head_size frame ∙ omega (arith, mul_comm n (width_of (Writes w)))

      came-long : length came ≡ frame_length (Writes w) n
      came-long = spoilt.as_long ∙ sent_long ours

      parts : (frame : List ℕ) → List (List ℕ)
      parts frame = write_payloads (width_of (Writes w)) n (drop head_size frame)

      same_parts : parts came ≡ parts sent
      same_parts =
          let of-came = length-write_payloads (width_of (Writes w)) n (drop head_size came) in
          ext_get_or [] (parts came) (parts sent) (of-came ∙ sym (length-write_payloads (width_of (Writes w)) n (drop head_size sent)))
          (λ k h. let there : k < n = omega arith in
          write_at (width_of (Writes w)) n (drop head_size came) k [] there
          ∙ same_are _ _ (each k there)
          ∙ sym (write_at (width_of (Writes w)) n (drop head_size sent) k [] there))

      same_rest : drop head_size came ≡ drop head_size sent
      same_rest =
          sym (write_back (width_of (Writes w)) n (drop head_size came) (whole came came-long))
          ∙ ap write_data same_parts
          ∙ write_back (width_of (Writes w)) n (drop head_size sent) (whole sent (sent_long ours))

  pub struck_some : (came ≡ sent → ⊥) → unhit_of (Writes w) n sent came < n
  unfolding unhit_of
  struck_some turned = by (dec_lt (unhit_of (Writes w) n sent came) n)
    where
      monitors_of : length (tabulate (λ k. k) 0 n) ≡ n
      monitors_of = length-tabulate (λ k. k) 0 n

      each : n ≤ unhit_of (Writes w) n sent came → (k : ℕ) → k < n → unhit (Writes w) n sent came k ≡ true
      each all k h = told (unhit (Writes w) n sent came k) refl
        where
          told : (b : Bool) → unhit (Writes w) n sent came k ≡ b → unhit (Writes w) n sent came k ≡ true
          told true e = e
          told false e =
              absurd
              (omega
              (arith, monitors_of, count_fails (unhit (Writes w) n sent came) (tabulate (λ k. k) 0 n) k 0 (omega (arith, monitors_of)) (ap (unhit (Writes w) n sent came) (at_each (λ k. k) n k h) ∙ e)))

      by : Dec (unhit_of (Writes w) n sent came < n) → unhit_of (Writes w) n sent came < n
      by (yes some) = some
      by (no none) = absurd (turned (all-unhit (each (omega arith))))

  -- so fewer than N take it
  pub struck_fewer : (came ≡ sent → ⊥) → unhit_awake (Writes w) n table sent came < n
  unfolding unhit_awake unhit_of
  struck_fewer turned = omega (arith, struck_some turned, count_both (λ k. not (in_lpcm (row_at record_size k table))) (unhit (Writes w) n sent came) (tabulate (λ k. k) 0 n))
