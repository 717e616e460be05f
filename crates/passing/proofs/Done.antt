-- What comes of an operation that was judged: where it is refused all stays, and where it has its place it comes of the monitor there, and what that sends is
-- handed out.
-- Assumes nothing.
use mathlib.Core.Path.{◌≡◌, sym, ap, ◌∙◌, subst⁻¹}
use mathlib.Core.Bool.{Bool, cond, not, not-not}
use mathlib.Core.List.{List}
use Prim.Native.Nat.{ℕ, ◌+◌, ◌-◌, ◌*◌, ◌≤◌, ◌<◌}
use lib.Dec.{eqb}
use lib.ListN.{length}
use Rattle.laws.specs.Rows.{row_at}
use Rattle.refusals.specs.declared.Refusal.{Refusal}
use Rattle.refusals.specs.Order.{Row, decide}
use Rattle.records.specs.Record.{record_size}
use Rattle.records.specs.Commands.{most_monitors}
use Rattle.judging.specs.Table.{monitors, changed_at}
use Rattle.judging.specs.Places.{place_refusals, placed}
use Rattle.judging.proofs.Soundness.{is_sound}
use Rattle.judging.proofs.Place.{Place, there, fits}
use Rattle.heartbeats.specs.declared.steps.Beat.{Beat}
use Rattle.heartbeats.specs.Steps.{is_timeout, towards_a, answers, late}
use Rattle.passing.specs.declared.operations.Relayed.{Relayed}
use Rattle.passing.specs.declared.operations.Relayed.TheVariants.{Stopped, SentOn}
use Rattle.passing.specs.declared.operations.TimedOut.{TimedOut}
use Rattle.passing.specs.declared.operations.TimedOut.TheVariants.{NoTimeoutMonitor, RanOut}
use Rattle.passing.specs.Hops.{bytes_sent, wake_sends, wake_leaves, hop_sends, hop_leaves, way, sent_along, left_along, beat_sends, beat_leaves}
use Rattle.passing.specs.Operations.{
  handed_out,
  sent_towards,
  wake_refusals,
  relay_refusals,
  relayed_at,
  table_after_relay,
  out_after_relay,
  time_out_refusals,
  timed_out,
  table_after_time_out,
}
use Rattle.passing.proofs.Judged.{refused_so, accepted_so, index_so, wake_place, relay_place}
use Rattle.std.specs.Prelude.{Option, Some, None, Result, Ok, Err}
use Rattle.heartbeats.specs.Steps.{sends}
use Rattle.passing.specs.declared.operations.End.{End}
use Rattle.passing.specs.declared.operations.End.TheVariants.{A, B}

-- ---- the record at its place, as the code counts it, from 0

module _ (table : List ℕ) (position room : ℕ) {k : ℕ} where
  lies : Place table position → k ≡ position - 1 → k * record_size + record_size ≤ length table
  lies p e = subst⁻¹ (λ (j : ℕ). j * record_size + record_size ≤ length table) e (fits table position p)

  pub wake_lies : decide (wake_refusals table position room) Err (Ok (position - 1)) ≡ Ok k → k * record_size + record_size ≤ length table
  wake_lies e = lies (wake_place table position room e).0 (index_so (wake_refusals table position room) (position - 1) e)

  pub relay_lies : (bytes : ℕ) → decide (relay_refusals table position bytes room) Err (Ok (position - 1)) ≡ Ok k
      → k * record_size + record_size ≤ length table
  relay_lies bytes e = lies (relay_place table position room bytes e).0 (index_so (relay_refusals table position bytes room) (position - 1) e)

  -- among all the monitors
  pub wake_among : decide (wake_refusals table position room) Err (Ok (position - 1)) ≡ Ok k
      → (k < monitors table) × (monitors table ≤ most_monitors) × (length table ≡ monitors table * record_size)
  wake_among e =
      let p = (wake_place table position room e).0 in
      let s = is_sound table p.its-sound in
      (subst⁻¹ (λ (j : ℕ). j < monitors table) (index_so (wake_refusals table position room) (position - 1) e) (there table position p), s.few, s.whole)

-- ---- whether something was sent, by the bytes

module _ {some : Bool} (bytes : List ℕ) (s : some ≡ not (eqb (length bytes) 0)) where
  by_bytes_lem : {A : Type 0} (nothing something : A) → cond (not some) nothing something ≡ cond (eqb (length bytes) 0) nothing something
  by_bytes_lem nothing something = ap (λ (b : Bool). cond b nothing something) (ap not s ∙ not-not (eqb (length bytes) 0))

  by_record : (r : List ℕ) {to-a : Bool} → to-a ≡ towards_a r → {sent : Option End} → sent ≡ cond (not some) None (cond to-a (Some A) (Some B)) → sent ≡ sent_towards r bytes
  unfolding sent_towards
  by_record r a e =
      e
      ∙ ap (λ (b : Bool). cond (not some) None (cond b (Some A) (Some B))) a
      ∙ by_bytes_lem None (cond (towards_a r) (Some A) (Some B))

-- ---- what comes of it

module _ (rows : List Row) (j : ℕ) where
  done_at : {k : ℕ} → decide rows Err (Ok j) ≡ Ok k → {A : Type 0} (refused : Refusal → A) (f : ℕ → A) {x : A} → x ≡ f k → x ≡ decide rows refused (f j)
  done_at e refused f h = h ∙ ap f (index_so rows j e) ∙ sym (accepted_so rows j refused (f j) e)

  module _ (table out : List ℕ) (sends leaves : ℕ → List ℕ → List ℕ) {A : Type 0} (refused : Refusal → A) (answer : List ℕ → List ℕ → A) where
    -- the answer, the table and the buffer
    abbrev Comes : A → List ℕ → List ℕ → Type 0
    Comes x after out-after =
        (x ≡ decide rows refused (answer (row_at record_size j table) (sends j table)))
        × ((after ≡ decide rows (λ r. table) (leaves j table)) × (out-after ≡ decide rows (λ r. out) (handed_out (sends j table) out)))

    all_stays : {r : Refusal} → decide rows Err (Ok j) ≡ Err r → Comes (refused r) table out
    all_stays e = (sym (refused_so rows j refused _ e), (sym (refused_so rows j (λ r. table) _ e), sym (refused_so rows j (λ r. out) _ e)))

    all_done : {k : ℕ} → decide rows Err (Ok j) ≡ Ok k → {bytes : List ℕ} → bytes ≡ sends k table
        → {x : A} → x ≡ answer (row_at record_size k table) bytes → {after : List ℕ} → after ≡ leaves k table → {out-after : List ℕ} → out-after ≡ handed_out bytes out
        → Comes x after out-after
    all_done {k} e {bytes} b h l o = (
      done_at e refused (λ (i : ℕ). answer (row_at record_size i table) (sends i table)) (h ∙ ap (answer (row_at record_size k table)) b),
      (
        done_at e (λ r. table) (λ (i : ℕ). leaves i table) l,
        done_at e (λ r. out) (λ (i : ℕ). handed_out (sends i table) out) (o ∙ ap (λ (bs : List ℕ). handed_out bs out) b),
      ),
    )

-- ---- of a wake and of a whole heartbeat: it is sent as the record of the manager has it

module _ (table : List ℕ) (position : ℕ) (out : List ℕ) (sends leaves : ℕ → List ℕ → List ℕ) where
  abbrev woken-rows : List Row
  woken-rows = wake_refusals table position (length out)

  pub unsent_so : {r : Refusal} → decide woken-rows Err (Ok (position - 1)) ≡ Err r
      → Comes woken-rows (position - 1) table out sends leaves Err (λ r bytes. Ok (sent_towards r bytes)) (Err r) table out
  unsent_so e = all_stays woken-rows (position - 1) table out sends leaves Err (λ r bytes. Ok (sent_towards r bytes)) e

  pub sent_so : {k : ℕ} → decide woken-rows Err (Ok (position - 1)) ≡ Ok k → {bytes : List ℕ} → bytes ≡ sends k table
      → {some : Bool} → some ≡ not (eqb (length bytes) 0) → {to-a : Bool} → to-a ≡ towards_a (row_at record_size k table)
      → {x : Option End} → x ≡ cond (not some) None (cond to-a (Some A) (Some B)) → {after : List ℕ} → after ≡ leaves k table
      → {out-after : List ℕ} → out-after ≡ handed_out bytes out → Comes woken-rows (position - 1) table out sends leaves Err (λ r bytes. Ok (sent_towards r bytes)) (Ok x) after out-after
  sent_so {k} e {bytes} b s a h l o =
      all_done woken-rows (position - 1) table out sends leaves Err (λ r bytes. Ok (sent_towards r bytes)) e b (ap Ok (by_record bytes s (row_at record_size k table) a h)) l o

-- the way of a whole heartbeat is the one that the record of the manager has
module _ (k : ℕ) (table : List ℕ) {to-a : Bool} (a : to-a ≡ towards_a (row_at record_size k table)) {bytes : List ℕ} where
  pub sent_all-along : bytes ≡ sent_along (way to-a (monitors table) k) (wake_sends k table) (wake_leaves k table) → bytes ≡ beat_sends k table
  unfolding beat_sends
  sent_all-along e = e ∙ ap (λ (d : Bool). sent_along (way d (monitors table) k) (wake_sends k table) (wake_leaves k table)) a

  pub left-all-along : bytes ≡ left_along (way to-a (monitors table) k) (wake_sends k table) (wake_leaves k table) → bytes ≡ beat_leaves k table
  unfolding beat_leaves
  left-all-along e = e ∙ ap (λ (d : Bool). left_along (way d (monitors table) k) (wake_sends k table) (wake_leaves k table)) a

-- ---- of a message that reaches a monitor: by the bytes that it sends on

abbrev relayed-by : List ℕ → List ℕ → Result Relayed Refusal
relayed-by r bytes = Ok (cond (eqb (length bytes) 0) Stopped SentOn)

module _ (table : List ℕ) (position : ℕ) (message out : List ℕ) where
  abbrev relayed-rows : List Row
  relayed-rows = relay_refusals table position (length message) (length out)

  abbrev RelayComes : Result Relayed Refusal → List ℕ → List ℕ → Type 0
  RelayComes x after out-after =
      (x ≡ relayed_at table position message (length out))
      × ((after ≡ table_after_relay table position message (length out)) × (out-after ≡ out_after_relay table position message out))

  pub relay_stays : {r : Refusal} → decide relayed-rows Err (Ok (position - 1)) ≡ Err r → RelayComes (Err r) table out
  unfolding relayed_at table_after_relay out_after_relay
  relay_stays e =
      all_stays relayed-rows (position - 1) table out (λ i t. hop_sends i message t) (λ i t. hop_leaves i message t) Err relayed-by e

  pub relay_done : {k : ℕ} → decide relayed-rows Err (Ok (position - 1)) ≡ Ok k → {beat : Option Beat} → beat ≡ answers message (row_at record_size k table)
      → {some : Bool} → some ≡ not (eqb (length (bytes_sent beat)) 0) → {told : Bool} → some ≡ told → {after : List ℕ} → after ≡ hop_leaves k message table
      → {out-after : List ℕ} → out-after ≡ handed_out (bytes_sent beat) out → RelayComes (Ok (cond (not told) Stopped SentOn)) after out-after
  unfolding relayed_at table_after_relay out_after_relay hop_sends
  relay_done e {beat} b s h l o =
      all_done relayed-rows (position - 1) table out (λ i t. hop_sends i message t) (λ i t. hop_leaves i message t) Err relayed-by e (ap bytes_sent b)
      (ap Ok (by_bytes_lem (bytes_sent beat) (sym h ∙ s) Stopped SentOn)) l o

-- ---- of the time that runs out

module _ (table : List ℕ) (position : ℕ) where
  abbrev TimeOutComes : Result TimedOut Refusal → List ℕ → Type 0
  TimeOutComes x after = (x ≡ timed_out table position) × (after ≡ table_after_time_out table position)

  pub time_stays : {r : Refusal} → placed table position ≡ Err r → TimeOutComes (Err r) table
  unfolding timed_out table_after_time_out time_out_refusals placed place_refusals
  time_stays e =
      let rows = time_out_refusals table position in
      (sym (refused_so rows (position - 1) Err _ e), sym (refused_so rows (position - 1) (λ r. table) _ e))

  pub time_done : {k : ℕ} → placed table position ≡ Ok k → {ran : Bool} → ran ≡ is_timeout (row_at record_size k table)
      → {told : Bool} → ran ≡ told → {after : List ℕ} → after ≡ changed_at k late table → TimeOutComes (Ok (cond told RanOut NoTimeoutMonitor)) after
  unfolding timed_out table_after_time_out time_out_refusals placed place_refusals
  time_done e t h l =
      let rows = time_out_refusals table position in (
        done_at rows (position - 1) e Err (λ (i : ℕ). Ok (cond (is_timeout (row_at record_size i table)) RanOut NoTimeoutMonitor)) (ap (λ (b : Bool). Ok (cond b RanOut NoTimeoutMonitor)) (sym h ∙ t)),
        done_at rows (position - 1) e (λ r. table) (λ (i : ℕ). changed_at i late table) l,
      )
