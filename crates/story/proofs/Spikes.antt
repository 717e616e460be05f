-- What a spike on the wire can do (L7). The part of a spike behind the command that hit a monitor's own bytes is a spike, and their check sees it: so
-- the write is one with some monitors' checks wrong. WRRR needs no check. A spike in the command is seen by the command's check.
-- Assumes nothing.
use mathlib.Core.Path.{◌≡◌, refl, sym, ap, ◌∙◌}
use mathlib.Core.Bool.{Bool, true, false, not}
use mathlib.Core.List.{List}
use mathlib.Core.Logic.{◌⊎◌, inl, inr}
use Prim.Native.Nat.{ℕ, suc, ◌+◌, ◌-◌, ◌*◌, ◌≤◌, ◌<◌, min}
use native.Mathlib.Omega.{arith}
use lib.ListN.{length, get_or, take, drop, length-take, length-drop}
use lib.Seq.{ext_get_or, get_or-take, get_or-drop}
use borrow.Author.Tests.{le-ltb}
use Rattle.laws.specs.Bits.{bits_of_bytes, Bytes}
use Rattle.laws.specs.Rows.{row_at}
use Rattle.laws.proofs.BitStrings.{length-bits_of_bytes, bits_take, bits_drop, bytes-told}
use Rattle.laws.proofs.Same.{are_same, same_are, not_same}
use Rattle.pec.specs.Words.{command_right, sealed_right}
use Rattle.pec.specs.Spikes.{Spike}
use Rattle.pec.proofs.Messages.{bytes_of-take, bytes_of-drop}
use Rattle.pec.proofs.Spikes.{spike-long, spike-drop, spike-take, sealed_hit, command_hit}
use Rattle.refusals.specs.declared.Refusal.TheVariants.{CommandWrong}
use Rattle.refusals.specs.Order.{Passed}
use Rattle.records.specs.declared.commands.Command.{Command}
use Rattle.records.specs.declared.commands.Command.TheVariants.{Writes}
use Rattle.records.specs.declared.commands.Write.{Write}
use Rattle.records.specs.declared.commands.Write.TheVariants.{Wrrr}
use Rattle.records.specs.Record.{record_size, retention, unlocked, in_lpcm, byte_of, on_bytes}
use Rattle.records.specs.Commands.{data_size, width_of}
use Rattle.monitor.specs.Effects.{locked, counted}
use Rattle.judging.specs.Table.{monitors, sound}
use Rattle.judging.specs.Refusals.{command_in}
use Rattle.serving.specs.Served.{awake_of}
use Rattle.chain.specs.Frame.{frame_refusals, answer, table_after, reply_after}
use Rattle.chain.proofs.Refused.{refused-table, refused-reply}
use Rattle.host.specs.Frames.{head_size}
use Rattle.host.proofs.FrameFor.{head-fits}
use Rattle.story.specs.Numbers.{First}
use Rattle.story.specs.Spikes.{data_places, StruckData, StruckCommand, own_in, unhit, StruckEach, Spoilt}
use Rattle.story.proofs.Accepted.{frame_refused, wrrr_answer, own-long, own-all-bytes}
use Rattle.story.proofs.Retention.{wrrr_unlocked, wrrr_locked}
use Rattle.story.proofs.Spoilt.{sent_long, sent_right, own-right, came-none, came-its, struck_kept}
use Rattle.std.specs.Prelude.{Err}
use Rattle.chain.specs.Frame.{took}

-- ---- by bits: a monitor is hit by any bit of its own bytes, and by nothing else

-- the place of a bit of theirs in the frame
abbrev place_of : Command → ℕ → ℕ → ℕ → ℕ
place_of c n k i = 8 * head_size + 8 * ((n - suc k) * width_of c) + i

own_bit : (c : Command) (n : ℕ) (frame : List ℕ) (k i : ℕ) → i < 8 * width_of c → get_or (bits_of_bytes (own_in c n frame k)) i false ≡ get_or (bits_of_bytes frame) (place_of c n k i) false
unfolding own_in row_at
own_bit c n frame k i h =
    let m = n - suc k in
    let there : 8 * head_size + (8 * (m * width_of c) + i) ≡ place_of c n k i = omega arith in
    ap (λ (bs : List Bool). get_or bs i false)
    (bits_take (width_of c) (drop (m * width_of c) (drop head_size frame))
    ∙ ap (take (8 * width_of c)) (bits_drop (m * width_of c) (drop head_size frame) ∙ ap (drop (8 * (m * width_of c))) (bits_drop head_size frame)))
    ∙ get_or-take (8 * width_of c) (drop (8 * (m * width_of c)) (drop (8 * head_size) (bits_of_bytes frame))) i false h
    ∙ get_or-drop (8 * (m * width_of c)) (drop (8 * head_size) (bits_of_bytes frame)) i false
    ∙ get_or-drop (8 * head_size) (bits_of_bytes frame) (8 * (m * width_of c) + i) false
    ∙ ap (λ (j : ℕ). get_or (bits_of_bytes frame) j false) there

module _ (c : Command) (n : ℕ) (sent came : List ℕ) (k : ℕ) where
  pub hit_by_bit : (i : ℕ) → i < 8 * width_of c → (get_or (bits_of_bytes came) (place_of c n k i) false ≡ get_or (bits_of_bytes sent) (place_of c n k i) false → ⊥)
      → unhit c n sent came k ≡ false
  unfolding unhit
  hit_by_bit i h apart = by (unhit c n sent came k) refl
    where
      by : (b : Bool) → unhit c n sent came k ≡ b → unhit c n sent came k ≡ false
      by true e =
          absurd
          (apart
          (sym (own_bit c n came k i h)
          ∙ ap (λ (own : List ℕ). get_or (bits_of_bytes own) i false) (same_are (own_in c n came k) (own_in c n sent k) e)
          ∙ own_bit c n sent k i h))
      by false e = e

  pub unhit-by_bits : Bytes sent → Bytes came → length came ≡ length sent
      → ((i : ℕ) → i < 8 * width_of c → get_or (bits_of_bytes came) (place_of c n k i) false ≡ get_or (bits_of_bytes sent) (place_of c n k i) false) → unhit c n sent came k ≡ true
  unfolding unhit own_in row_at
  unhit-by_bits of-sent of-came as_long each =
      are_same
      (bytes-told (own_in c n came k) (own_in c n sent k) (bytes_of-own came of-came) (bytes_of-own sent of-sent)
      (ext_get_or false (bits_of_bytes (own_in c n came k)) (bits_of_bytes (own_in c n sent k)) same-long
      (λ i h. let within : i < 8 * width_of c = omega (arith, h, bits_in came) in own_bit c n came k i within ∙ each i within ∙ sym (own_bit c n sent k i within))))
    where
      m : ℕ
      m = (n - suc k) * width_of c

      bytes_of-own : (frame : List ℕ) → Bytes frame → Bytes (take (width_of c) (drop m (drop head_size frame)))
      bytes_of-own frame h = bytes_of-take (drop m (drop head_size frame)) (bytes_of-drop (drop head_size frame) (bytes_of-drop frame h head_size) m) (width_of c)

      long : (frame : List ℕ) → length (take (width_of c) (drop m (drop head_size frame))) ≡ min (width_of c) (length frame - head_size - m)
      long frame = length-take (width_of c) (drop m (drop head_size frame)) ∙ ap (min (width_of c)) (length-drop m (drop head_size frame) ∙ ap (λ (l : ℕ). l - m) (length-drop head_size frame))

      bits_in : (frame : List ℕ) → length (bits_of_bytes (take (width_of c) (drop m (drop head_size frame)))) ≤ 8 * width_of c
      bits_in frame = omega (arith, length-bits_of_bytes (take (width_of c) (drop m (drop head_size frame))), length-take (width_of c) (drop m (drop head_size frame)))

      same-long : length (bits_of_bytes (take (width_of c) (drop m (drop head_size came)))) ≡ length (bits_of_bytes (take (width_of c) (drop m (drop head_size sent))))
      same-long =
          length-bits_of_bytes (take (width_of c) (drop m (drop head_size came)))
          ∙ ap (λ (l : ℕ). 8 * l) (long came ∙ ap (λ (l : ℕ). min (width_of c) (l - head_size - m)) as_long ∙ sym (long sent))
          ∙ sym (length-bits_of_bytes (take (width_of c) (drop m (drop head_size sent))))

-- ---- struck behind its command

-- a spike in the frame is one at each monitor that it hits
pub struck_each : {w : Write} {n : ℕ} {sent came : List ℕ} → StruckData (Writes w) n sent came → StruckEach w n sent came
unfolding unhit
struck_each {w} {n} {sent} {came} struck =
    record {
      ours = struck.ours;
      as_long = spike-long struck.spike;
      same_head = struck.same_head;
      each = λ k h. by k (unhit (Writes w) n sent came k) refl;
    }
  where
    hit : (k : ℕ) → (own_in (Writes w) n came k ≡ own_in (Writes w) n sent k → ⊥) → Spike data_places (own_in (Writes w) n sent k) (own_in (Writes w) n came k)
    hit k apart = unfold own_in row_at in
        spike-take
        (spike-drop (spike-drop struck.spike head_size (λ e. apart (ap (row_at (width_of (Writes w)) (n - suc k)) e))) ((n - suc k) * width_of (Writes w))
        (λ e. apart (ap (take (width_of (Writes w))) e)))
        (width_of (Writes w)) apart

    by : (k : ℕ) (b : Bool) → unhit (Writes w) n sent came k ≡ b
        → (unhit (Writes w) n sent came k ≡ true) ⊎ Spike data_places (own_in (Writes w) n sent k) (own_in (Writes w) n came k)
    by k true e = inl e
    by k false e = inr (hit k (not_same (own_in (Writes w) n came k) (own_in (Writes w) n sent k) e))

-- which the check of its own bytes sees
pub each_spoilt : {w : Write} {n : ℕ} {sent came : List ℕ} → StruckEach w n sent came → Spoilt w n sent came
each_spoilt {w} {n} {sent} {came} struck =
    record { ours = struck.ours; as_long = struck.as_long; same_head = struck.same_head; each = λ k h. by k h (struck.each k h) }
  where
    by : (k : ℕ) → k < n → (unhit (Writes w) n sent came k ≡ true) ⊎ Spike data_places (own_in (Writes w) n sent k) (own_in (Writes w) n came k)
        → (unhit (Writes w) n sent came k ≡ true) ⊎ (sealed_right (data_size w) (own_in (Writes w) n came k) ≡ false)
    by k h (inl e) = inl e
    by k h (inr spike) = inr (sealed_hit (data_size w) spike (own-right struck.ours k h))

pub struck_spoilt : {w : Write} {n : ℕ} {sent came : List ℕ} → StruckData (Writes w) n sent came → Spoilt w n sent came
struck_spoilt struck = each_spoilt (struck_each struck)

-- ---- WRRR, which needs no check

module _ (table : List ℕ) (sound-table : sound table ≡ true) {sent came : List ℕ} (struck : StruckData (Writes Wrrr) (monitors table) sent came) (room : ℕ) where
  its-passes : Passed (frame_refusals table came room)
  its-passes = came-none table sound-table Wrrr (struck_spoilt struck) room

  its-command : command_in came ≡ Writes Wrrr
  its-command = came-its table sound-table Wrrr (struck_spoilt struck)

  pub struck_wrrr_answer : answer table came room ≡ took (awake_of (monitors table) table) 0
  struck_wrrr_answer = wrrr_answer table came room its-passes its-command

  module _ (k : ℕ) (h : k < monitors table) where
    abbrev before : List ℕ
    before = row_at record_size k table

    pub struck_wrrr_stores : in_lpcm before ≡ false → byte_of unlocked before ≡ 1
        → row_at record_size k (table_after table came room) ≡ on_bytes retention (λ i old. get_or (own_in (Writes Wrrr) (monitors table) came k) i 0) (counted (locked before))
    unfolding own_in
    struck_wrrr_stores awake was =
        struck_kept table sound-table Wrrr (struck_spoilt struck) room k h
        ∙ wrrr_unlocked (own_in (Writes Wrrr) (monitors table) came k) before (own-long table came room its-passes its-command k h) awake
        (λ i j. own-all-bytes table came room its-passes struck.spike.came-bytes (Writes Wrrr) k i) was

    pub struck_wrrr_locked : in_lpcm before ≡ false → (byte_of unlocked before ≡ 1 → ⊥) → row_at record_size k (table_after table came room) ≡ counted (locked before)
    unfolding own_in
    struck_wrrr_locked awake was =
        struck_kept table sound-table Wrrr (struck_spoilt struck) room k h
        ∙ wrrr_locked (own_in (Writes Wrrr) (monitors table) came k) before (own-long table came room its-passes its-command k h) awake was

-- ---- any frame, struck in its command

module _ {c : Command} {m : ℕ} {sent came : List ℕ} (struck : StruckCommand c m sent came) where
  four-long : 4 ≤ length came
  four-long = omega (arith, spike-long struck.spike, sent_long struck.ours, head-fits c m)

  command_wrong : command_right (take head_size came) ≡ false
  command_wrong = command_hit (spike-take struck.spike head_size struck.hit_head) (sent_right struck.ours)

  third : (table : List ℕ) (room : ℕ) → sound table ≡ true → First (frame_refusals table came room) CommandWrong
  unfolding frame_refusals
  third table room s = inr (ap not s, inr (le-ltb _ _ four-long, inl (ap not command_wrong, refl)))

  pub struck_refused_any : (table : List ℕ) (room : ℕ) → sound table ≡ true → answer table came room ≡ Err CommandWrong
  struck_refused_any table room s = frame_refused table came room CommandWrong (third table room s)

  pub struck_refused : (table buffer : List ℕ) → sound table ≡ true
      → (answer table came (length buffer) ≡ Err CommandWrong) × (table_after table came (length buffer) ≡ table) × (reply_after table came buffer ≡ buffer)
  struck_refused table buffer s =
      let refused = struck_refused_any table (length buffer) s in (
        refused,
        refused-table table came (length buffer) CommandWrong refused,
        refused-reply table came buffer CommandWrong refused,
      )
