-- WRRR, whatever its check, at a monitor that is not in LPCM. Where its retention was unlocked it stores the first six of its own eight bytes, and
-- where not nothing; both are counted. Through frames: ULRR unlocks; RDRR after a WRRR shows of a monitor that was unlocked and not in LPCM what the
-- WRRR had for it, and of any other what it held.
-- Assumes nothing.
use mathlib.Core.Path.{◌≡◌, refl, sym, ap, ◌∙◌}
use mathlib.Core.Bool.{Bool, true, false}
use mathlib.Core.List.{List}
use mathlib.Core.Logic.{◌⊎◌, inl, inr}
use Prim.Native.Nat.{ℕ, ◌<◌}
use native.Mathlib.Nat.{lt_of_lt_of_le}
use native.Mathlib.Omega.{arith}
use lib.Dec.{lit<, lit≤}
use lib.ListN.{length, get_or, take, drop, length-drop, length-take}
use lib.Seq.{ext_get_or, take_at}
use borrow.Author.Tests.{eq-eqb, ne_eqb}
use Rattle.laws.specs.Rows.{row_at}
use Rattle.laws.proofs.Lists.{get_d_any}
use Rattle.laws.proofs.Tables.{at_each}
use Rattle.refusals.specs.Order.{Passed}
use Rattle.records.specs.declared.commands.Bare.TheVariants.{Ulrr}
use Rattle.records.specs.declared.commands.Command.TheVariants.{Reads, Writes, Bares}
use Rattle.records.specs.declared.commands.Write.TheVariants.{Wrrr}
use Rattle.records.specs.Record.{record_size, retention, unlocked, in_lpcm, bytes_of, byte_of, on_bytes}
use Rattle.records.specs.Commands.{rdrr, register_size, payload_size}
use Rattle.records.proofs.Anew.{anew_inside}
use Rattle.writes.specs.Writes.{rules_of, opens}
use Rattle.writes.proofs.Written.{opens-unlocked}
use Rattle.monitor.specs.Effects.{locked, counted, done, accepts, keeps}
use Rattle.monitor.proofs.Keeping.{good_unchecked, accepts_awake, keeps_opened, keeps-none}
use Rattle.monitor.proofs.Sound.{length-locked, length-counted}
use Rattle.monitor.proofs.Spares.{counted_spares, keeps_spares}
use Rattle.reads.specs.Shown.{shown_part}
use Rattle.reads.specs.Reply.{six_bytes, register, reply}
use Rattle.judging.specs.Table.{monitors}
use Rattle.judging.specs.Refusals.{command_in}
use Rattle.chain.specs.Frame.{frame_refusals, table_after, reply_after}
use Rattle.story.specs.ReadsBack.{as_written}
use Rattle.story.proofs.Accepted.{kept_table, own_at, own-long, own-all-bytes, record_at, kept_at, reply-own}
use Rattle.story.proofs.OurHost.{length-register}
use Rattle.story.proofs.ReadBack.{whole_byte, stores-whole, reads_back}

-- ---- one monitor

module _ (own r : List ℕ) (l : length own ≡ payload_size) (awake : in_lpcm r ≡ false) where
  good : accepts Wrrr own r ≡ true
  good = accepts_awake Wrrr own r awake ∙ good_unchecked Wrrr own refl ∙ eq-eqb (length own) payload_size l

  opened : byte_of unlocked r ≡ 1 → opens (rules_of Wrrr) (byte_of unlocked r) ≡ true
  opened was = opens-unlocked (rules_of Wrrr) (byte_of unlocked r) refl ∙ eq-eqb (byte_of unlocked r) 1 was

  pub wrrr_unlocked : ((i : ℕ) → i < register_size → get_or own i 0 < 256) → byte_of unlocked r ≡ 1
      → keeps (Writes Wrrr) own r ≡ on_bytes retention (λ i old. get_or own i 0) (counted (locked r))
  wrrr_unlocked bytes was = stores-whole Wrrr refl refl refl own r good (opened was) bytes

  pub wrrr_locked : (byte_of unlocked r ≡ 1 → ⊥) → keeps (Writes Wrrr) own r ≡ counted (locked r)
  wrrr_locked was = keeps_opened Wrrr own r good (opens-unlocked (rules_of Wrrr) (byte_of unlocked r) refl ∙ ne_eqb (byte_of unlocked r) 1 was)

module _ (r : List ℕ) (whole : length r ≡ record_size) where
  unlocked-by_ulrr : (own : List ℕ) → byte_of unlocked (keeps (Bares Ulrr) own r) ≡ 1
  unfolding keeps done on_bytes byte_of
  unlocked-by_ulrr own =
      anew_inside (λ i old. 1) unlocked.at 1 (counted (locked r)) 0 (lit< tt) (omega (arith, length-counted (locked r), length-locked r))

  -- RDRR shows the six bytes of the retention as they lie
  shown : register rdrr r ≡ bytes_of retention r
  unfolding register six_bytes shown_part bytes_of
  shown =
      let six : length (bytes_of retention r) ≡ register_size = length-take 6 (drop retention.at r) ∙ omega (arith, length-drop retention.at r) in
      ext_get_or 0 (register rdrr r) (bytes_of retention r) (length-register rdrr r ∙ sym six)
      (λ i h.
      let within : i < 6 = lt_of_lt_of_le h (omega (arith, length-register rdrr r)) in
      at_each _ 6 i within ∙ get_d_any (bytes_of retention r) i 0xFF 0 (omega (arith, six)))

-- ---- through frames

pub ulrr_unlocks : (table frame : List ℕ) (room : ℕ) → Passed (frame_refusals table frame room) → command_in frame ≡ Bares Ulrr
    → (k : ℕ) → k < monitors table → byte_of unlocked (row_at record_size k (table_after table frame room)) ≡ 1
ulrr_unlocks table frame room none its k h =
    ap (byte_of unlocked) (kept_at table frame room none its k h) ∙ unlocked-by_ulrr (row_at record_size k table) (record_at table frame room none k h) _

module _ (table write read buffer : List ℕ) (room : ℕ) (first : Passed (frame_refusals table write room)) (wrrr : command_in write ≡ Writes Wrrr)
    (second : Passed (frame_refusals (table_after table write room) read (length buffer))) (its : command_in read ≡ Reads rdrr) (k : ℕ) (h : k < monitors table) where
  abbrev before : List ℕ
  before = row_at record_size k table

  abbrev own : List ℕ
  own = own_at table write room first (Writes Wrrr) k

  own_eight : length own ≡ payload_size
  own_eight = own-long table write room first wrrr k h

  -- the part of the reply of the monitor at k
  abbrev part : List ℕ
  part = take register_size (row_at payload_size k (reply_after (table_after table write room) read buffer))

  -- shows what it kept
  part_shows : part ≡ register rdrr (keeps (Writes Wrrr) own before)
  unfolding reply
  part_shows =
      ap (take register_size) (reply-own (table_after table write room) read buffer second rdrr its k (omega (arith, (kept_table table write room first).monitors-after)))
      ∙ take_at (register rdrr (row_at record_size k (table_after table write room))) _ register_size (length-register rdrr (row_at record_size k (table_after table write room)))
      ∙ ap (register rdrr) (kept_at table write room first wrrr k h)

  pub retained : in_lpcm before ≡ false → byte_of unlocked before ≡ 1 → ((i : ℕ) → get_or write i 0 < 256) → part ≡ take register_size own
  retained awake was bytes =
      part_shows
      ∙ reads_back Wrrr rdrr as_written (record { place = refl; six-long = refl; six_of = refl; fits = lit≤ tt; live = refl; as_many = λ six l. l; each = whole_byte Wrrr refl refl refl })
      own before (good own before own_eight awake) (opened own before own_eight awake was) (λ i j. own-all-bytes table write room first bytes (Writes Wrrr) k i) (record_at table write room first k h)

  -- one that was locked, and one in LPCM, has what it had
  in-lpcm : in_lpcm before ≡ true → part ≡ bytes_of retention before
  unfolding keeps
  in-lpcm e =
      part_shows
      ∙ ap (register rdrr) (keeps-none Wrrr own before e)
      ∙ shown (locked before) (length-locked before ∙ record_at table write room first k h)
      ∙ keeps_spares retention (Reads rdrr) own before (inr (lit≤ tt))

  pub not_retained : (byte_of unlocked before ≡ 1 → ⊥) ⊎ (in_lpcm before ≡ true) → part ≡ bytes_of retention before
  not_retained (inr e) = in-lpcm e
  not_retained (inl was) = by (in_lpcm before) refl
    where
      by : (b : Bool) → in_lpcm before ≡ b → part ≡ bytes_of retention before
      by true e = in-lpcm e
      by false e =
          part_shows
          ∙ ap (register rdrr) (wrrr_locked own before own_eight e was)
          ∙ shown (counted (locked before)) (length-counted (locked before) ∙ length-locked before ∙ record_at table write room first k h)
          ∙ counted_spares retention before (inr (lit≤ tt)) (inr (lit≤ tt))
