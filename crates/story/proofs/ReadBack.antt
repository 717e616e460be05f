-- What a read shows after a write: of one monitor, what the write makes of the first six of its own bytes. So a group written by our
-- host and read back: the first six bytes of monitor k's part of the reply are what the write makes of the k-th six of our list.
-- Configuration B, PWM group A and the LPCM configuration come back as they were written, PWM group B with FF in its last four bytes, LPCM's
-- thresholds with 0 behind their 36 bits. One law, over the write, the part that it writes and what it makes of six bytes.
-- Assumes nothing.
use mathlib.Core.Path.{◌≡◌, refl, sym, ap, ap₂, ◌∙◌}
use mathlib.Core.Bool.{true, false}
use mathlib.Core.List.{List, []}
use Prim.Native.Nat.{ℕ, zero, suc, ◌+◌, ◌-◌, ◌*◌, ◌%◌, ◌≤◌, ◌<◌}
use native.Mathlib.Nat.{mod-eq_of_lt, lt_of_lt_of_le, mul_comm}
use native.Mathlib.Omega.{arith}
use lib.Bits.{bit_and, bit_or, and_mask, and_zero_l, and_zero_r, or_zero_l, or_zero_r}
use lib.Dec.{lit≤}
use lib.ListN.{length, get_or, take, get_or-append}
use lib.Seq.{ext_get_or, length-take-le, take_at, get_or-take}
use Rattle.laws.specs.Rows.{row_at}
use Rattle.laws.proofs.Rows.{length_row-at, row_element}
use Rattle.laws.proofs.Tables.{at_each}
use Rattle.records.specs.declared.commands.Command.TheVariants.{Writes}
use Rattle.records.specs.declared.commands.Write.{Write}
use Rattle.records.specs.declared.commands.Write.TheVariants.{Wrcfgb, Wrpwma, Wrpwmb, Wrcmcfg, Wrcmcellt, Wrcmgpiot}
use Rattle.records.specs.declared.record.Part.{Part}
use Rattle.records.specs.Record.{record_size, in_lpcm, byte_of, unlocked, on_bytes}
use Rattle.records.specs.Commands.{commands, command_of, rdcfgb, rdpwma, rdpwmb, rdcmcfg, rdcmcellt, rdcmgpiot, data_size, register_size, payload_size}
use Rattle.records.proofs.Widths.{data_most}
use Rattle.writes.specs.Writes.{rules_of, changed, by_rules, opens}
use Rattle.writes.proofs.Storing.{six, as_sent}
use Rattle.writes.proofs.Written.{opens_always}
use Rattle.monitor.specs.Effects.{locked, counted, accepts, keeps}
use Rattle.monitor.specs.Spares.{sent_to}
use Rattle.reads.specs.Shown.{of_cells}
use Rattle.reads.specs.Reply.{six_bytes, register, reply}
use Rattle.records.proofs.Anew.{anew_inside, anew-same}
use Rattle.monitor.proofs.Keeping.{right-good, good_length, accepts_awake, accepts-good, keeps_opened}
use Rattle.reads.proofs.Parts.{shows_other}
use Rattle.reads.proofs.Showing.{shows}
use Rattle.monitor.proofs.Sound.{length-keeps, length-locked, length-counted}
use Rattle.judging.specs.Table.{monitors, sound}
use Rattle.chain.specs.Frame.{table_after, reply_after}
use Rattle.chain.proofs.FrameKeeps.{sound-after-frame, monitors-after-frame}
use Rattle.judging.proofs.Lent.{lent_length}
use Rattle.judging.proofs.Soundness.{is_sound}
use Rattle.host.specs.Frames.{sealed, frame_for}
use Rattle.host.proofs.Payloads.{sealed-right}
use Rattle.story.specs.ReadsBack.{ReadsBack, as_written, fixed_behind-two, three_thresholds}
use Rattle.story.proofs.OurHost.{each-keeps-its-own, each-reply-its-own, length-six, length-register}

-- a write, the part that it writes, and what it makes of six bytes
pub record Group (c : Write) (p : Part) (becomes : List ℕ → List ℕ) : Type 0 where
  pub place : (rules_of c).at ≡ p.at
  pub six-long : p.size ≡ 6
  pub six_of : data_size c ≡ register_size
  pub fits : p.at + 6 ≤ record_size
  pub live : of_cells p ≡ false
  pub as_many : (six : List ℕ) → length six ≡ register_size → length (becomes six) ≡ register_size
  pub each : (six sent : List ℕ) → ((i : ℕ) → i < 6 → get_or sent i 0 ≡ get_or six i 0) → ((i : ℕ) → i < 6 → get_or six i 0 < 256)
      → (i old : ℕ) → i < 6 → changed (rules_of c) sent i old ≡ get_or (becomes six) i 0

module _ (c : Write) (p : Part) (becomes : List ℕ → List ℕ) (g : Group c p becomes) where
  -- ---- one monitor: what it shows after a write that it accepts and that changes something

  module _ (own r : List ℕ) (good : accepts c own r ≡ true) (opened : opens (rules_of c) (byte_of unlocked r) ≡ true)
      (bytes : (i : ℕ) → i < register_size → get_or own i 0 < 256) (whole : length r ≡ record_size) where
    abbrev after : List ℕ
    after = keeps (Writes c) own r

    abbrev base : List ℕ
    base = counted (locked r)

    abbrev first-six : List ℕ
    first-six = take register_size own

    own_byte : (i : ℕ) → i < 6 → get_or own i 0 ≡ get_or first-six i 0
    own_byte i h = sym (get_or-take register_size own i 0 h)

    after_is : after ≡ by_rules c own base
    after_is = keeps_opened c own r good opened

    length-after : length after ≡ record_size
    length-after = length-keeps (Writes c) own r ∙ whole

    stored_byte : (i : ℕ) → i < 6 → get_or after (p.at + i) 0 ≡ get_or (becomes first-six) i 0
    unfolding by_rules
    stored_byte i h =
        let size : length base ≡ record_size = length-counted (locked r) ∙ length-locked r ∙ whole in
        ap (λ (x : List ℕ). get_or x (p.at + i) 0) after_is
        ∙ ap (λ (at : ℕ). get_or (by_rules c own base) (at + i) 0) (sym g.place)
        ∙ anew_inside _ (rules_of c).at (data_size c) base i (omega (arith, g.six_of)) (omega (arith, g.six_of, g.place, g.fits))
        ∙ g.each first-six own own_byte (λ k l. rw (get_or-take register_size own k 0 l) (bytes k l)) i (get_or base ((rules_of c).at + i) 0) h

    pub reads_back : register p after ≡ becomes first-six
    unfolding register six_bytes
    reads_back =
        let long = good_length c own (accepts-good c own r good) in
        let six-bytes : length first-six ≡ register_size = length-take-le register_size own (omega (arith, long, g.six_of)) in
        ap (λ (q : Part). six_bytes q after) (shows_other p after g.live)
        ∙ ext_get_or 0 (six_bytes p after) (becomes first-six) (length-six p after ∙ sym (g.as_many first-six six-bytes))
        (λ i h.
        let within : i < 6 = lt_of_lt_of_le h (omega (arith, length-six p after)) in
        at_each _ 6 i within
        ∙ sym (shows p after i (omega (arith, g.six-long)) (omega (arith, length-after, g.fits)))
        ∙ stored_byte i within)

  -- ---- every monitor of the chain that is not in LPCM, by a write of our host that always opens

  module _ (always : (rules_of c).only_unlocked ≡ false) where
    group_reads_back : (table values buffer : List ℕ) (code : ℕ) → command_of code commands ≡ Writes c → sound table ≡ true
        → length values ≡ data_size c * monitors table → ((i : ℕ) → get_or values i 0 < 256) → (k : ℕ) → k < monitors table → in_lpcm (row_at record_size k table) ≡ false
        → register p (row_at record_size k (table_after table (frame_for code (monitors table) values) (length buffer))) ≡ becomes (row_at (data_size c) k values)
    unfolding sealed
    group_reads_back table values buffer code its s count bytes k h awake =
        let t = is_sound table s in
        let fits : k * record_size + record_size ≤ length table = omega (arith, t.whole) in
        ap (register p) (each-keeps-its-own table values buffer code c its s count k h)
        ∙ reads_back (sealed six) r (accepts_awake c (sealed six) r awake ∙ right-good c (sealed six) (sealed-right six six-bytes)) (opens_always (rules_of c) (byte_of unlocked r) always) sent_bytes
        (lent_length k table fits)
        ∙ ap becomes sealed-six
      where
        six : List ℕ
        six = row_at (data_size c) k values

        r : List ℕ
        r = row_at record_size k table

        six-bytes : length six ≡ data_size c
        six-bytes = length_row-at (data_size c) (monitors table) values k h (omega (arith, count, mul_comm (monitors table) (data_size c)))

        sealed-six : take register_size (sealed six) ≡ six
        sealed-six = take_at six _ register_size (six-bytes ∙ g.six_of)

        sent_bytes : (i : ℕ) → i < register_size → get_or (sealed six) i 0 < 256
        sent_bytes i j =
            let within : i < data_size c = omega (arith, g.six_of) in
            rw (get_or-append six _ 0 i (omega (arith, six-bytes))) (rw (row_element (data_size c) k values i 0 within) (bytes (k * data_size c + i)))

    written_and_read_back : ReadsBack c p becomes
    unfolding reply
    written_and_read_back table values buffer replies write read its its-read s count bytes enough k h awake =
        let frame = frame_for write (monitors table) values in
        let after = table_after table frame (length buffer) in
        let same : monitors after ≡ monitors table = monitors-after-frame table frame (length buffer) s in
        let its_own = each-reply-its-own after replies read p its-read (sound-after-frame table frame (length buffer) s) (omega (arith, same)) k (omega (arith, same)) in
        ap (λ (n : ℕ). take register_size (row_at payload_size k (reply_after after (frame_for read n []) replies))) (sym same)
        ∙ ap (take register_size) its_own
        ∙ take_at (register p (row_at record_size k after)) _ register_size (length-register p (row_at record_size k after))
        ∙ group_reads_back table values buffer write its s count bytes k h awake

-- ---- as they were written

-- of a write that stores all six
pub whole_byte : (c : Write) → (rules_of c).stored ≡ six 255 → (rules_of c).kept ≡ six 0 → (rules_of c).ones ≡ six 0
    → (bs sent : List ℕ) → ((i : ℕ) → i < 6 → get_or sent i 0 ≡ get_or bs i 0) → ((i : ℕ) → i < 6 → get_or bs i 0 < 256)
    → (i old : ℕ) → i < 6 → changed (rules_of c) sent i old ≡ get_or bs i 0
whole_byte c st ke on bs sent same bytes i old h =
    sym (as_sent (rules_of c) st ke on sent i old h) ∙ mod-eq_of_lt (rw (same i h) (bytes i h)) ∙ same i h

-- the whole record after it
pub stores-whole : (c : Write) → (rules_of c).stored ≡ six 255 → (rules_of c).kept ≡ six 0 → (rules_of c).ones ≡ six 0 → (own r : List ℕ) → accepts c own r ≡ true
    → opens (rules_of c) (byte_of unlocked r) ≡ true → ((i : ℕ) → i < register_size → get_or own i 0 < 256)
    → keeps (Writes c) own r ≡ on_bytes (sent_to c) (λ i old. get_or own i 0) (counted (locked r))
unfolding by_rules on_bytes
stores-whole c st ke on own r good opened bytes =
    keeps_opened c own r good opened
    ∙ anew-same _ _ (rules_of c).at (data_size c) (counted (locked r)) (λ i h. whole_byte c st ke on own own (λ k j. refl) bytes i _ (omega (arith, h, data_most c)))

pub b_read_back : ReadsBack Wrcfgb rdcfgb as_written
b_read_back =
    written_and_read_back Wrcfgb rdcfgb as_written
    (record { place = refl; six-long = refl; six_of = refl; fits = lit≤ tt; live = refl; as_many = λ six l. l; each = whole_byte Wrcfgb refl refl refl }) refl

pub lpcm_read_back : ReadsBack Wrcmcfg rdcmcfg as_written
lpcm_read_back =
    written_and_read_back Wrcmcfg rdcmcfg as_written
    (record { place = refl; six-long = refl; six_of = refl; fits = lit≤ tt; live = refl; as_many = λ six l. l; each = whole_byte Wrcmcfg refl refl refl }) refl

pub pwm_a_read_back : ReadsBack Wrpwma rdpwma as_written
pwm_a_read_back =
    written_and_read_back Wrpwma rdpwma as_written
    (record { place = refl; six-long = refl; six_of = refl; fits = lit≤ tt; live = refl; as_many = λ six l. l; each = whole_byte Wrpwma refl refl refl }) refl

-- ---- the first two as they were written, and FF

-- a byte that is stored, and one that is fixed
stored-byte_of : (s old mask : ℕ) → s < 256 → bit_or (bit_or (bit_and s 255) (bit_and old (bit_and 0 mask))) 0 ≡ s
stored-byte_of s old mask h =
    or_zero_r _
    ∙ ap₂ bit_or (and_mask s 8 ∙ mod-eq_of_lt h) (ap (bit_and old) (and_zero_l mask) ∙ and_zero_r old)
    ∙ or_zero_r s

fixed_byte_of : (s old mask : ℕ) → bit_or (bit_or (bit_and s 0) (bit_and old (bit_and 0 mask))) 255 ≡ 255
fixed_byte_of s old mask =
    ap (λ (x : ℕ). bit_or x 255) (ap₂ bit_or (and_zero_r s) (ap (bit_and old) (and_zero_l mask) ∙ and_zero_r old) ∙ or_zero_r 0) ∙ or_zero_l 255

byte_of-b : (six sent : List ℕ) → ((i : ℕ) → i < 6 → get_or sent i 0 ≡ get_or six i 0) → ((i : ℕ) → i < 6 → get_or six i 0 < 256)
    → (i old : ℕ) → i < 6 → changed (rules_of Wrpwmb) sent i old ≡ get_or (fixed_behind-two six) i 0
unfolding changed
byte_of-b six sent same bytes zero old h = stored-byte_of (get_or sent 0 0) old (255 - bit_and (get_or sent 0 0) 0) (rw (same 0 h) (bytes 0 h)) ∙ same 0 h
byte_of-b six sent same bytes (suc zero) old h = stored-byte_of (get_or sent 1 0) old (255 - bit_and (get_or sent 1 0) 0) (rw (same 1 h) (bytes 1 h)) ∙ same 1 h
byte_of-b six sent same bytes (suc (suc zero)) old h = fixed_byte_of (get_or sent 2 0) old (255 - bit_and (get_or sent 2 0) 0)
byte_of-b six sent same bytes (suc (suc (suc zero))) old h = fixed_byte_of (get_or sent 3 0) old (255 - bit_and (get_or sent 3 0) 0)
byte_of-b six sent same bytes (suc (suc (suc (suc zero)))) old h = fixed_byte_of (get_or sent 4 0) old (255 - bit_and (get_or sent 4 0) 0)
byte_of-b six sent same bytes (suc (suc (suc (suc (suc zero))))) old h = fixed_byte_of (get_or sent 5 0) old (255 - bit_and (get_or sent 5 0) 0)
byte_of-b six sent same bytes (suc (suc (suc (suc (suc (suc i)))))) old h = absurd (omega arith)

pub pwm_b_read_back : ReadsBack Wrpwmb rdpwmb fixed_behind-two
pwm_b_read_back =
    written_and_read_back Wrpwmb rdpwmb fixed_behind-two
    (record { place = refl; six-long = refl; six_of = refl; fits = lit≤ tt; live = refl; as_many = λ six l. refl; each = byte_of-b }) refl

-- ---- three thresholds of 12 bits

-- a byte of which the low half is stored, and one of which nothing is
half-byte_of : (s old mask : ℕ) → bit_or (bit_or (bit_and s 15) (bit_and old (bit_and 0 mask))) 0 ≡ s % 16
half-byte_of s old mask =
    or_zero_r _
    ∙ ap₂ bit_or (and_mask s 4) (ap (bit_and old) (and_zero_l mask) ∙ and_zero_r old)
    ∙ or_zero_r (s % 16)

no_byte_of : (s old mask : ℕ) → bit_or (bit_or (bit_and s 0) (bit_and old (bit_and 0 mask))) 0 ≡ 0
no_byte_of s old mask = or_zero_r _ ∙ ap₂ bit_or (and_zero_r s) (ap (bit_and old) (and_zero_l mask) ∙ and_zero_r old) ∙ or_zero_r 0

byte_of-thresholds : (six sent : List ℕ) → ((i : ℕ) → i < 6 → get_or sent i 0 ≡ get_or six i 0) → ((i : ℕ) → i < 6 → get_or six i 0 < 256)
    → (i old : ℕ) → i < 6 → changed (rules_of Wrcmcellt) sent i old ≡ get_or (three_thresholds six) i 0
unfolding changed
byte_of-thresholds six sent same bytes zero old h = stored-byte_of (get_or sent 0 0) old (255 - bit_and (get_or sent 0 0) 0) (rw (same 0 h) (bytes 0 h)) ∙ same 0 h
byte_of-thresholds six sent same bytes (suc zero) old h = stored-byte_of (get_or sent 1 0) old (255 - bit_and (get_or sent 1 0) 0) (rw (same 1 h) (bytes 1 h)) ∙ same 1 h
byte_of-thresholds six sent same bytes (suc (suc zero)) old h = stored-byte_of (get_or sent 2 0) old (255 - bit_and (get_or sent 2 0) 0) (rw (same 2 h) (bytes 2 h)) ∙ same 2 h
byte_of-thresholds six sent same bytes (suc (suc (suc zero))) old h = stored-byte_of (get_or sent 3 0) old (255 - bit_and (get_or sent 3 0) 0) (rw (same 3 h) (bytes 3 h)) ∙ same 3 h
byte_of-thresholds six sent same bytes (suc (suc (suc (suc zero)))) old h =
    half-byte_of (get_or sent 4 0) old (255 - bit_and (get_or sent 4 0) 0) ∙ ap (λ (s : ℕ). s % 16) (same 4 h)
byte_of-thresholds six sent same bytes (suc (suc (suc (suc (suc zero))))) old h = no_byte_of (get_or sent 5 0) old (255 - bit_and (get_or sent 5 0) 0)
byte_of-thresholds six sent same bytes (suc (suc (suc (suc (suc (suc i)))))) old h = absurd (omega arith)

-- the GPIOs' are stored as the cells' are
as_cells : (sent : List ℕ) (i old : ℕ) → changed (rules_of Wrcmgpiot) sent i old ≡ changed (rules_of Wrcmcellt) sent i old
unfolding changed
as_cells sent i old = refl

pub cell-thresholds_read_back : ReadsBack Wrcmcellt rdcmcellt three_thresholds
cell-thresholds_read_back =
    written_and_read_back Wrcmcellt rdcmcellt three_thresholds
    (record { place = refl; six-long = refl; six_of = refl; fits = lit≤ tt; live = refl; as_many = λ six l. refl; each = byte_of-thresholds }) refl

pub gpio_thresholds_read_back : ReadsBack Wrcmgpiot rdcmgpiot three_thresholds
gpio_thresholds_read_back =
    written_and_read_back Wrcmgpiot rdcmgpiot three_thresholds
    (record {
      place = refl;
      six-long = refl;
      six_of = refl;
      fits = lit≤ tt;
      live = refl;
      as_many = λ six l. refl;
      each = λ six sent same bytes i old h. as_cells sent i old ∙ byte_of-thresholds six sent same bytes i old h;
    }) refl
