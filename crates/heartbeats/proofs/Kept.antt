-- What a monitor's turn in a heartbeat leaves: the record is as long and as sound as it was, every part that has no byte of CMF0, CMF1 and the last
-- measurement stays, and the monitor stays in LPCM or out of it. And what leaves a monitor as it is: a message to a manager, to one not in LPCM, or one
-- that is not right.
-- Assumes nothing.
use mathlib.Core.Path.{◌≡◌, refl, sym, ap, ◌∙◌}
use mathlib.Core.Bool.{Bool, true, false, cond, not, ◌&&◌, ◌||◌}
use mathlib.Core.List.{List}
use mathlib.Core.Logic.{inl, inr}
use Prim.Native.Nat.{ℕ}
use native.Mathlib.Omega.{arith}
use lib.Bits.{bit_and, bit_or}
use lib.Dec.{lit≤, lit<}
use lib.ListN.{length, get_or}
use Rattle.laws.specs.Bits.{odd, bit_at}
use Rattle.laws.proofs.Counts.{and_true}
use Rattle.laws.proofs.BitAt.{or_bits, and_bits}
use Rattle.records.specs.declared.record.Part.{Part}
use Rattle.records.specs.Record.{cmf0, cmf1, last_cells, record_size, in_lpcm, bytes_of, byte_of, Outside, on_bytes, record_sound}
use Rattle.records.proofs.Anew.{length-anew, anew_inside}
use Rattle.records.proofs.Parts.{byte_of-part, outside_anew, sound_elsewhere}
use Rattle.measuring.specs.Measuring.{measured}
use Rattle.measuring.proofs.Measured.{length-measured, sound-measured, measured_spares}
use Rattle.messages.specs.Messages.{count_in, flags_in, message_right, is_pass}
use Rattle.heartbeats.specs.Steps.{manages, is_manager, is_timeout, counted_down, joined_to, woken, hears, judged, reached, answers, late}
use Rattle.std.specs.Prelude.{None}
use Rattle.heartbeats.specs.Steps.{sends}

-- what holds of both holds of either
either : {A : Type 0} (f : List ℕ → A) (b : Bool) (x y : List ℕ) {z : A} → f x ≡ z → f y ≡ z → f (cond b x y) ≡ z
either f true x y e h = e
either f false x y e h = h

or-false : (b : Bool) → b || false ≡ b
or-false true = refl
or-false false = refl

and-false : (b : Bool) → b && false ≡ false
and-false true = refl
and-false false = refl

-- ---- CMC_EN, bit 7 of CMF1, in what a turn makes of CMF1

cleared_bit : (old : ℕ) → bit_at 7 (bit_and old 0xFC) ≡ bit_at 7 old
unfolding bit_at odd
cleared_bit old = and_bits 7 old 0xFC ∙ and_true (bit_at 7 old)

failed_bit : (old : ℕ) → bit_at 7 (bit_or old 0x01) ≡ bit_at 7 old
unfolding bit_at odd
failed_bit old = or_bits 7 old 0x01 ∙ or-false (bit_at 7 old)

late_bit : (old : ℕ) → bit_at 7 (bit_or old 0x02) ≡ bit_at 7 old
unfolding bit_at odd
late_bit old = or_bits 7 old 0x02 ∙ or-false (bit_at 7 old)

judged_bit : (m r : List ℕ) (old : ℕ) → bit_at 7 (judged m r old) ≡ bit_at 7 old
unfolding judged
judged_bit m r old = by (is_pass (counted_down r (count_in m)) (joined_to r (flags_in m)))
  where
    by : (b : Bool) → bit_at 7 (cond b (bit_and old 0xFC) (bit_or old 0x01)) ≡ bit_at 7 old
    by true = cleared_bit old
    by false = failed_bit old

-- CMF1 made anew
module _ (f : ℕ → ℕ) (l : List ℕ) where
  abbrev marked : List ℕ
  marked = on_bytes cmf1 (λ i old. f old) l

  length_marked : length marked ≡ length l
  unfolding on_bytes
  length_marked = length-anew (λ i old. f old) cmf1.at cmf1.size l

  sound-marked : record_sound marked ≡ record_sound l
  unfolding on_bytes
  sound-marked = sound_elsewhere (λ i old. f old) cmf1.at cmf1.size l (inr (lit≤ tt)) (inr (lit≤ tt))

  marked_spares : (p : Part) → Outside p cmf1.at cmf1.size → bytes_of p marked ≡ bytes_of p l
  unfolding on_bytes
  marked_spares p h = outside_anew p (λ i old. f old) cmf1.at cmf1.size l h

  marked_lpcm : length l ≡ record_size → ((old : ℕ) → bit_at 7 (f old) ≡ bit_at 7 old) → in_lpcm marked ≡ in_lpcm l
  unfolding on_bytes in_lpcm byte_of
  marked_lpcm whole same = ap (bit_at 7) (anew_inside (λ i old. f old) cmf1.at cmf1.size l 0 (lit< tt) (omega arith)) ∙ same (get_or l cmf1.at 0)

module _ (r : List ℕ) where
  lpcm_measured : in_lpcm (measured r) ≡ in_lpcm r
  unfolding in_lpcm byte_of
  lpcm_measured =
      ap (bit_at 7)
      (sym (byte_of-part cmf1 (measured r) {i = 0} (lit< tt))
      ∙ ap (λ (l : List ℕ). get_or l 0 0) (measured_spares r cmf1 (inl (lit≤ tt)) (inr (lit≤ tt)))
      ∙ byte_of-part cmf1 r {i = 0} (lit< tt))

  -- ---- the manager wakes

  pub length-woken : length (woken r) ≡ length r
  unfolding woken
  length-woken = either length (is_manager r) (measured r) r (length-measured r) refl

  pub sound-woken : record_sound (woken r) ≡ record_sound r
  unfolding woken
  sound-woken = either record_sound (is_manager r) (measured r) r (sound-measured r) refl

  pub woken_spares : (p : Part) → Outside p cmf0.at cmf0.size → Outside p last_cells.at last_cells.size → bytes_of p (woken r) ≡ bytes_of p r
  unfolding woken
  woken_spares p h k = either (bytes_of p) (is_manager r) (measured r) r (measured_spares r p h k) refl

  pub woken_lpcm : in_lpcm (woken r) ≡ in_lpcm r
  unfolding woken
  woken_lpcm = either in_lpcm (is_manager r) (measured r) r lpcm_measured refl

  -- ---- the time runs out

  pub length-late : length (late r) ≡ length r
  unfolding late
  length-late = either length (is_timeout r) _ r (length_marked (λ old. bit_or old 0x02) r) refl

  pub sound-late : record_sound (late r) ≡ record_sound r
  unfolding late
  sound-late = either record_sound (is_timeout r) _ r (sound-marked (λ old. bit_or old 0x02) r) refl

  pub late_spares : (p : Part) → Outside p cmf1.at cmf1.size → bytes_of p (late r) ≡ bytes_of p r
  unfolding late
  late_spares p h = either (bytes_of p) (is_timeout r) _ r (marked_spares (λ old. bit_or old 0x02) r p h) refl

  pub late_lpcm : length r ≡ record_size → in_lpcm (late r) ≡ in_lpcm r
  unfolding late
  late_lpcm whole = either in_lpcm (is_timeout r) _ r (marked_lpcm (λ old. bit_or old 0x02) r whole late_bit) refl

  -- ---- a message reaches it

  module _ (m : List ℕ) where
    -- what holds of the record, of the measured one and of that with CMF1 judged
    of_reached : {A : Type 0} (f : List ℕ → A) → f (measured r) ≡ f r → f (marked (judged m r) (measured r)) ≡ f (measured r) → f (reached m r) ≡ f r
    unfolding reached
    of_reached f e h = either f (hears m r) _ r (either f (is_timeout r) _ (measured r) (h ∙ e) e) refl

    pub length-reached : length (reached m r) ≡ length r
    length-reached = of_reached length (length-measured r) (length_marked (judged m r) (measured r))

    pub sound-reached : record_sound (reached m r) ≡ record_sound r
    sound-reached = of_reached record_sound (sound-measured r) (sound-marked (judged m r) (measured r))

    pub reached_spares : (p : Part) → Outside p cmf0.at cmf0.size → Outside p cmf1.at cmf1.size → Outside p last_cells.at last_cells.size
        → bytes_of p (reached m r) ≡ bytes_of p r
    reached_spares p h i k = of_reached (bytes_of p) (measured_spares r p h k) (marked_spares (judged m r) (measured r) p i)

    pub reached_lpcm : length r ≡ record_size → in_lpcm (reached m r) ≡ in_lpcm r
    reached_lpcm whole = of_reached in_lpcm lpcm_measured (marked_lpcm (judged m r) (measured r) (length-measured r ∙ whole) (judged_bit m r))

    -- ---- what leaves it as it is

    unheard : hears m r ≡ false → (reached m r ≡ r) × (answers m r ≡ None)
    unfolding reached answers
    unheard e = (
      ap (λ (b : Bool). cond b (cond (is_timeout r) (marked (judged m r) (measured r)) (measured r)) r) e,
      ap (λ (b : Bool). cond (b && not (is_timeout r)) (sends (counted_down r (count_in m)) (joined_to r (flags_in m))) None) e,
    )

    pub manager-left : manages r ≡ true → (reached m r ≡ r) × (answers m r ≡ None)
    unfolding hears
    manager-left e = unheard (ap (λ (b : Bool). in_lpcm r && not b && message_right m) e ∙ ap (λ (b : Bool). b && message_right m) (and-false (in_lpcm r)))

    pub awake_left : in_lpcm r ≡ false → (reached m r ≡ r) × (answers m r ≡ None)
    unfolding hears
    awake_left e = unheard (ap (λ (b : Bool). b && not (manages r) && message_right m) e)

    pub wrong_left : message_right m ≡ false → (reached m r ≡ r) × (answers m r ≡ None)
    unfolding hears
    wrong_left e =
        unheard
        (ap (λ (b : Bool). in_lpcm r && not (manages r) && b) e ∙ and-false (in_lpcm r && not (manages r)))

    -- and a timeout monitor sends nothing
    pub timeout_silent : is_timeout r ≡ true → answers m r ≡ None
    unfolding answers
    timeout_silent e =
        ap (λ (b : Bool). cond b (sends (counted_down r (count_in m)) (joined_to r (flags_in m))) None)
        (ap (λ (b : Bool). hears m r && not b) e ∙ and-false (hears m r))
