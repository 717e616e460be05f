-- One monitor's turn in a heartbeat (L8), by what the monitor is: a manager that wakes, a monitor that a right message reaches, a timeout monitor, and one
-- that the turn is not for.
-- Assumes nothing.
use mathlib.Core.Path.{◌≡◌, ap, ap₂, ◌∙◌}
use mathlib.Core.Bool.{Bool, true, false, cond, not, ◌&&◌}
use mathlib.Core.List.{List}
use Prim.Native.Nat.{ℕ, ◌+◌, ◌%◌}
use lib.Bits.{bit_and, bit_or, or_zero_l}
use Rattle.records.specs.Record.{cmf0, cmf1, in_lpcm, byte_of, on_bytes}
use Rattle.measuring.specs.Measuring.{measured, passes}
use Rattle.messages.specs.Messages.{count_in, flags_in, message_right, is_pass}
use Rattle.heartbeats.specs.Steps.{manages, is_manager, is_timeout, ndev, counted_down, joined_to, woken, wakes, hears, judged, reached, answers, late}
use Rattle.std.specs.Prelude.{None}
use Rattle.heartbeats.specs.Steps.{sends}

module _ (r : List ℕ) where
  -- the count that it sends on of one that came
  abbrev count : ℕ → ℕ
  count n = cond (passes r) ((n + 255) % 256) n

  pub manager-wakes : is_manager r ≡ true → (woken r ≡ measured r) × (wakes r ≡ sends (count (ndev r)) (byte_of cmf0 (measured r)))
  unfolding woken wakes counted_down joined_to
  manager-wakes e = (
    ap (λ (b : Bool). cond b (measured r) r) e,
    ap (λ (b : Bool). cond b (sends (count (ndev r)) (bit_or 0 (byte_of cmf0 (measured r)))) None) e ∙ ap (sends (count (ndev r))) (or_zero_l (byte_of cmf0 (measured r))),
  )

  pub no_manager_sleeps : is_manager r ≡ false → (woken r ≡ r) × (wakes r ≡ None)
  unfolding woken wakes
  no_manager_sleeps e = (
    ap (λ (b : Bool). cond b (measured r) r) e,
    ap (λ (b : Bool). cond b (sends (counted_down r (ndev r)) (joined_to r 0)) None) e,
  )

  module _ (message : List ℕ) where
    -- the flags that it sends on of a message
    abbrev flags : ℕ
    flags = bit_or (flags_in message) (byte_of cmf0 (measured r))

    it_hears : in_lpcm r ≡ true → manages r ≡ false → message_right message ≡ true → hears message r ≡ true
    unfolding hears
    it_hears on other right = ap₂ (λ (a b : Bool). a && not b && message_right message) on other ∙ right

    pub monitor-sends_on : in_lpcm r ≡ true → manages r ≡ false → message_right message ≡ true → is_timeout r ≡ false
        → (reached message r ≡ measured r) × (answers message r ≡ sends (count (count_in message)) flags)
    unfolding reached answers counted_down joined_to
    monitor-sends_on on other right t = (
      ap₂ (λ (a b : Bool). cond a (cond b (on_bytes cmf1 (λ i old. judged message r old) (measured r)) (measured r)) r) (it_hears on other right) t,
      ap₂ (λ (a b : Bool). cond (a && not b) (sends (count (count_in message)) flags) None) (it_hears on other right) t,
    )

    pub timeout_judges : in_lpcm r ≡ true → manages r ≡ false → message_right message ≡ true → is_timeout r ≡ true
        → (reached message r ≡ on_bytes cmf1 (λ i old. cond (is_pass (count (count_in message)) flags) (bit_and old 0xFC) (bit_or old 0x01)) (measured r)) × (answers message r ≡ None)
    unfolding reached answers judged counted_down joined_to
    timeout_judges on other right t = (
      ap₂ (λ (a b : Bool). cond a (cond b (on_bytes cmf1 (λ i old. judged message r old) (measured r)) (measured r)) r) (it_hears on other right) t,
      ap₂ (λ (a b : Bool). cond (a && not b) (sends (count (count_in message)) flags) None) (it_hears on other right) t,
    )

  pub time_runs_out : (is_timeout r ≡ true → late r ≡ on_bytes cmf1 (λ i old. bit_or old 0x02) r) × (is_timeout r ≡ false → late r ≡ r)
  unfolding late
  time_runs_out = (
    λ e. ap (λ (b : Bool). cond b (on_bytes cmf1 (λ i old. bit_or old 0x02) r) r) e,
    λ e. ap (λ (b : Bool). cond b (on_bytes cmf1 (λ i old. bit_or old 0x02) r) r) e,
  )
