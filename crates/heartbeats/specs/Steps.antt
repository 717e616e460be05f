-- Document 02, L8, by the sheet's "LPCM operation", "LPCM heartbeat messages" and "LPCM bridgeless timeout monitor": what one monitor makes of its turn in a
-- heartbeat. A heartbeat is no frame: counter and byte 69 stay.
-- Assumes nothing.
use Rattle.std.specs.Prelude.{Bool, cond, not, ◌&&◌, List, ℕ, ◌+◌, ◌%◌, Option, Some, None}
use Rattle.std.specs.Int.Bits.{bit_and, bit_or}
use Rattle.laws.specs.Bits.{bit_at}
use Rattle.records.specs.Record.{lpcm_configuration, cmf0, cmf1, in_lpcm, byte_in, byte_of, on_bytes}
use Rattle.measuring.specs.Measuring.{measured, passes}
use Rattle.messages.specs.Messages.{count_in, flags_in, message_right, is_pass}
use Rattle.heartbeats.specs.declared.steps.Beat.{Beat}

-- a message of this count and these flags is sent
abbrev pub sends : ℕ → ℕ → Option Beat
sends count flags = Some (record { count = count; flags = flags })

-- ---- what the configuration makes of a monitor in LPCM

-- CMC_MAN, CMC_BTM: bits 7 and 3 of byte 0; CMC_NDEV: byte 1; CMC_DIR: bit 5 of byte 4
unfoldable pub manages : List ℕ → Bool
manages r = bit_at 7 (byte_in lpcm_configuration r 0)

unfoldable pub is_manager : List ℕ → Bool
is_manager r = in_lpcm r && manages r

-- a bridgeless timeout monitor, not a manager
unfoldable pub is_timeout : List ℕ → Bool
is_timeout r = in_lpcm r && not (manages r) && bit_at 3 (byte_in lpcm_configuration r 0)

unfoldable pub ndev : List ℕ → ℕ
ndev r = byte_in lpcm_configuration r 1

-- towards port A, down to monitor 1; else towards port B
unfoldable pub towards_a : List ℕ → Bool
towards_a r = bit_at 5 (byte_in lpcm_configuration r 4)

-- ---- the count and the flags that it sends

-- one less, in eight bits, if it passes
unfoldable pub counted_down : List ℕ → ℕ → ℕ
counted_down r n = cond (passes r) ((n + 255) % 256) n

-- its own flags join those that came
unfoldable pub joined_to : List ℕ → ℕ → ℕ
joined_to r flags = bit_or flags (byte_of cmf0 (measured r))

-- ---- the manager wakes: it measures and starts

unfoldable pub woken : List ℕ → List ℕ
woken r = cond (is_manager r) (measured r) r

unfoldable pub wakes : List ℕ → Option Beat
wakes r = cond (is_manager r) (sends (counted_down r (ndev r)) (joined_to r 0)) None

-- ---- a message reaches a monitor

-- it takes it in: in LPCM and no manager, and the message is right. Any other is ignored: nothing changes, and nothing goes on
unfoldable pub hears : List ℕ → List ℕ → Bool
hears message r = in_lpcm r && not (manages r) && message_right message

-- a timeout monitor judges after its own step: a pass clears both of its flags in CMF1, anything else sets CMF_BTMCMP
unfoldable pub judged : List ℕ → List ℕ → ℕ → ℕ
judged message r old = cond (is_pass (counted_down r (count_in message)) (joined_to r (flags_in message))) (bit_and old 0xFC) (bit_or old 0x01)

unfoldable pub reached : List ℕ → List ℕ → List ℕ
reached message r = cond (hears message r) (cond (is_timeout r) (on_bytes cmf1 (λ i old. judged message r old) (measured r)) (measured r)) r

-- what it sends on; a timeout monitor sends nothing
unfoldable pub answers : List ℕ → List ℕ → Option Beat
answers message r =
    cond (hears message r && not (is_timeout r)) (sends (counted_down r (count_in message)) (joined_to r (flags_in message))) None

-- ---- the time runs out: CMF_BTMWD

unfoldable pub late : List ℕ → List ℕ
late r = cond (is_timeout r) (on_bytes cmf1 (λ i old. bit_or old 0x02) r) r
