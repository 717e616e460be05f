-- Document 02, L5: a missed command. What our host reads of a chain after a frame, by the chain's reply and from both ports, against the counter that each
-- monitor has if it took the frame.
-- Assumes nothing.
use Rattle.std.specs.Prelude.{◌≡◌, Bool, true, false, cond, not, ◌&&◌, List, [], map, reverse, ℕ, ◌-◌, ◌*◌, ◌≤◌, ◌<◌, length, Ok}
use Rattle.laws.specs.Rows.{rows, row_at}
use Rattle.wire.specs.Order.{reply_data}
use Rattle.records.specs.declared.commands.Command.TheVariants.{Writes}
use Rattle.records.specs.declared.commands.Write.{Write}
use Rattle.records.specs.declared.record.Part.{Part}
use Rattle.records.specs.Record.{record_size, counter, in_lpcm, byte_of}
use Rattle.records.specs.Commands.{payload_size}
use Rattle.monitor.specs.Effects.{next_count}
use Rattle.reads.specs.Reply.{reply}
use Rattle.judging.specs.Table.{monitors}
use Rattle.chain.specs.Frame.{table_after, reply_after}
use Rattle.host.specs.Frames.{frame_for}
use Rattle.ports.specs.declared.checks.Checked.TheVariants.{Right, CounterDiffers}
use Rattle.ports.specs.declared.ports.Port.TheVariants.{A, B}
use Rattle.ports.specs.Verdicts.{is_damaged}
use Rattle.ports.specs.Check.{checked}
use Rattle.ports.specs.Ports.{part_a, part_b, port_of}
use Rattle.story.specs.Spikes.{unhit}

-- n monitors have one counter
abbrev pub OneCounter : ℕ → List ℕ → ℕ → Type 0
OneCounter n table old = (k : ℕ) → k < n → byte_of counter (row_at record_size k table) ≡ old

-- what a read of our host leaves in a buffer, after a frame
abbrev pub read_after : List ℕ → List ℕ → ℕ → ℕ → List ℕ → List ℕ
read_after table frame room code buffer = reply_after (table_after table frame room) (frame_for code (monitors table) []) buffer

-- what n monitors reply to a read as it comes to port A, and to port B
abbrev pub from_a : Part → ℕ → List ℕ → List ℕ
from_a part n table = reply_data (map (reply part) (rows record_size n table))

abbrev pub from_b : Part → ℕ → List ℕ → List ℕ
from_b part n table = reply_data (reverse (map (reply part) (rows record_size n table)))

-- monitor k's reply, k counted from 1, as our host sees it from both ports: right against the counter that it expects, or with another, the one received. Asked
-- by two ports the host answers from A, where A's bytes came damaged from B, and where B's did from A
pub record SeenAs (part : Part) (n : ℕ) (table : List ℕ) (k expected : ℕ) (right : Bool) (received : ℕ) : Type 0 where
  pub at_a : checked (part_a (from_a part n table) n k) expected ≡ Ok (cond right Right (CounterDiffers received))
  pub at_b : checked (part_b (from_b part n table) n k) expected ≡ Ok (cond right Right (CounterDiffers received))
  pub from_both : port_of (from_a part n table) (from_b part n table) n k expected ≡ Ok (A (not right))
  pub a_damaged : (a : List ℕ) → length a ≡ payload_size * n → is_damaged (part_a a n k) ≡ true → port_of a (from_b part n table) n k expected ≡ Ok (B (not right))
  pub b_damaged : (b : List ℕ) → length b ≡ payload_size * n → is_damaged (part_b b n k) ≡ true → port_of (from_a part n table) b n k expected ≡ Ok (A (not right))

-- each monitor of a table is seen so after a write that came with some monitors' checks wrong, against the counter after its own: right where it was not hit and is
-- not in LPCM, and with the counter that it had where it was or is
abbrev pub EachSeen : Write → Part → List ℕ → List ℕ → List ℕ → List ℕ → Type 0
EachSeen c part table sent came after =
    (k : ℕ) → 1 ≤ k → k ≤ monitors table
    → let r = row_at record_size (k - 1) table in
    SeenAs part (monitors table) after k (next_count (byte_of counter r)) (not (in_lpcm r) && unhit (Writes c) (monitors table) sent came (k - 1)) (byte_of counter r)

-- some monitor of them is seen with another counter
pub record SomeDiffer (part : Part) (n : ℕ) (table : List ℕ) (expected received : ℕ) : Type 0 where
  pub k : ℕ
  pub first : 1 ≤ k
  pub last : k ≤ n
  pub seen : SeenAs part n table k expected false received
