-- Document 02, L7: what a spike on the wire can do. Frames that our host builds, as they were sent and as they came, and which monitors a spike
-- spares. And L5: writes that came with a spike at each of some monitors, or with some monitors' checks wrong, however that came about. Monitors are
-- counted from 0.
-- Assumes nothing.
use Rattle.std.specs.Prelude.{◌≡◌, Bool, true, false, not, ◌&&◌, List, ◌⊎◌, ℕ, suc, ◌-◌, ◌<◌, length, take, drop}
use Rattle.laws.specs.Counts.{count, same}
use Rattle.laws.specs.Rows.{row_at}
use Rattle.laws.specs.Tables.{tabulate}
use Rattle.pec.specs.Words.{sealed_right}
use Rattle.pec.specs.Spikes.{Spike}
use Rattle.refusals.specs.Order.{Passed}
use Rattle.records.specs.declared.commands.Command.{Command}
use Rattle.records.specs.declared.commands.Command.TheVariants.{Writes}
use Rattle.records.specs.declared.commands.Write.{Write}
use Rattle.records.specs.Record.{record_size, in_lpcm}
use Rattle.records.specs.Commands.{commands, command_of, data_size, width_of}
use Rattle.host.specs.Frames.{head_size, frame_for, build_refusals}

-- ---- what was sent, and what came

-- how many places in a row a spike may take: behind the first four bytes, and where it hits these, a command with its check and the 0 after it
abbrev pub data_places : ℕ
data_places = 10

abbrev pub command_places : ℕ
command_places = 15

-- a frame of a command for n monitors as our host builds it, of some code and values that it does not refuse
pub record Ours (c : Command) (n : ℕ) (sent : List ℕ) : Type 0 where
  pub code : ℕ
  pub values : List ℕ
  pub its : command_of code commands ≡ c
  pub passed : Passed (build_refusals code n values (length sent))
  pub built : sent ≡ frame_for code n values

-- a spike struck it behind its first four bytes, within ten places in a row
pub record StruckData (c : Command) (n : ℕ) (sent came : List ℕ) : Type 0 where
  pub ours : Ours c n sent
  pub spike : Spike data_places sent came
  pub same_head : take head_size came ≡ take head_size sent

-- a spike struck its first four bytes, within fifteen places in a row; whether some of them lie behind these four does not matter
pub record StruckCommand (c : Command) (n : ℕ) (sent came : List ℕ) : Type 0 where
  pub ours : Ours c n sent
  pub spike : Spike command_places sent came
  pub hit_head : take head_size came ≡ take head_size sent → ⊥

-- ---- which monitors it hits, and which not

-- the own bytes of the monitor at k, in a frame of a command for n monitors: the k-th from the end
unfoldable pub own_in : Command → ℕ → List ℕ → ℕ → List ℕ
own_in c n frame k = row_at (width_of c) (n - suc k) (drop head_size frame)

-- they came as they were sent; a monitor of which this is not so was hit
unfoldable pub unhit : Command → ℕ → List ℕ → List ℕ → ℕ → Bool
unhit c n sent came k = same (own_in c n came k) (own_in c n sent k)

-- how many of the n monitors were not hit
unfoldable pub unhit_of : Command → ℕ → List ℕ → List ℕ → ℕ
unhit_of c n sent came = count (unhit c n sent came) (tabulate (λ k. k) 0 n)

-- and how many of those are not in LPCM
unfoldable pub unhit_awake : Command → ℕ → List ℕ → List ℕ → List ℕ → ℕ
unhit_awake c n table sent came = count (λ k. not (in_lpcm (row_at record_size k table)) && unhit c n sent came k) (tabulate (λ k. k) 0 n)

-- ---- a write that some monitors cannot take

-- its length and its first four bytes came as they were sent, and so did each monitor's own bytes, or a spike struck these
pub record StruckEach (c : Write) (n : ℕ) (sent came : List ℕ) : Type 0 where
  pub ours : Ours (Writes c) n sent
  pub as_long : length came ≡ length sent
  pub same_head : take head_size came ≡ take head_size sent
  pub each : (k : ℕ) → k < n → (unhit (Writes c) n sent came k ≡ true) ⊎ Spike data_places (own_in (Writes c) n sent k) (own_in (Writes c) n came k)

-- its length and its first four bytes came as they were sent, and each monitor's own bytes came as they were sent or with a check that is wrong, whatever was
-- turned over of them
pub record Spoilt (c : Write) (n : ℕ) (sent came : List ℕ) : Type 0 where
  pub ours : Ours (Writes c) n sent
  pub as_long : length came ≡ length sent
  pub same_head : take head_size came ≡ take head_size sent
  pub each : (k : ℕ) → k < n → (unhit (Writes c) n sent came k ≡ true) ⊎ (sealed_right (data_size c) (own_in (Writes c) n came k) ≡ false)
