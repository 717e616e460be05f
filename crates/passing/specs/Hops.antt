-- Document 02, L8, by the sheet's "LPCM operation" and "LPCM heartbeat messages": a heartbeat on its way along the chain. What goes from monitor to monitor is a
-- message's bytes, and none where nothing is sent: none are no right message, and so nothing changes where they come. Monitors are counted from 0 here, as
-- their records lie.
-- Assumes nothing.
use Rattle.std.specs.Prelude.{Bool, cond, List, [], ◌∷◌, ℕ, suc, ◌+◌, ◌-◌, Option, Some, None}
use Rattle.laws.specs.Rows.{row_at}
use Rattle.laws.specs.Tables.{tabulate}
use Rattle.records.specs.Record.{record_size}
use Rattle.judging.specs.Table.{monitors, changed_at}
use Rattle.messages.specs.Messages.{message}
use Rattle.heartbeats.specs.declared.steps.Beat.{Beat}
use Rattle.heartbeats.specs.Steps.{towards_a, woken, wakes, reached, answers}

-- what a monitor sends, as bytes
abbrev pub bytes_sent : Option Beat → List ℕ
bytes_sent None = []
bytes_sent (Some beat) = message beat.count beat.flags

-- ---- one monitor of the table

-- it wakes
unfoldable pub wake_sends : ℕ → List ℕ → List ℕ
wake_sends k table = bytes_sent (wakes (row_at record_size k table))

unfoldable pub wake_leaves : ℕ → List ℕ → List ℕ
wake_leaves k table = changed_at k woken table

-- bytes reach it
unfoldable pub hop_sends : ℕ → List ℕ → List ℕ → List ℕ
hop_sends k bytes table = bytes_sent (answers bytes (row_at record_size k table))

unfoldable pub hop_leaves : ℕ → List ℕ → List ℕ → List ℕ
hop_leaves k bytes table = changed_at k (reached bytes) table

-- ---- the way from the monitor at k of n: towards port A down to the first, else up to the last

unfoldable pub hops : Bool → ℕ → ℕ → ℕ
hops toA n k = cond toA k (n - suc k)

-- the monitor behind hop i, the nearest to k first
unfoldable pub behind : Bool → ℕ → ℕ → ℕ
behind toA k i = cond toA (k - suc i) (k + suc i)

unfoldable pub way : Bool → ℕ → ℕ → List ℕ
way toA n k = tabulate (behind toA k) 0 (hops toA n k)

-- ---- from monitor to monitor: each is reached by what the one before it sent

unfoldable pub sent_along : List ℕ → List ℕ → List ℕ → List ℕ
sent_along [] bytes table = bytes
sent_along (k ∷ ks) bytes table = sent_along ks (hop_sends k bytes table) (hop_leaves k bytes table)

unfoldable pub left_along : List ℕ → List ℕ → List ℕ → List ℕ
left_along [] bytes table = table
left_along (k ∷ ks) bytes table = left_along ks (hop_sends k bytes table) (hop_leaves k bytes table)

-- ---- a whole heartbeat: the monitor at k wakes, and what it sends goes its way to the end of the chain

abbrev pub way_from : ℕ → List ℕ → List ℕ
way_from k table = way (towards_a (row_at record_size k table)) (monitors table) k

-- what leaves the chain
unfoldable pub beat_sends : ℕ → List ℕ → List ℕ
beat_sends k table = sent_along (way_from k table) (wake_sends k table) (wake_leaves k table)

unfoldable pub beat_leaves : ℕ → List ℕ → List ℕ
beat_leaves k table = left_along (way_from k table) (wake_sends k table) (wake_leaves k table)
