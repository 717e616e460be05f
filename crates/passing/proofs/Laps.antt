-- The loop along the way: what is left of it, from what is at hand, comes to what the whole way comes to.
-- Assumes nothing.
use mathlib.Core.Path.{◌≡◌, sym, ap, ap₂, ◌∙◌, subst, subst⁻¹}
use mathlib.Core.Bool.{Bool, true, false, cond}
use mathlib.Core.List.{List, []}
use Prim.Native.Nat.{ℕ, suc, ◌+◌, ◌-◌, ◌*◌, ◌≤◌, ◌<◌}
use native.Mathlib.Numerals.{add-one}
use native.Mathlib.Omega.{arith}
use lib.ListN.{length}
use Rattle.laws.specs.Rows.{row_at}
use Rattle.laws.proofs.Rows.{row_fits}
use Rattle.laws.specs.Tables.{tabulate}
use Rattle.records.specs.Record.{record_size}
use Rattle.messages.specs.Messages.{message}
use Rattle.heartbeats.specs.declared.steps.Beat.{Beat}
use Rattle.heartbeats.specs.Steps.{answers}
use Rattle.passing.specs.Hops.{bytes_sent, hops, behind, way, hop_sends, hop_leaves, sent_along, left_along}
use Rattle.passing.proofs.Silent.{none-along, length_hop, behind_within}
use Rattle.std.specs.Prelude.{Option, None}
use Rattle.heartbeats.specs.Steps.{sends}

-- the places from i on
abbrev rest : Bool → ℕ → ℕ → ℕ → List ℕ
rest toA n k i = tabulate (behind toA k) i (hops toA n k - i)

module _ (toA : Bool) (n k count flags : ℕ) (table : List ℕ) where
  -- a message at hand before hop i, and a table
  pub record Lap (i c f : ℕ) (now : List ℕ) : Type 0 where
    pub within : i ≤ hops toA n k
    pub whole : length now ≡ n * record_size
    pub sent : sent_along (rest toA n k i) (message c f) now ≡ sent_along (way toA n k) (message count flags) table
    pub left : left_along (rest toA n k i) (message c f) now ≡ left_along (way toA n k) (message count flags) table

  pub first_lap : length table ≡ n * record_size → Lap 0 count flags table
  unfolding way
  first_lap whole =
      let all : hops toA n k - 0 ≡ hops toA n k = omega arith in
      record {
        within = omega arith;
        whole = whole;
        sent = ap (λ (m : ℕ). sent_along (tabulate (behind toA k) 0 m) (message count flags) table) all;
        left = ap (λ (m : ℕ). left_along (tabulate (behind toA k) 0 m) (message count flags) table) all;
      }

  -- a hop is to a monitor of the chain, and there are fewer hops than monitors
  pub few-hops : k < n → hops toA n k < n
  unfolding hops
  few-hops there = by toA
    where
      by : (b : Bool) → cond b k (n - suc k) < n
      by true = there
      by false = omega arith

  module _ {i c f : ℕ} {now : List ℕ} (lap : Lap i c f now) where
    -- no hop is left
    pub last_lap : hops toA n k ≤ i
        → (message c f ≡ sent_along (way toA n k) (message count flags) table) × (now ≡ left_along (way toA n k) (message count flags) table)
    unfolding tabulate sent_along left_along
    last_lap h =
        let none : hops toA n k - i ≡ 0 = omega arith in (
          ap (λ (m : ℕ). sent_along (tabulate (behind toA k) i m) (message c f) now) (sym none) ∙ lap.sent,
          ap (λ (m : ℕ). left_along (tabulate (behind toA k) i m) (message c f) now) (sym none) ∙ lap.left,
        )

    -- at the next monitor
    module _ (there : k < n) (h : i < hops toA n k) {j : ℕ} (place : j ≡ behind toA k i) where
      pub reachable : j * record_size + record_size ≤ length now
      reachable =
          let within : j < n = subst⁻¹ (λ (x : ℕ). x < n) place (behind_within toA n k i there h) in
          row_fits record_size within (omega (arith, lap.whole))

      module _ {bytes after : List ℕ} {beat : Option Beat} (own : bytes ≡ message c f) (e : beat ≡ answers bytes (row_at record_size j now)) (l : after ≡ hop_leaves j bytes now) where
        its-table : after ≡ hop_leaves (behind toA k i) (message c f) now
        its-table = l ∙ ap₂ (λ (x : ℕ) (b : List ℕ). hop_leaves x b now) place own

        its_beat : beat ≡ answers (message c f) (row_at record_size (behind toA k i) now)
        its_beat = e ∙ ap₂ (λ (x : ℕ) (b : List ℕ). answers b (row_at record_size x now)) place own

        one_more_lem : hops toA n k - i ≡ suc (hops toA n k - suc i)
        one_more_lem = omega arith

        sent-on : sent_along (rest toA n k (suc i)) (bytes_sent beat) after ≡ sent_along (way toA n k) (message count flags) table
        unfolding tabulate sent_along hop_sends
        sent-on =
            ap₂ (λ (b : Option Beat) (t : List ℕ). sent_along (rest toA n k (suc i)) (bytes_sent b) t) its_beat its-table
            ∙ ap (λ (m : ℕ). sent_along (tabulate (behind toA k) i m) (message c f) now) (sym one_more_lem)
            ∙ lap.sent

        left-on : left_along (rest toA n k (suc i)) (bytes_sent beat) after ≡ left_along (way toA n k) (message count flags) table
        unfolding tabulate left_along hop_sends
        left-on =
            ap₂ (λ (b : Option Beat) (t : List ℕ). left_along (rest toA n k (suc i)) (bytes_sent b) t) its_beat its-table
            ∙ ap (λ (m : ℕ). left_along (tabulate (behind toA k) i m) (message c f) now) (sym one_more_lem)
            ∙ lap.left

        pub still_whole : length after ≡ n * record_size
        still_whole =
            ap length its-table
            ∙ length_hop (behind toA k i) now (message c f) (row_fits record_size (behind_within toA n k i there h) (omega (arith, lap.whole)))
            ∙ lap.whole

        -- nothing was sent on
        pub stopped : beat ≡ None
            → ([] ≡ sent_along (way toA n k) (message count flags) table) × (after ≡ left_along (way toA n k) (message count flags) table)
        stopped s =
            let none = none-along (rest toA n k (suc i)) after in (
              sym none.0 ∙ ap (λ (b : Option Beat). sent_along (rest toA n k (suc i)) (bytes_sent b) after) (sym s) ∙ sent-on,
              sym none.1 ∙ ap (λ (b : Option Beat). left_along (rest toA n k (suc i)) (bytes_sent b) after) (sym s) ∙ left-on,
            )

        -- a message was
        pub next_lap : {c' f' : ℕ} → beat ≡ sends c' f' → Lap (i + 1) c' f' after
        next_lap {c'} {f'} s =
            subst (λ (x : ℕ). Lap x c' f' after) (sym (add-one i))
            (record {
              within = omega arith;
              whole = still_whole;
              sent = ap (λ (b : Option Beat). sent_along (rest toA n k (suc i)) (bytes_sent b) after) (sym s) ∙ sent-on;
              left = ap (λ (b : Option Beat). left_along (rest toA n k (suc i)) (bytes_sent b) after) (sym s) ∙ left-on;
            })
