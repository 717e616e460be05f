-- Where no right message comes nothing is sent and nothing changes, there and on the rest of the way. And what a monitor's turn leaves of the table whatever
-- comes: its length and, where it was sound, its soundness and its monitors; and so a message's whole way does.
-- Assumes nothing.
use mathlib.Core.Path.{◌≡◌, refl, sym, ap, ap₂, ◌∙◌, subst⁻¹}
use mathlib.Core.Bool.{Bool, true, false}
use mathlib.Core.List.{List, [], ◌∷◌, ◌++◌, append_assoc}
use Prim.Native.Nat.{ℕ, zero, suc, ◌+◌, ◌*◌, ◌≤◌, ◌<◌}
use native.Mathlib.Omega.{arith}
use lib.ListN.{length, take, drop, take-append-drop}
use lib.Seq.{drop-drop}
use Rattle.laws.specs.Rows.{row_at}
use Rattle.laws.specs.Tables.{tabulate}
use Rattle.records.specs.Record.{record_size}
use Rattle.judging.specs.Table.{monitors, sound, changed_at}
use Rattle.judging.proofs.Keeps.{Keeps, stays}
use Rattle.judging.proofs.Changed.{length-changed, changed-keeps}
use Rattle.messages.specs.Messages.{message_right}
use Rattle.heartbeats.specs.Steps.{towards_a, woken, reached, late}
use Rattle.heartbeats.proofs.Kept.{length-woken, sound-woken, length-late, sound-late, length-reached, sound-reached, wrong_left}
use Rattle.passing.specs.Hops.{bytes_sent, wake_leaves, hop_sends, hop_leaves, hops, behind, way, sent_along, left_along, way_from, beat_leaves}

-- a record that stays leaves the table as it is
pub same-table : (k : ℕ) (f : List ℕ → List ℕ) (table : List ℕ) → f (row_at record_size k table) ≡ row_at record_size k table → changed_at k f table ≡ table
unfolding row_at
same-table k f table e =
    let start = k * record_size in
    ap (λ (r : List ℕ). take start table ++ r ++ drop (start + record_size) table) e
    ∙ append_assoc (take start table) (row_at record_size k table) (drop (start + record_size) table)
    ∙ ap (λ (rest : List ℕ). take start table ++ (take record_size (drop start table) ++ rest)) (sym (drop-drop record_size start table))
    ∙ ap (λ (rest : List ℕ). take start table ++ rest) (take-append-drop record_size (drop start table))
    ∙ take-append-drop start table

-- ---- bytes that are no right message

pub wrong_hop : (k : ℕ) (bytes table : List ℕ) → message_right bytes ≡ false → (hop_sends k bytes table ≡ []) × (hop_leaves k bytes table ≡ table)
unfolding hop_sends hop_leaves
wrong_hop k bytes table e =
    let ignored = wrong_left (row_at record_size k table) bytes e in
    (ap bytes_sent ignored.1, same-table k (reached bytes) table ignored.0)

pub none_wrong : message_right [] ≡ false
unfolding message_right
none_wrong = refl

pub none-along : (ks table : List ℕ) → (sent_along ks [] table ≡ []) × (left_along ks [] table ≡ table)
unfolding sent_along left_along
none-along [] table = (refl, refl)
none-along (k ∷ ks) table =
    let here = wrong_hop k [] table none_wrong in
    let rest = none-along ks table in
    (ap₂ (sent_along ks) here.0 here.1 ∙ rest.0, ap₂ (left_along ks) here.0 here.1 ∙ rest.1)

pub wrong_along : (k : ℕ) (ks bytes table : List ℕ) → message_right bytes ≡ false
    → (sent_along (k ∷ ks) bytes table ≡ []) × (left_along (k ∷ ks) bytes table ≡ table)
unfolding sent_along left_along
wrong_along k ks bytes table e =
    let here = wrong_hop k bytes table e in
    let rest = none-along ks table in
    (ap₂ (sent_along ks) here.0 here.1 ∙ rest.0, ap₂ (left_along ks) here.0 here.1 ∙ rest.1)

-- ---- what stays, whatever comes

module _ (k : ℕ) (table : List ℕ) where
  pub length_wake : k * record_size + record_size ≤ length table → length (wake_leaves k table) ≡ length table
  unfolding wake_leaves
  length_wake fits = length-changed k woken length-woken table fits

  pub length_hop : (bytes : List ℕ) → k * record_size + record_size ≤ length table → length (hop_leaves k bytes table) ≡ length table
  unfolding hop_leaves
  length_hop bytes fits = length-changed k (reached bytes) (λ r. length-reached r bytes) table fits

  module _ (s : sound table ≡ true) (there : k < monitors table) where
    pub wake_keeps : Keeps table (wake_leaves k table)
    unfolding wake_leaves
    wake_keeps = changed-keeps k woken length-woken sound-woken table s there

    pub hop_keeps : (bytes : List ℕ) → Keeps table (hop_leaves k bytes table)
    unfolding hop_leaves
    hop_keeps bytes = changed-keeps k (reached bytes) (λ r. length-reached r bytes) (λ r. sound-reached r bytes) table s there

    pub late-keeps : Keeps table (changed_at k late table)
    late-keeps = changed-keeps k late length-late sound-late table s there

-- ---- and along a way of which each place is a monitor's

abbrev pub Within : ℕ → List ℕ → Type 0
Within n [] = Unit {0}
Within n (k ∷ ks) = (k < n) × Within n ks

pub keeps_then : {a b c : List ℕ} → Keeps a b → Keeps b c → Keeps a c
keeps_then f g = record { sound-after = g.sound-after; monitors-after = g.monitors-after ∙ f.monitors-after }

pub along-keeps : (n : ℕ) (ks bytes table : List ℕ) → sound table ≡ true → monitors table ≡ n → Within n ks → Keeps table (left_along ks bytes table)
unfolding left_along
along-keeps n [] bytes table s e in-it = stays table s
along-keeps n (k ∷ ks) bytes table s e in-it =
    let here = hop_keeps k table s (subst⁻¹ (λ (m : ℕ). k < m) e in-it.0) bytes in
    keeps_then here (along-keeps n ks (hop_sends k bytes table) (hop_leaves k bytes table) here.sound-after (here.monitors-after ∙ e) in-it.1)

-- the way from a monitor is such a one
pub behind_within : (toA : Bool) (n k i : ℕ) → k < n → i < hops toA n k → behind toA k i < n
unfolding hops behind
behind_within true n k i h l = omega arith
behind_within false n k i h l = omega arith

pub within_table : (n : ℕ) (f : ℕ → ℕ) (i m : ℕ) → ((j : ℕ) → j < i + m → f j < n) → Within n (tabulate f i m)
unfolding tabulate
within_table n f i zero h = tt
within_table n f i (suc m) h = (h i (omega arith), within_table n f (suc i) m (λ j l. h j (omega arith)))

pub way_within : (toA : Bool) (n k : ℕ) → k < n → Within n (way toA n k)
unfolding way
way_within toA n k h = within_table n (behind toA k) 0 (hops toA n k) (λ j l. behind_within toA n k j h (omega arith))

pub beat_keeps : (k : ℕ) (table : List ℕ) → sound table ≡ true → k < monitors table → Keeps table (beat_leaves k table)
unfolding beat_leaves
beat_keeps k table s there =
    let first = wake_keeps k table s there in
    keeps_then first
    (along-keeps (monitors table) (way_from k table) _ (wake_leaves k table) first.sound-after first.monitors-after
    (way_within (towards_a (row_at record_size k table)) (monitors table) k there))
