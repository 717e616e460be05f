-- The replies turn by turn, by the records that are left: after k + 1 turns there is one reply more than after k, and there is no turn more
-- where less than a record is left.
-- Assumes nothing.
use mathlib.Core.Path.{◌≡◌, sym, ap, ap₂, ◌∙◌, subst⁻¹}
use mathlib.Core.List.{List, [], ◌∷◌, ◌++◌, map, map-append}
use Prim.Native.Nat.{ℕ, ◌+◌, ◌-◌, ◌*◌, ◌/◌, ◌≤◌, ◌<◌}
use native.Mathlib.Nat.{mul_comm}
use native.Mathlib.Numerals.{add-one}
use native.Mathlib.Omega.{arith}
use lib.ListN.{length, take, drop, length-drop, length-append}
use lib.Seq.{take_at, drop_at, drop-drop}
use Rattle.laws.specs.Rows.{rows, row_at, joined}
use Rattle.laws.proofs.Filling.{Filling, filling_start, filling_more}
use Rattle.laws.proofs.Rows.{rows_snoc}
use Rattle.laying.specs.Placed.{placed}
use Rattle.laying.proofs.Placed.{tried, laid}
use Rattle.wire.specs.Order.{reply_data}
use Rattle.records.specs.declared.record.Part.{Part}
use Rattle.records.specs.Record.{record_size}
use Rattle.records.specs.Commands.{payload_size}
use Rattle.reads.specs.Reply.{reply}
use Rattle.reads.proofs.Showing.{length-reply}
use Rattle.judging.specs.Table.{monitors}

abbrev pub replies : Part → List ℕ → ℕ → List (List ℕ)
replies part table k = map (reply part) (rows record_size k table)

pub replies_more : (part : Part) (table : List ℕ) (k : ℕ) → replies part table (k + 1) ≡ replies part table k ++ reply part (row_at record_size k table) ∷ []
replies_more part table k =
    ap (λ (n : ℕ). map (reply part) (rows record_size n table)) (add-one k)
    ∙ ap (map (reply part)) (rows_snoc record_size k table)
    ∙ map-append (reply part) (rows record_size k table) (row_at record_size k table ∷ [])

module _ (part : Part) (table before : List ℕ) where
  pub record Turn (buffer : List ℕ) (k size : ℕ) (rest : List ℕ) : Type 0 where
    pub filling : Filling payload_size before buffer k (replies part table k)
    pub sized : size ≡ record_size
    pub left : rest ≡ drop (k * record_size) table
    pub within : k * record_size ≤ length table

  pub first_turn : {k size : ℕ} {rest : List ℕ} → k ≡ 0 → size ≡ record_size → rest ≡ table → Turn before k size rest
  unfolding rows
  first_turn {k} {size} {rest} d e f =
      subst⁻¹ (λ (m : ℕ). Turn before m size rest) d (record { filling = filling_start payload_size before; sized = e; left = f; within = omega arith })

  module _ {buffer : List ℕ} {k size : ℕ} {rest : List ℕ} (turn : Turn buffer k size rest) where
    -- one record more
    module _ (room : payload_size * monitors table ≤ length before) (rec rest' : List ℕ) (cut : rest ≡ rec ++ rest') (whole : length rec ≡ size) where
      new : List ℕ
      new = reply part rec

      its : rec ≡ row_at record_size k table
      unfolding row_at
      its = sym (take_at rec rest' record_size (whole ∙ turn.sized)) ∙ ap (take record_size) (sym cut ∙ turn.left)

      next : (k + 1) * record_size ≡ k * record_size + record_size
      next = omega arith

      long : (k + 1) * record_size ≤ length table
      long = omega (arith, ap length (sym cut ∙ turn.left), length-append rec rest', length-drop (k * record_size) table, turn.within, turn.sized, whole)

      fits : k * payload_size + payload_size ≤ length before
      unfolding monitors
      fits = let some : k + 1 ≤ length table / record_size = omega (arith, long) in omega (arith, room)

      left-after : rest' ≡ drop ((k + 1) * record_size) table
      left-after =
          sym (drop_at rec rest' record_size (whole ∙ turn.sized))
          ∙ ap (drop record_size) (sym cut ∙ turn.left)
          ∙ drop-drop record_size (k * record_size) table
          ∙ ap (λ (m : ℕ). drop m table) (sym next)

      pub next-turn : {eight buffer' : List ℕ} {i count size' : ℕ} → eight ≡ reply part rec → i ≡ k → count ≡ k + 1 → size' ≡ size
          → buffer' ≡ tried (i * payload_size) eight buffer → Turn buffer' count size' rest'
      unfolding placed
      next-turn {eight} {buffer'} {i} {count} {size'} e its-place its-count its-size p =
          let here : List ℕ = reply part (row_at record_size k table) in
          let eight-here : eight ≡ here = e ∙ ap (reply part) its in
          let as-long : length eight ≡ payload_size = ap length e ∙ length-reply part rec in
          let enough : k * payload_size + length eight ≤ length buffer = omega (arith, fits, turn.filling.size, as-long) in
          record {
            filling =
                subst⁻¹ (λ (m : ℕ). Filling payload_size before buffer' m (replies part table m)) its-count
                (subst⁻¹ (Filling payload_size before buffer' (k + 1)) (replies_more part table k)
                (filling_more payload_size before turn.filling here fits (length-reply part (row_at record_size k table))
                (p
                ∙ ap (λ (m : ℕ). tried (m * payload_size) eight buffer) its-place
                ∙ laid (k * payload_size) eight buffer enough
                ∙ ap₂ (λ (x : List ℕ) (m : ℕ). take (k * payload_size) buffer ++ x ++ drop (k * payload_size + m) buffer) eight-here as-long)));
            sized = its-size ∙ turn.sized;
            left = left-after ∙ ap (λ (m : ℕ). drop (m * record_size) table) (sym its-count);
            within = subst⁻¹ (λ (m : ℕ). m * record_size ≤ length table) its-count long;
          }

    -- and where there is none
    pub last-turn : length rest < size → buffer ≡ reply_data (replies part table (monitors table)) ++ drop (payload_size * monitors table) before
    unfolding reply_data monitors
    last-turn short =
        let left : length table - k * record_size < record_size = omega (arith, ap length turn.left, length-drop (k * record_size) table, turn.sized, short) in
        let all : k ≡ length table / record_size = omega (arith, turn.within, left) in
        turn.filling.so_far
        ∙ ap₂ (λ (n m : ℕ). joined (replies part table n) ++ drop m before) all (ap (λ (n : ℕ). n * payload_size) all ∙ mul_comm (length table / record_size) payload_size)
