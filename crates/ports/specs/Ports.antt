-- Document 01, "Two ends of the chain", and document 02, L5: port A's reply has monitor 1 first, port B's has monitor N first. Asked for
-- monitor k, the host hands back k's eight bytes as they lie in one of the two replies.
-- Assumes nothing.
use Rattle.std.specs.Prelude.{true, false, cond, not, ◌&&◌, List, [], ◌∷◌, ℕ, ◌-◌, ◌*◌, eqb, leb, length, Result, Ok, Err}
use Rattle.laws.specs.Rows.{row_at}
use Rattle.refusals.specs.declared.Refusal.TheVariants.{LengthWrong, PositionWrong, BothDamaged}
use Rattle.refusals.specs.Order.{Row, ◌gives◌, decide}
use Rattle.records.specs.Commands.{most_monitors, payload_size}
use Rattle.ports.specs.declared.ports.Port.{Port}
use Rattle.ports.specs.declared.ports.Port.TheVariants.{A, B}
use Rattle.ports.specs.Verdicts.{is_damaged, is_right, counter_differs, counter_row}
use Rattle.refusals.specs.declared.Refusal.{Refusal}

-- monitor k's place in each reply, in payloads from its start; k counts from 1
unfoldable pub place_a : ℕ → ℕ → ℕ
place_a n k = k - 1

unfoldable pub place_b : ℕ → ℕ → ℕ
place_b n k = n - k

-- monitor k's eight bytes as they lie in each reply
unfoldable pub part_a : List ℕ → ℕ → ℕ → List ℕ
part_a a n k = row_at payload_size (place_a n k) a

unfoldable pub part_b : List ℕ → ℕ → ℕ → List ℕ
part_b b n k = row_at payload_size (place_b n k) b

unfoldable pub port_refusals : List ℕ → List ℕ → ℕ → ℕ → ℕ → List Row
port_refusals a b n k expected =
    counter_row expected
    ∷ (not (leb 1 n && leb n most_monitors && leb 1 k && leb k n) gives PositionWrong)
    ∷ (not (eqb (length a) (payload_size * n) && eqb (length b) (payload_size * n)) gives LengthWrong)
    ∷ (is_damaged (part_a a n k) && is_damaged (part_b b n k) gives BothDamaged)
    ∷ []

-- which of two parts that are not both damaged, and does its counter differ: A's if right, else B's if right, else A's if only its counter
-- differs, else B's likewise
unfoldable pub chosen : List ℕ → List ℕ → ℕ → Port
chosen in_a in_b expected = cond (is_right in_a expected) (A false) (cond (is_right in_b expected) (B false) (cond (counter_differs in_a expected) (A true) (B true)))

-- which reply has monitor k's bytes, and does their counter differ
unfoldable pub port_of : List ℕ → List ℕ → ℕ → ℕ → ℕ → Result Port Refusal
port_of a b n k expected = decide (port_refusals a b n k expected) Err (Ok (chosen (part_a a n k) (part_b b n k) expected))

-- what is made of each port: where none answers, of A's reply, of B's
abbrev pub by_port : {R : Type 0} → R → R → R → Result Port Refusal → R
by_port none ofA ofB (Err r) = none
by_port none ofA ofB (Ok (A differs)) = ofA
by_port none ofA ofB (Ok (B differs)) = ofB
