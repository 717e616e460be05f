-- The eight bytes that an answer of two ports points at are those that the host hands back, port by port.
-- Assumes nothing.
use mathlib.Core.Path.{◌≡◌, refl}
use mathlib.Core.Bool.{true, false}
use mathlib.Core.List.{List, []}
use Prim.Native.Nat.{ℕ}
use Rattle.laws.specs.Rows.{row_at}
use Rattle.ports.specs.declared.ports.Port.{Port}
use Rattle.ports.specs.declared.ports.Port.TheVariants.{A, B}
use Rattle.ports.specs.Ports.{part_a, part_b, port_of, by_port}
use Rattle.ports.specs.Parts.{bytes_of}
use Rattle.door.specs.Answers.{port_parts, pointed}
use Rattle.std.specs.Prelude.{Result, Err, Ok}
use Rattle.refusals.specs.declared.Refusal.{Refusal}

pub pointed-bytes : (a b : List ℕ) (n k expected : ℕ) → pointed (port_parts n k (port_of a b n k expected)) a b ≡ bytes_of a b n k expected
unfolding bytes_of part_a part_b row_at
pointed-bytes a b n k expected = by (port_of a b n k expected)
  where
    by : (port : Result Port Refusal) → pointed (port_parts n k port) a b ≡ by_port [] (part_a a n k) (part_b b n k) port
    by (Err r) = refl
    by (Ok (A true)) = refl
    by (Ok (A false)) = refl
    by (Ok (B true)) = refl
    by (Ok (B false)) = refl
