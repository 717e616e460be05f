-- The part that is handed back has the bytes of the answer, port by port.
-- Assumes nothing.
use mathlib.Core.Path.{◌≡◌, refl, ap, ◌∙◌}
use mathlib.Core.List.{List, []}
use Prim.Native.Nat.{ℕ, ◌*◌}
use denote.Ref.{Bor}
use Rattle.laws.specs.Rows.{row_at}
use Rattle.records.specs.Commands.{payload_size}
use Rattle.ports.specs.declared.ports.Port.{Port}
use Rattle.ports.specs.declared.ports.Port.TheVariants.{A, B}
use Rattle.ports.specs.Ports.{place_a, place_b, part_a, part_b, port_of, by_port}
use Rattle.ports.specs.Parts.{bytes_of, Lying, part, part_of}
use Rattle.std.specs.Prelude.{Result, Err, Ok}
use Rattle.refusals.specs.declared.Refusal.{Refusal}

module _ (a b : Bor (List ℕ)) (n k : ℕ) where
  -- monitor k's part of each reply's slice
  abbrev pub in_a : Lying
  in_a = part a (place_a n k * payload_size) payload_size

  abbrev pub in_b : Lying
  in_b = part b (place_b n k * payload_size) payload_size

  bytes-by : (port : Result Port Refusal) → (by_port (part a 0 0) in_a in_b port).bytes ≡ by_port [] (part_a a.now n k) (part_b b.now n k) port
  unfolding part_a part_b row_at
  bytes-by (Err r) = refl
  bytes-by (Ok (A differs)) = refl
  bytes-by (Ok (B differs)) = refl

  -- what lies where the port says
  pub handed : (expected : ℕ) {l : Lying} {port : Result Port Refusal} → port ≡ port_of a.now b.now n k expected → l ≡ by_port (part a 0 0) in_a in_b port
      → (l.bytes ≡ bytes_of a.now b.now n k expected) × (l ≡ part_of a b n k expected)
  unfolding bytes_of part_of
  handed expected e h =
      let there = h ∙ ap (by_port (part a 0 0) in_a in_b) e in
      (ap (λ (x : Lying). x.bytes) there ∙ bytes-by (port_of a.now b.now n k expected), there)
