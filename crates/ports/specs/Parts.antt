-- Document 01, "Two ends of the chain": what the host hands back is a part of one of the two replies' slices, no copy of it.
-- A slice is told apart by where it lies.
-- Assumes nothing.
use Rattle.std.specs.Prelude.{List, [], ℕ, ◌+◌, ◌*◌, take, drop}
use Rattle.std.specs.Borrow.{Bor}
use Rattle.records.specs.Commands.{payload_size}
use Rattle.ports.specs.Ports.{place_a, place_b, part_a, part_b, port_of, by_port}

-- the bytes that are handed back, and none where that is refused
unfoldable pub bytes_of : List ℕ → List ℕ → ℕ → ℕ → ℕ → List ℕ
bytes_of a b n k expected = by_port [] (part_a a n k) (part_b b n k) (port_of a b n k expected)

-- a slice as it lies: the block of memory that it is in, the byte of the block that it starts at, and its bytes
pub record Lying : Type 0 where
  pub block : ℕ
  pub start : ℕ
  pub bytes : List ℕ

abbrev pub lying : Bor (List ℕ) → Lying
lying s = record { block = s.ref_ptr.0; start = s.ref_ptr.1; bytes = s.now }

-- the part of a slice that has so many bytes from `at` on: it is in the same block, and starts so much farther on
abbrev pub part : Bor (List ℕ) → ℕ → ℕ → Lying
part s at count = record { block = s.ref_ptr.0; start = s.ref_ptr.1 + at; bytes = take count (drop at s.now) }

-- the part that is handed back: of the slice of the port that answers. Where that is refused it is the empty part at the start of port A's
unfoldable pub part_of : Bor (List ℕ) → Bor (List ℕ) → ℕ → ℕ → ℕ → Lying
part_of a b n k expected =
    by_port (part a 0 0) (part a (place_a n k * payload_size) payload_size) (part b (place_b n k * payload_size) payload_size)
    (port_of a.now b.now n k expected)
