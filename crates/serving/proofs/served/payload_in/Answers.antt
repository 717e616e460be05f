-- `serving::served::payload_in` meets its contract, by where the payloads end.
-- Assumes nothing.
use mathlib.Core.Path.{◌≡◌}
use Prim.Native.Nat.{ℕ, ◌+◌, ◌-◌, ◌*◌}
use native.Mathlib.Omega.{arith}
use Rattle.serving.proofs.Payloads.{whole_part, cut_part}
use Rattle.serving.proofs.served.payload_in.Goals as goal

-- from a place to so many further on
so-many : (at width : ℕ) → at + width - at ≡ width
so-many at width = omega arith

pub returns-then-n-width : goal.returns-then-n-width
returns-then-n-width c =
    let a = c.args in
    whole_part a.width a.payloads.now a.n a.k _ (so-many ((a.n - 1 - a.k) * a.width) a.width)

pub returns : goal.returns
returns c =
    let a = c.args in
    cut_part a.width a.payloads.now a.n a.k c.min.ensures c.min-2.ensures
