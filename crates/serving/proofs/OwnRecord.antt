-- What a monitor keeps of an accepted frame depends on the command, its own record and its own bytes alone, and monitor k's
-- own bytes, k counted from 1, are the (n - k + 1)th own of the data of n monitors. By rows: the table is the monitors' records
-- end to end.
-- Assumes nothing.
use mathlib.Core.Path.{◌≡◌, ap₂, ◌∙◌}
use mathlib.Core.List.{List, []}
use Prim.Native.Nat.{ℕ, suc, ◌-◌, ◌*◌, ◌≤◌, ◌<◌}
use native.Mathlib.Omega.{arith}
use lib.ListN.{length, drop}
use Rattle.laws.specs.Rows.{rows, row_at}
use Rattle.laws.proofs.Rows.{length-rows, row-at, row-joined, along-at}
use Rattle.records.specs.declared.commands.Command.{Command}
use Rattle.records.specs.Record.{record_size}
use Rattle.records.specs.Commands.{width_of}
use Rattle.monitor.specs.Effects.{keeps}
use Rattle.serving.specs.Served.{payloads_in, kept}
use Rattle.serving.proofs.OwnPayload.{own-bytes, length-payloads_in}
use Rattle.serving.proofs.Kept.{act, acted, length-acted, every_acted}

pub own_record : (c : Command) (n : ℕ) (table frame : List ℕ) (k : ℕ) → k < n → n * record_size ≡ length table
    → row_at record_size k (kept c n table frame) ≡ keeps c (row_at (width_of c) (n - suc k) (drop 4 frame)) (row_at record_size k table)
unfolding kept
own_record c n table frame k h whole =
    let fits : n * record_size ≤ length table = omega arith in
    let there : k < length (acted c n table frame fits) = omega (arith, length-acted c n table frame fits) in
    let in_rows : k < length (rows record_size n table) = omega (arith, length-rows record_size n table) in
    let in-payloads : k < length (payloads_in c frame n) = omega (arith, length-payloads_in c n table frame) in
    row-joined record_size (acted c n table frame fits) k [] (every_acted c n table frame fits) there
    ∙ along-at (act c) (rows record_size n table) (payloads_in c frame n) k [] [] [] in_rows in-payloads
    ∙ ap₂ (act c) (row-at record_size n table k [] h) (own-bytes c n table frame k h)
