-- `serving::served::serve_whole` meets its contract: a monitor a turn, from the front of the table.
-- Assumes nothing.
use Rattle.records.specs.Commands.{width_of}
use Rattle.wire.specs.Order.{write_payloads}
use Rattle.serving.proofs.EachActs.{Acted}
use Rattle.serving.proofs.served.serve_whole.Given as goal

abbrev pub invariant-loop-k : goal.invariant-loop-k
invariant-loop-k l = Acted l.command l.initial.table (write_payloads (width_of l.command) l.n l.payloads) l.table l.k l.taken
