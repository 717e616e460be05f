-- `passing::operations::hand_out` meets its contract: a message has eight bytes, for which there is room.
-- Assumes nothing.
use Rattle.passing.proofs.HandedOut.{nothing_out, message_out}
use Rattle.passing.proofs.operations.hand_out.Goals as goal

pub returns-in-None : goal.returns-in-None
returns-in-None c =
    let told = nothing_out c.args.out.now c.in-None.is in
    record { value = told.0; out_after = told.1 }

pub returns-in-Some : goal.returns-in-Some
returns-in-Some c =
    let start = c in
    let a = start.args in
    let told = message_out a.out.now _ _ start.requires c.in-Some.is c.message-own.ensures c.put.ensures in
    record { value = told.0; out_after = told.1 }
