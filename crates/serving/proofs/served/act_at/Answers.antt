-- `serving::served::act_at` meets its contract: the record is lent and comes back, where there is one.
-- Assumes nothing.
use Rattle.serving.proofs.Serving.{served, not_served}
use Rattle.serving.proofs.served.act_at.Goals as goal

pub returns-in_default : goal.returns-in_default
returns-in_default c =
    let a = c.args in
    let told = not_served a.k a.table.now a.own.now a.command c.in_default.ensures in
    record { value = told.0; table_after = told.1 }

pub returns : goal.returns
returns c =
    let a = c.args in
    let told = served a.k a.table.now c.in-Some.ensures a.command a.own.now c.act.ensures.value c.act.ensures.rec_after in
    record { value = told.0; table_after = told.1 }
