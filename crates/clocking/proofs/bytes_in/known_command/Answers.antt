-- `clocking::bytes_in::known_command` meets its contract, test by test. A table that is not sound counts 0, and no other does.
-- Assumes nothing.
use mathlib.Core.Path.{sym, ◌∙◌}
use Rattle.judging.proofs.Judging.{none, not_none}
use Rattle.clocking.specs.Clock.{chained_by}
use Rattle.clocking.proofs.Known.{known_unsound, known_wrong, known-right}
use Rattle.clocking.proofs.bytes_in.known_command.Goals as goal

pub returns-then-count-eq0 : goal.returns-then-count-eq0
unfolding chained_by
returns-then-count-eq0 c =
    let s = c in
    let t = s.args.table.now in
    sym (known_unsound t s.args.head.now (none t s.requires c.if-count-eq0.true))

pub returns-then-not-command_right : goal.returns-then-not-command_right
unfolding chained_by
returns-then-not-command_right c =
    let s = c in
    let t = s.args.table.now in
    sym (known_wrong t s.args.head.now (not_none t s.requires c.if-count-eq0.false) (sym c.command_right.ensures ∙ c.if-not-command_right.true))

pub returns : goal.returns
unfolding chained_by
returns c =
    let s = c in
    let t = s.args.table.now in
    c.command_in.ensures
    ∙ sym (known-right t s.args.head.now (not_none t s.requires c.if-count-eq0.false) (sym c.command_right.ensures ∙ c.if-not-command_right.false))
