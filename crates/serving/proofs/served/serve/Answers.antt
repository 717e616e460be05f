-- `serving::served::serve` meets its contract: its test tells whether the table holds n whole records.
-- Assumes nothing.
use mathlib.Core.Path.{sym, ◌∙◌}
use Rattle.judging.proofs.Whole.{is_whole, where_so, where_not}
use Rattle.serving.proofs.served.serve.Goals as goal

pub returns-then-not-whole_table : goal.returns-then-not-whole_table
returns-then-not-whole_table c =
    let no = sym c.whole_table.ensures ∙ c.if-not-whole_table.true in
    record { value = where_not _ _ _ no; table_after = where_not _ _ _ no }

pub serve_whole-requires : goal.serve_whole-requires
serve_whole-requires c = is_whole _ _ (sym c.whole_table.ensures ∙ c.if-not-whole_table.false)

pub returns : goal.returns
returns c =
    let so = sym c.whole_table.ensures ∙ c.if-not-whole_table.false in
    let served = c.serve_whole.ensures in
    record { value = served.value ∙ where_so _ _ _ so; table_after = served.table_after ∙ where_so _ _ _ so }
