-- `serving::served::serve_at` meets its contract: the record is lent as the table of a chain of one and comes back, where there is one.
-- Assumes nothing.
use mathlib.Core.Path.{◌≡◌, sym, ap, ◌∙◌}
use mathlib.Core.Bool.{Bool, cond, ◌&&◌}
use mathlib.Core.List.{List}
use Prim.Native.Nat.{ℕ, ◌+◌, ◌*◌, ◌≤◌}
use native.Mathlib.Omega.{arith}
use lib.Dec.{eqb}
use lib.ListN.{length}
use Rattle.laws.specs.Rows.{rows, joined, along}
use Rattle.wire.specs.Order.{write_payloads}
use Rattle.records.specs.declared.commands.Command.{Command}
use Rattle.records.specs.Record.{record_size, is_record}
use Rattle.records.specs.Commands.{width_of}
use Rattle.monitor.specs.Effects.{takes, keeps}
use Rattle.judging.proofs.Lies.{part, length-part, part_record}
use Rattle.serving.proofs.Serving.{served, not_served}
use Rattle.serving.proofs.OneTurn.{own_of, one_taken, one_kept}
use Rattle.serving.specs.Served.{takers}
use Rattle.serving.proofs.served.serve_at.Goals as goal

module _ (k : ℕ) (table : List ℕ) {start end : ℕ} (lies : (start ≡ k * record_size) × (end ≡ k * record_size + record_size) × (end ≤ length table)) where
  abbrev its : List ℕ
  its = part k table lies

  -- what the chain of one makes of the record is what its monitor does
  module _ (command : Command) (own handed : List ℕ) {width : ℕ} (w : width ≡ width_of command) (e : handed ≡ own_of width own) where
    as-handed : handed ≡ own_of (width_of command) own
    as-handed = e ∙ ap (λ (x : ℕ). own_of x own) w

    took : {n : ℕ} → n ≡ takers command (rows record_size 1 its) (write_payloads (width_of command) 1 handed)
        → eqb n 1 ≡ is_record its && takes command own its
    took t =
        ap (λ (m : ℕ). eqb m 1) (t ∙ ap (λ (ps : List ℕ). takers command (rows record_size 1 its) (write_payloads (width_of command) 1 ps)) as-handed)
        ∙ one_taken command own its (length-part k table lies)
        ∙ ap (λ (b : Bool). b && takes command own its) (sym (part_record k table lies))

    kept : {after : List ℕ} → after ≡ joined (along (λ r x. keeps command x r) (rows record_size 1 its) (write_payloads (width_of command) 1 handed))
        → after ≡ cond (is_record its) (keeps command own its) its
    kept t =
        t
        ∙ ap (λ (ps : List ℕ). joined (along (λ r x. keeps command x r) (rows record_size 1 its) (write_payloads (width_of command) 1 ps))) as-handed
        ∙ one_kept command own its (length-part k table lies)
        ∙ ap (λ (b : Bool). cond b (keeps command own its) its) (sym (part_record k table lies))

pub returns-in_default : goal.returns-in_default
returns-in_default c =
    let a = c.args in
    let told = not_served a.k a.table.now a.own.now a.command c.in_default.ensures in
    record { value = told.0; table_after = told.1 }

pub serve_whole-requires : goal.serve_whole-requires
serve_whole-requires c = (length-part c.args.k c.args.table.now c.in-Some.ensures, omega arith)

pub returns : goal.returns
unfolding own_of
returns c =
    let a = c.args in
    let lies = c.in-Some.ensures in
    let w = c.width_of.ensures.value in
    let e = c.own_of-handed.ensures in
    let served-one = c.serve_whole.ensures in
    let told = served a.k a.table.now lies a.command a.own.now
    (took a.k a.table.now lies a.command a.own.now _ w e served-one.value)
    (kept a.k a.table.now lies a.command a.own.now _ w e served-one.table_after) in
    record { value = told.0; table_after = told.1 }
