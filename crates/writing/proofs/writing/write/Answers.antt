-- `writing::writing::write` meets its contract: the rules of every write fit a record, and where they store six bytes as sent a
-- copy does the same.
-- Assumes nothing.
use mathlib.Core.Path.{◌≡◌, sym, ap, ap₂, ◌∙◌, subst⁻¹}
use mathlib.Core.Bool.{Bool, true, false, cond, ◌&&◌}
use mathlib.Core.List.{List}
use Prim.Native.Nat.{ℕ, ◌+◌, ◌%◌, ◌≤◌}
use native.Mathlib.Omega.{arith}
use lib.Dec.{leb}
use lib.ListN.{length, get_or}
use Rattle.records.specs.declared.commands.Write.{Write}
use Rattle.writes.specs.declared.writes.Rules.{Rules}
use Rattle.records.specs.Record.{record_size, anew, is_record}
use Rattle.records.specs.Commands.{data_size}
use Rattle.writes.specs.Writes.{rules_of, changed, by_rules, opens, written}
use Rattle.writes.proofs.Storing.{stored-whole, whole_is_six}
use Rattle.writes.proofs.Written.{rules_fit, enough_for_record, fewer_for_record, for_no_record}
use Rattle.writing.proofs.writing.write.Goals as goal

-- the rules that the code read fit a record
fits : (what : Write) {rules : Rules} → rules ≡ rules_of what → rules.at + data_size what ≤ record_size
fits what e = subst⁻¹ (λ (x : Rules). x.at + data_size what ≤ record_size) e (rules_fit what)

-- bytes changed by the rules that the code read, as many as it counts
as-ruled : (what : Write) (sent r : List ℕ) {rules : Rules} → rules ≡ rules_of what → {size : ℕ} → size ≡ data_size what
    → anew (changed rules sent) rules.at size r ≡ by_rules what sent r
unfolding by_rules
as-ruled what sent r e f = ap₂ (λ (x : Rules) (n : ℕ). anew (changed x sent) x.at n r) e f

-- what is written, by whether the write opens
module _ (what : Write) (was : ℕ) (sent r : List ℕ) (h : length r ≡ record_size) (k : data_size what ≤ length sent)
    {rules : Rules} (e : rules ≡ rules_of what) {t : Bool} (o : t ≡ opens rules was) where
  as-opened : (u : Bool) → t ≡ u
      → cond u (by_rules what sent r) r ≡ cond (is_record r && leb (data_size what) (length sent)) (written what was sent r) r
  unfolding written
  as-opened u p =
      sym (ap (λ (b : Bool). cond b (by_rules what sent r) r) (ap (λ (x : Rules). opens x was) (sym e) ∙ sym o ∙ p))
      ∙ sym (enough_for_record what was sent r h k)

pub returns-then-rec-ne-RECORD_SIZE : goal.returns-then-rec-ne-RECORD_SIZE
returns-then-rec-ne-RECORD_SIZE c =
    let a = c.args in
    sym (for_no_record a.what a.was a.sent.now a.rec.now c.if-rec-ne-RECORD_SIZE.true)

pub returns-then-sent-size : goal.returns-then-sent-size
returns-then-sent-size c =
    let a = c.args in
    sym (fewer_for_record a.what a.was a.sent.now a.rec.now c.if-rec-ne-RECORD_SIZE.false (omega (arith, c.if-sent-size.true, c.data_size-size.ensures.value)))

pub store-requires : goal.store-requires
store-requires c =
    let s = c in
    let what = s.args.what in
    let six = whole_is_six what (sym c.stores_whole.ensures ∙ c.if-stores_whole.true) in
    let size = s.data_size-size.ensures.value in
    (omega (arith, six, fits what s.rules_of-rules.ensures, s.if-rec-ne-RECORD_SIZE.false), omega (arith, six, size, s.if-sent-size.false))

pub returns-then-stores_whole : goal.returns-then-stores_whole
returns-then-stores_whole c =
    let s = c in
    let a = s.args in
    let e = s.rules_of-rules.ensures in
    c.store.ensures
    ∙ ap (λ (x : Rules). anew (λ i old. get_or a.sent.now i 0 % 256) x.at 6 a.rec.now) e
    ∙ stored-whole a.what (sym c.stores_whole.ensures ∙ c.if-stores_whole.true)
    a.sent.now a.rec.now
    ∙ as-opened a.what a.was a.sent.now a.rec.now s.if-rec-ne-RECORD_SIZE.false (omega (arith, s.if-sent-size.false, s.data_size-size.ensures.value))
    e c.opens_by.ensures true c.if-opens_by.true

pub returns-else-stores_whole : goal.returns-else-stores_whole
returns-else-stores_whole c =
    let s = c in
    let a = s.args in
    let e = s.rules_of-rules.ensures in
    c.change.ensures
    ∙ as-ruled a.what a.sent.now a.rec.now e s.data_size-size.ensures.value
    ∙ as-opened a.what a.was a.sent.now a.rec.now s.if-rec-ne-RECORD_SIZE.false (omega (arith, s.if-sent-size.false, s.data_size-size.ensures.value))
    e c.opens_by.ensures true c.if-opens_by.true

pub returns-else-opens_by : goal.returns-else-opens_by
returns-else-opens_by c =
    let s = c in
    let a = s.args in
    as-opened a.what a.was a.sent.now a.rec.now s.if-rec-ne-RECORD_SIZE.false (omega (arith, s.if-sent-size.false, s.data_size-size.ensures.value))
    s.rules_of-rules.ensures c.opens_by.ensures false c.if-opens_by.false
