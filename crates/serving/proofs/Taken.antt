-- Which monitors take a frame: all of them a read and a bare command; of a write those that are not in LPCM and whose own bytes are right, or, of
-- one that does not need its check right, all that are not in LPCM. By counting along the records and the payloads, which are as many as the
-- monitors and, in a whole frame, as many bytes each as the command has.
-- Assumes nothing.
use mathlib.Core.Path.{◌≡◌, refl, sym, ap, ap₂, ◌∙◌}
use mathlib.Core.Bool.{Bool, true, false, not, ◌&&◌}
use mathlib.Core.List.{List, []}
use Prim.Native.Nat.{ℕ, suc, ◌+◌, ◌-◌, ◌*◌, ◌≤◌, ◌<◌}
use native.Mathlib.Nat.{zero-add, mul_comm}
use native.Mathlib.Nat.{zero-add, mul_comm}
use native.Mathlib.Omega.{arith}
use lib.ListN.{length, drop, length-drop, get_or}
use borrow.Author.Tests.{eq-eqb}
use Rattle.laws.specs.Counts.{count}
use Rattle.laws.specs.Rows.{rows, row_at, along}
use Rattle.laws.specs.Tables.{tabulate}
use Rattle.laws.proofs.Counts.{and_true, count-all, count_nothing, count_where, count-places}
use Rattle.laws.proofs.CountsAlong.{count-first, count-second}
use Rattle.laws.proofs.Rows.{length-rows, row-at, every_at, length-along, along-at}
use Rattle.pec.specs.Words.{sealed_right}
use Rattle.wire.proofs.Order.{every_write_payloads}
use Rattle.records.specs.declared.commands.Bare.{Bare}
use Rattle.records.specs.declared.commands.Command.{Command}
use Rattle.records.specs.declared.commands.Command.TheVariants.{Reads, Writes, Bares, Unlisted}
use Rattle.records.specs.declared.commands.Write.{Write}
use Rattle.records.specs.declared.record.Part.{Part}
use Rattle.records.specs.Record.{record_size, in_lpcm}
use Rattle.records.specs.Commands.{data_size, width_of}
use Rattle.writes.specs.Writes.{rules_of}
use Rattle.monitor.specs.Effects.{good_for, accepts, takes}
use Rattle.monitor.proofs.Keeping.{good-checked, good_unchecked, accepts_awake}
use Rattle.serving.specs.Served.{takers, Awake, awake_of, payloads_in, taken_by}
use Rattle.serving.proofs.OwnPayload.{own-bytes, length-payloads_in}

-- as many monitors as there are own bytes
as_many : (c : Command) (n : ℕ) (table frame : List ℕ) → length (rows record_size n table) ≡ length (payloads_in c frame n)
as_many c n table frame = length-rows record_size n table ∙ sym (length-payloads_in c n table frame)

taken_always : (c : Command) → ((own r : List ℕ) → takes c own r ≡ true) → (n : ℕ) (table frame : List ℕ) → taken_by c n table frame ≡ n
unfolding taken_by takers
taken_always c always n table frame =
    count-first (λ r own. takes c own r) [] [] (λ r. true) (rows record_size n table) (payloads_in c frame n) (as_many c n table frame) (λ k l. always _ _)
    ∙ count-all (λ r. true) (λ r. refl) (rows record_size n table)
    ∙ length-rows record_size n table

pub taken_read : (part : Part) (n : ℕ) (table frame : List ℕ) → taken_by (Reads part) n table frame ≡ n
taken_read part = taken_always (Reads part) (λ own r. refl)

pub taken_bare : (c : Bare) (n : ℕ) (table frame : List ℕ) → taken_by (Bares c) n table frame ≡ n
taken_bare c = taken_always (Bares c) (λ own r. refl)

-- no monitor takes what is no command
pub taken_none : (n : ℕ) (table frame : List ℕ) → taken_by Unlisted n table frame ≡ 0
unfolding taken_by takers
taken_none n table frame =
    count-first (λ r own. takes Unlisted own r) [] [] (λ r. false) (rows record_size n table) (payloads_in Unlisted frame n) (as_many Unlisted n table frame) (λ k l. refl)
    ∙ count_nothing (λ r. false) (λ r. refl) (rows record_size n table)

module _ (c : Write) (n : ℕ) (table frame : List ℕ) where
  -- the count of a chain with no monitor in LPCM
  taken_awake : Awake n table → taken_by (Writes c) n table frame ≡ count (good_for c) (payloads_in (Writes c) frame n)
  unfolding taken_by takers
  taken_awake awake =
      count-second (λ r own. accepts c own r) [] [] (good_for c) (rows record_size n table) (payloads_in (Writes c) frame n) (as_many (Writes c) n table frame)
      (λ k l.
      let within : k < n = omega (arith, length-payloads_in (Writes c) n table frame) in
      accepts_awake c _ _ (ap in_lpcm (row-at record_size n table k [] within) ∙ awake k within))

  pub taken-checked : (rules_of c).needs_check ≡ true → Awake n table
      → taken_by (Writes c) n table frame ≡ count (sealed_right (data_size c)) (payloads_in (Writes c) frame n)
  taken-checked e awake = taken_awake awake ∙ λ j. count (λ own. good-checked c own e j) (payloads_in (Writes c) frame n)

  -- of a whole frame, those that are not in LPCM
  pub taken_unchecked : (rules_of c).needs_check ≡ false → length frame ≡ 4 + width_of (Writes c) * n
      → taken_by (Writes c) n table frame ≡ awake_of n table
  unfolding taken_by takers accepts payloads_in awake_of
  taken_unchecked e whole =
      let w = width_of (Writes c) in
      count-first (λ r own. accepts c own r) [] [] (λ r. not (in_lpcm r)) (rows record_size n table) (payloads_in (Writes c) frame n) (as_many (Writes c) n table frame)
      (λ k l.
      let within : k < length (payloads_in (Writes c) frame n) = omega (arith, as_many (Writes c) n table frame) in
      let long = every_at w (payloads_in (Writes c) frame n) k [] (every_write_payloads w n (drop 4 frame) enough) within in
      ap (λ (b : Bool). not (in_lpcm (get_or (rows record_size n table) k [])) && b) (good_unchecked c _ e ∙ eq-eqb _ w long) ∙ and_true _)
    where
      enough : n * width_of (Writes c) ≤ length (drop 4 frame)
      enough = omega (arith, length-drop 4 frame, whole, mul_comm n (width_of (Writes c)))

-- of any chain, by the monitors' places
pub taken_places : (c : Write) (n : ℕ) (table frame : List ℕ)
    → taken_by (Writes c) n table frame
    ≡ count (λ k. accepts c (row_at (width_of (Writes c)) (n - suc k) (drop 4 frame)) (row_at record_size k table)) (tabulate (λ k. k) 0 n)
unfolding taken_by takers
taken_places c n table frame =
    let took = along (λ r own. accepts c own r) (rows record_size n table) (payloads_in (Writes c) frame n) in
    let all : length took ≡ n = length-along (λ r own. accepts c own r) (rows record_size n table) (payloads_in (Writes c) frame n) (as_many (Writes c) n table frame) ∙ length-rows record_size n table in
    count-places (λ t. t) (λ k. accepts c (row_at (width_of (Writes c)) (n - suc k) (drop 4 frame)) (row_at record_size k table)) false 0 took
    (λ k l.
    let there : k < n = omega (arith, all) in
    let in_rows : k < length (rows record_size n table) = omega (arith, length-rows record_size n table) in
    let in-owns : k < length (payloads_in (Writes c) frame n) = omega (arith, length-payloads_in (Writes c) n table frame) in
    along-at (λ r own. accepts c own r) (rows record_size n table) (payloads_in (Writes c) frame n) k [] [] false in_rows in-owns
    ∙ ap₂ (λ (r own : List ℕ). accepts c own r) (row-at record_size n table k [] there) (own-bytes (Writes c) n table frame k there)
    ∙ ap (λ (j : ℕ). accepts c (row_at (width_of (Writes c)) (n - suc j) (drop 4 frame)) (row_at record_size j table)) (sym (zero-add k)))
    ∙ ap (λ (m : ℕ). count (λ k. accepts c (row_at (width_of (Writes c)) (n - suc k) (drop 4 frame)) (row_at record_size k table)) (tabulate (λ k. k) 0 m)) all

-- all of a chain that has none in LPCM
pub awake_all : (n : ℕ) (table : List ℕ) → Awake n table → awake_of n table ≡ n
unfolding awake_of
awake_all n table awake =
    count_where (λ r. not (in_lpcm r)) (rows record_size n table) []
    (λ k l.
    let within : k < n = omega (arith, length-rows record_size n table) in
    ap not (ap in_lpcm (row-at record_size n table k [] within) ∙ awake k within))
    ∙ length-rows record_size n table
