-- Monitor k's part of the chain's replies to a read, seen from port A, and from port B where the replies come in the other order, is
-- what monitor k replies; so from both ends it is right against its own counter, and against any other its counter differs, and is named.
-- Assumes nothing.
use mathlib.Core.Path.{◌≡◌, refl, sym, ap, ap₂, ◌∙◌}
use mathlib.Core.Bool.{Bool, true, false, cond, not, ◌&&◌, false≢true}
use mathlib.Core.List.{List, [], ◌++◌, map, reverse, append-nil}
use Prim.Native.Nat.{ℕ, ◌-◌, ◌*◌, ◌≤◌}
use native.Mathlib.Nat.{mul_comm, mod-eq_of_lt}
use native.Mathlib.Omega.{arith}
use lib.Dec.{eqb}
use lib.ListN.{length, length-map, length-reverse, get_or, drop_of_length-le}
use borrow.Author.Tests.{eq-eqb, ne_eqb, le-ltb, not-true}
use Rattle.std.specs.Prelude.{Ok}
use Rattle.laws.specs.Rows.{rows, row_at}
use Rattle.laws.proofs.Lists.{get_d_map}
use Rattle.laws.proofs.Rows.{Every, every_image, every_reverse, length-rows, length-joined, row-at}
use Rattle.pec.specs.Words.{counter_of, payload_right}
use Rattle.pec.proofs.CheckWords.{seal-counter}
use Rattle.wire.specs.Order.{reply_data}
use Rattle.refusals.specs.Order.{Passed}
use Rattle.records.specs.declared.commands.Command.TheVariants.{Reads}
use Rattle.records.specs.declared.record.Part.{Part}
use Rattle.records.specs.Record.{record_size, counter, most_count, byte_of}
use Rattle.records.specs.Commands.{commands, command_of, most_monitors, payload_size}
use Rattle.reads.specs.Reply.{register, reply}
use Rattle.reads.proofs.Showing.{length-reply}
use Rattle.judging.specs.Table.{monitors, sound}
use Rattle.replying.specs.Replied.{replied}
use Rattle.chain.specs.Frame.{reply_after}
use Rattle.host.specs.Frames.{frame_for}
use Rattle.ports.specs.declared.checks.Checked.TheVariants.{Right, CounterDiffers}
use Rattle.ports.specs.declared.ports.Port.TheVariants.{A, B}
use Rattle.ports.specs.Verdicts.{is_damaged, is_right, counter_row}
use Rattle.ports.specs.Check.{check_refusals, checked}
use Rattle.ports.specs.Ports.{part_a, part_b, port_of, by_port}
use Rattle.ports.specs.Parts.{bytes_of}
use Rattle.ports.proofs.BothEnds.{part-at_a, part-at_b}
use Rattle.ports.proofs.Choosing.{either, either-b}
use Rattle.ports.proofs.TwoPorts.{Asked, answered}
use Rattle.story.specs.Missed.{from_a, from_b, SeenAs}
use Rattle.story.proofs.OurHost.{reply-after, length-register, reply-right}
use Rattle.story.proofs.Runs.{length-replies}
use Rattle.story.proofs.Verdicts.{told, checked-told, either-from_a, either-from_b}

-- ---- one monitor's reply, against a counter

module _ (part : Part) (r : List ℕ) where
  module _ (expected : ℕ) (small : expected ≤ most_count) (fine : byte_of counter r ≤ most_count) where
    reply-passes : Passed (check_refusals (reply part r) expected)
    unfolding check_refusals counter_row
    reply-passes = (le-ltb most_count expected small, (ap not (eq-eqb (length (reply part r)) payload_size (length-reply part r)), tt))

    reply-counter : counter_of (reply part r) ≡ byte_of counter r
    unfolding reply
    reply-counter = seal-counter (register part r) (byte_of counter r) (length-register part r) ∙ mod-eq_of_lt (omega arith)

    pub reply-is_right : is_right (reply part r) expected ≡ eqb (byte_of counter r) expected
    unfolding is_right
    reply-is_right = ap₂ (λ (right : Bool) (c : ℕ). right && eqb c expected) (reply-right part r) reply-counter

    pub reply-verdict : checked (reply part r) expected ≡ Ok (cond (eqb (byte_of counter r) expected) Right (CounterDiffers (byte_of counter r)))
    reply-verdict =
        checked-told (reply part r) expected reply-passes
        ∙ ap₂ (λ (right : Bool) (c : ℕ). told c right (eqb c expected)) (reply-right part r) reply-counter
        ∙ by (eqb (byte_of counter r) expected)
      where
        by : (same : Bool) → told (byte_of counter r) true same ≡ Ok (cond same Right (CounterDiffers (byte_of counter r)))
        by true = refl
        by false = refl

    pub reply_differs : (expected ≡ byte_of counter r → ⊥) → checked (reply part r) expected ≡ Ok (CounterDiffers (byte_of counter r))
    reply_differs apart =
        reply-verdict
        ∙ ap (λ (same : Bool). Ok (cond same Right (CounterDiffers (byte_of counter r)))) (ne_eqb (byte_of counter r) expected (λ e. apart (sym e)))

  pub reply-same : byte_of counter r ≤ most_count → checked (reply part r) (byte_of counter r) ≡ Ok Right
  reply-same fine =
      reply-verdict (byte_of counter r) fine fine
      ∙ ap (λ (same : Bool). Ok (cond same Right (CounterDiffers (byte_of counter r)))) (eq-eqb (byte_of counter r) (byte_of counter r) refl)

-- ---- from both ends

module _ (part : Part) (n : ℕ) (table : List ℕ) (k : ℕ) (first : 1 ≤ k) (last : k ≤ n) where
  -- the replies of n monitors, nearest first
  abbrev pub replies : List (List ℕ)
  replies = map (reply part) (rows record_size n table)

  abbrev its_record : List ℕ
  its_record = row_at record_size (k - 1) table

  count : length replies ≡ n
  count = length-map (rows record_size n table) (reply part) ∙ length-rows record_size n table

  each : Every payload_size replies
  each = every_image payload_size (reply part) (length-reply part) (rows record_size n table)

  within : k ≤ length replies
  within = omega (arith, count)

  its_own : get_or replies (k - 1) [] ≡ reply part its_record
  its_own =
      get_d_map (reply part) (rows record_size n table) (k - 1) [] [] (omega (arith, length-rows record_size n table))
      ∙ ap (reply part) (row-at record_size n table (k - 1) [] (omega arith))

  pub own-from_a : part_a (from_a part n table) n k ≡ reply part its_record
  own-from_a = ap (λ (m : ℕ). part_a (from_a part n table) m k) (sym count) ∙ part-at_a replies each k first within ∙ its_own

  pub own-from_b : part_b (from_b part n table) n k ≡ reply part its_record
  own-from_b = ap (λ (m : ℕ). part_b (from_b part n table) m k) (sym count) ∙ part-at_b replies each k first within ∙ its_own

  pub right-from_a : payload_right (part_a (from_a part n table) n k) ≡ true
  right-from_a = ap payload_right own-from_a ∙ reply-right part its_record

  pub right-from_b : payload_right (part_b (from_b part n table) n k) ≡ true
  right-from_b = ap payload_right own-from_b ∙ reply-right part its_record

  length-from_a : length (from_a part n table) ≡ payload_size * n
  length-from_a = length-replies part n table

  length-from_b : length (from_b part n table) ≡ payload_size * n
  unfolding reply_data
  length-from_b =
      length-joined payload_size (reverse replies) (every_reverse payload_size replies each)
      ∙ ap (λ (m : ℕ). m * payload_size) (length-reverse replies ∙ count)
      ∙ mul_comm n payload_size

  module _ (few : n ≤ most_monitors) (expected : ℕ) (small : expected ≤ most_count) where
    asked : {a b : List ℕ} → length a ≡ payload_size * n → length b ≡ payload_size * n → Asked a b n k
    asked l m = record { most = few; first = first; last = last; size-a = l; size-b = m }

    -- where port A's reply came whole: its own, if port B's part is not right or its own is
    from-a : (b : List ℕ) → length b ≡ payload_size * n → (is_right (part_b b n k) expected ≡ true → is_right (reply part its_record) expected ≡ true)
        → port_of (from_a part n table) b n k expected ≡ Ok (A (not (is_right (reply part its_record) expected)))
    from-a b l no-better =
        answered (from_a part n table) b n k expected (asked length-from_a l) small
        ∙ ap (λ (in_a : List ℕ). either in_a (part_b b n k) expected) own-from_a
        ∙ either-from_a (reply part its_record) (part_b b n k) expected (reply-right part its_record) no-better

    -- where port B's reply came whole
    from-b : (a : List ℕ) → length a ≡ payload_size * n → port_of a (from_b part n table) n k expected ≡ either (part_a a n k) (reply part its_record) expected
    from-b a l =
        answered a (from_b part n table) n k expected (asked l length-from_b) small ∙ ap (λ (in_b : List ℕ). either (part_a a n k) in_b expected) own-from_b

    -- what is handed over with the port
    bytes-a : (b : List ℕ) {differs : Bool} → port_of (from_a part n table) b n k expected ≡ Ok (A differs) → bytes_of (from_a part n table) b n k expected ≡ reply part its_record
    unfolding bytes_of
    bytes-a b e = ap (by_port [] (part_a (from_a part n table) n k) (part_b b n k)) e ∙ own-from_a

    bytes-b : (a : List ℕ) {differs : Bool} → port_of a (from_b part n table) n k expected ≡ Ok (B differs) → bytes_of a (from_b part n table) n k expected ≡ reply part its_record
    unfolding bytes_of
    bytes-b a e = ap (by_port [] (part_a a n k) (part_b (from_b part n table) n k)) e ∙ own-from_b

    -- asked for monitor k, our host hands over what monitor k replied: from port A, where its reply came whole and port B's part is not right
    pub any_from_a : (b : List ℕ) → length b ≡ payload_size * n → is_right (part_b b n k) expected ≡ false
        → (port_of (from_a part n table) b n k expected ≡ Ok (A (not (is_right (reply part its_record) expected))))
        × (bytes_of (from_a part n table) b n k expected ≡ reply part its_record)
    any_from_a b l not_right =
        let e = from-a b l (λ right. absurd (false≢true (sym not_right ∙ right))) in (e, bytes-a b e)

    -- and from port B, where its reply came whole and port A's part is damaged
    pub any_from_b : (a : List ℕ) → length a ≡ payload_size * n → is_damaged (part_a a n k) ≡ true
        → (port_of a (from_b part n table) n k expected ≡ Ok (B (not (is_right (reply part its_record) expected))))
        × (bytes_of a (from_b part n table) n k expected ≡ reply part its_record)
    unfolding is_damaged
    any_from_b a l damaged =
        let e = from-b a l ∙ either-from_b (part_a a n k) (reply part its_record) expected (not-true _ damaged) (reply-right part its_record) in (e, bytes-b a e)

    -- expecting its own counter: from port A whatever came to port B, and from port B where port A's part is not right
    module _ (own : expected ≡ byte_of counter its_record) where
      right_here : is_right (reply part its_record) expected ≡ true
      right_here = reply-is_right part its_record expected small (omega arith) ∙ eq-eqb (byte_of counter its_record) expected (sym own)

      pub handed-from_a : (b : List ℕ) → length b ≡ payload_size * n
          → (port_of (from_a part n table) b n k expected ≡ Ok (A false)) × (bytes_of (from_a part n table) b n k expected ≡ reply part its_record)
      handed-from_a b l =
          let e = from-a b l (λ right. right_here) ∙ ap (λ (right : Bool). Ok (A (not right))) right_here in (e, bytes-a b e)

      pub handed-from_b : (a : List ℕ) → length a ≡ payload_size * n → is_right (part_a a n k) expected ≡ false
          → (port_of a (from_b part n table) n k expected ≡ Ok (B false)) × (bytes_of a (from_b part n table) n k expected ≡ reply part its_record)
      handed-from_b a l not_right =
          let e = from-b a l ∙ either-b (part_a a n k) (reply part its_record) expected not_right right_here in (e, bytes-b a e)

    -- so both ports show it as it is
    pub seen : {right : Bool} {received : ℕ} → checked (reply part its_record) expected ≡ Ok (cond right Right (CounterDiffers received)) → is_right (reply part its_record) expected ≡ right
        → SeenAs part n table k expected right received
    seen verdict e =
        record {
          at_a = ap (λ (eight : List ℕ). checked eight expected) own-from_a ∙ verdict;
          at_b = ap (λ (eight : List ℕ). checked eight expected) own-from_b ∙ verdict;
          from_both =
              from-a (from_b part n table) length-from_b (λ right. ap (λ (eight : List ℕ). is_right eight expected) (sym own-from_b) ∙ right)
              ∙ ap (λ (right : Bool). Ok (A (not right))) e;
          a_damaged = λ a l damaged. (any_from_b a l damaged).0 ∙ ap (λ (right : Bool). Ok (B (not right))) e;
          b_damaged = λ b l damaged. from-a b l (λ right. absurd (not_both (part_b b n k) damaged right)) ∙ ap (λ (right : Bool). Ok (A (not right))) e;
        }
      where
        not_both : (eight : List ℕ) → is_damaged eight ≡ true → is_right eight expected ≡ true → ⊥
        not_both eight = unfold is_damaged is_right in by (payload_right eight)
          where
            by : (b : Bool) → not b ≡ true → b && eqb (counter_of eight) expected ≡ true → ⊥
            by true e f = false≢true e
            by false e f = false≢true f

-- what port A's reply is: what the chain leaves in a buffer of that length for a read that our host built
pub the_replies : (table buffer : List ℕ) (code : ℕ) (part : Part) → command_of code commands ≡ Reads part → sound table ≡ true
    → length buffer ≡ payload_size * monitors table
    → reply_after table (frame_for code (monitors table) []) buffer ≡ from_a part (monitors table) table
unfolding replied
the_replies table buffer code part its s l =
    let all = from_a part (monitors table) table in
    reply-after table [] buffer code (Reads part) its refl s refl (omega (arith, l))
    ∙ ap (λ (rest : List ℕ). all ++ rest) (drop_of_length-le buffer {i = payload_size * monitors table} (omega (arith, l)))
    ∙ append-nil all
