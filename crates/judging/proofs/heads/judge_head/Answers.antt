-- `judging::heads::judge_head` meets its contract: each test is the condition of a refusal, in their order.
-- Assumes nothing.
use mathlib.Core.Path.{◌≡◌, sym, ap, ◌∙◌}
use mathlib.Core.Bool.{Bool, true}
use mathlib.Core.List.{List}
use Prim.Native.Nat.{ℕ, ◌≤◌}
use lib.ListN.{take}
use Rattle.pec.specs.Words.{word_at, command_right}
use Rattle.records.specs.declared.commands.Command.{Command}
use Rattle.records.specs.Commands.{commands, command_of, is_listed, frame_length, most_monitors}
use Rattle.judging.specs.Refusals.{command_in}
use Rattle.judging.specs.Heads.{head_judged}
use Rattle.judging.proofs.Judging.{from, stop_few, stop_many, pass-count, stop_short, pass_short, stop_command, pass_command, stop_listed, pass_listed, stop_length, pass_length, within_most}
use Rattle.judging.proofs.heads.judge_head.Goals as goal
use Rattle.judging.specs.Heads.{good}

-- ---- what the tests have left to judge, test after test

module _ (frame : List ℕ) (bytes n : ℕ) (some : 1 ≤ n) (few : n ≤ most_monitors) (long : 4 ≤ bytes) where
  after-short : head_judged frame bytes n ≡ from frame bytes n 2
  after-short = pass-count frame bytes n some few ∙ pass_short frame bytes n long

  after-command : command_right (take 4 frame) ≡ true → head_judged frame bytes n ≡ from frame bytes n 3
  after-command right = after-short ∙ pass_command frame bytes n right

  after-listed : command_right (take 4 frame) ≡ true → is_listed (command_in frame) ≡ true → head_judged frame bytes n ≡ from frame bytes n 4
  after-listed right listed = after-command right ∙ pass_listed frame bytes n listed

-- what is asked of the first four bytes
check-of : (frame : List ℕ) {four : List ℕ} {b : Bool} → four ≡ take 4 frame → b ≡ command_right four → command_right (take 4 frame) ≡ b
check-of frame e d = ap command_right (sym e) ∙ sym d

-- the command of the head
command-of-head : (frame : List ℕ) {code : ℕ} {k : Command} → code ≡ word_at frame 0 → k ≡ command_of code commands → k ≡ command_in frame
unfolding command_in
command-of-head frame e d = d ∙ ap (λ (code : ℕ). command_of code commands) e

-- ---- the answers
pub returns-then-n-lt1 : goal.returns-then-n-lt1
returns-then-n-lt1 c =
    let a = c.args in
    sym (stop_few a.frame.now a.bytes a.n c.if-n-lt1.true)

pub returns-then-n-gt-MOST_MONITORS : goal.returns-then-n-gt-MOST_MONITORS
returns-then-n-gt-MOST_MONITORS c =
    let a = c.args in
    sym (stop_many a.frame.now a.bytes a.n c.if-n-lt1.false c.if-n-gt-MOST_MONITORS.true)

pub returns-then-bytes-lt4 : goal.returns-then-bytes-lt4
returns-then-bytes-lt4 c =
    let a = c.args in
    sym (pass-count a.frame.now a.bytes a.n c.if-n-lt1.false c.if-n-gt-MOST_MONITORS.false ∙ stop_short a.frame.now a.bytes a.n c.if-bytes-lt4.true)

pub returns-then-not-command_right : goal.returns-then-not-command_right
returns-then-not-command_right c =
    let a = c.args in
    sym (after-short a.frame.now a.bytes a.n c.if-n-lt1.false c.if-n-gt-MOST_MONITORS.false c.if-bytes-lt4.false
    ∙ stop_command a.frame.now a.bytes a.n (check-of a.frame.now c.head_of.ensures c.command_right.ensures ∙ c.if-not-command_right.true))

pub returns-then-not-is_listed : goal.returns-then-not-is_listed
returns-then-not-is_listed c =
    let a = c.args in
    let right = check-of a.frame.now c.head_of.ensures c.command_right.ensures ∙ c.if-not-command_right.false in
    let its = command-of-head a.frame.now c.code_in.ensures c.command_of-command.ensures in
    sym (after-command a.frame.now a.bytes a.n c.if-n-lt1.false c.if-n-gt-MOST_MONITORS.false c.if-bytes-lt4.false right
    ∙ stop_listed a.frame.now a.bytes a.n (ap is_listed (sym its) ∙ sym c.is_listed.ensures ∙ c.if-not-is_listed.true))

pub returns-then-bytes-frame_length : goal.returns-then-bytes-frame_length
returns-then-bytes-frame_length c =
    let a = c.args in
    let right = check-of a.frame.now c.head_of.ensures c.command_right.ensures ∙ c.if-not-command_right.false in
    let its = command-of-head a.frame.now c.code_in.ensures c.command_of-command.ensures in
    let length = within_most a.n _ c.if-n-gt-MOST_MONITORS.false c.frame_length.ensures ∙ ap (λ (k : Command). frame_length k a.n) its in
    sym (after-listed a.frame.now a.bytes a.n c.if-n-lt1.false c.if-n-gt-MOST_MONITORS.false c.if-bytes-lt4.false right
    (ap is_listed (sym its) ∙ sym c.is_listed.ensures ∙ c.if-not-is_listed.false)
    ∙ stop_length a.frame.now a.bytes a.n (λ e. c.if-bytes-frame_length.true (e ∙ sym length)))

pub returns : goal.returns
returns c =
    let a = c.args in
    let right = check-of a.frame.now c.head_of.ensures c.command_right.ensures ∙ c.if-not-command_right.false in
    let its = command-of-head a.frame.now c.code_in.ensures c.command_of-command.ensures in
    let length = within_most a.n _ c.if-n-gt-MOST_MONITORS.false c.frame_length.ensures ∙ ap (λ (k : Command). frame_length k a.n) its in
    ap (λ (k : Command). good k a.n) its
    ∙ sym (after-listed a.frame.now a.bytes a.n c.if-n-lt1.false c.if-n-gt-MOST_MONITORS.false c.if-bytes-lt4.false right
    (ap is_listed (sym its) ∙ sym c.is_listed.ensures ∙ c.if-not-is_listed.false)
    ∙ pass_length a.frame.now a.bytes a.n (c.if-bytes-frame_length.false ∙ length))
