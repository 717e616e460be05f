-- `host::frames::build` meets its contract, by the judgement. Where it is accepted, the command and its check are put first, and what
-- follows behind them: together they are the frame.
-- Assumes nothing.
use mathlib.Core.Path.{◌≡◌, sym, ap, ◌∙◌}
use native.Mathlib.Omega.{arith}
use mathlib.Core.List.{List}
use Prim.Native.Nat.{ℕ}
use lib.ListN.{length}
use Rattle.refusals.proofs.PassedOn.{passed_on}
use Rattle.laying.specs.Placed.{placed}
use Rattle.records.specs.declared.commands.Command.{Command}
use Rattle.records.specs.Commands.{commands, command_of}
use Rattle.host.specs.Frames.{head_size, body, judged, built}
use Rattle.host.proofs.Judging.{Buildable, accepted_buildable, built-by}
use Rattle.host.proofs.FrameFor.{head, head-fits, built-refused, placed-accepted}
use Rattle.host.proofs.frames.build.Goals as goal
use Rattle.std.specs.Prelude.{Result, Ok}
use Rattle.refusals.specs.declared.Refusal.{Refusal}

module _ (code n : ℕ) (values : List ℕ) (room : ℕ) {command : Command} (named : command ≡ command_of code commands)
    {answer : Result ℕ Refusal} (asked : answer ≡ judged command n (length values) room) where
  -- the judgement is the answer
  answered : answer ≡ built code n values room
  answered = asked ∙ ap (λ (k : Command). judged k n (length values) room) named ∙ sym (built-by code n values room)

pub returns-in_err-length : goal.returns-in_err-length
returns-in_err-length c =
    let q = c.args in
    let answer = answered q.code q.n q.values.now (length q.buffer.now) c.command_of-command.ensures c.in_err-length.ensures in
    record { value = passed_on c.from_residual.ensures.1 ∙ answer; buffer_after = sym (built-refused q.code q.n q.values.now q.buffer.now _ (sym answer)) }

pub put_head-requires : goal.put_head-requires
put_head-requires c =
    let q = c.args in
    let b = accepted_buildable c.command_of-command.result q.n (length q.values.now) (length q.buffer.now) (sym c.in_ok-length.ensures) in
    omega (arith, head-fits c.command_of-command.result q.n, b.fits)

pub put_body-requires : goal.put_body-requires
put_body-requires c =
    let q = c.args in
    let b = accepted_buildable c.command_of-command.result q.n (length q.values.now) (length q.buffer.now) (sym c.in_ok-length.ensures) in
    (b.most, b.count, omega (arith, b.fits, c.put_head.auto.buffer))

pub returns : goal.returns
returns c =
    let q = c.args in
    let answer = answered q.code q.n q.values.now (length q.buffer.now) c.command_of-command.ensures c.in_ok-length.ensures in
    record {
      value = answer;
      buffer_after = c.put_body.ensures
          ∙ ap (placed head_size (body c.command_of-command.result q.n q.values.now)) c.put_head.ensures
          ∙ ap (λ (k : Command). placed head_size (body k q.n q.values.now) (placed 0 (head q.code) q.buffer.now)) c.command_of-command.ensures
          ∙ placed-accepted q.code q.n q.values.now q.buffer.now (sym answer);
    }
