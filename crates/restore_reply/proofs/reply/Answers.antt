-- `reply` meets its contract. Each way out is a law of `Steps`.
-- Assumes nothing.
use mathlib.Core.Path.{ap, ◌∙◌}
use mathlib.Core.Bool.{Bool}
use Rattle.std.specs.Prelude.{Ok}
use Rattle.restore_reply.specs.Reply.{answer_in}
use Rattle.restore_reply.proofs.Steps.{not_waiting, reply_refused, register_written, device_failed}
use Rattle.restore_reply.proofs.reply.Goals as goal

pub returns-in_default : goal.returns-in_default
returns-in_default c =
    let a = c.args in
    not_waiting a.job.present a.job.wanted a.job.phase a.s.now c.hear-answer.result c.in_default.not-Waiting ((c.hear-answer.ensures ∙ ap (λ (b : Bool). answer_in b c.args.s.now) c.is_waiting-waiting.ensures))

pub returns-in_default-answer : goal.returns-in_default-answer
returns-in_default-answer c =
    let a = c.args in
    reply_refused a.job.present a.job.wanted a.job.phase c.in-Waiting.register c.in-Waiting.is a.s.now
    c.hear-answer.result ((c.hear-answer.ensures ∙ ap (λ (b : Bool). answer_in b c.args.s.now) c.is_waiting-waiting.ensures)) c.in_default-answer.field-0 c.in_default-answer.is

pub returns-in-Written : goal.returns-in-Written
returns-in-Written c =
    let a = c.args in
    rw (c.marked.ensures, c.in-Written.is)
    (register_written a.job.present a.job.wanted a.job.phase c.in-Waiting.register c.in-Waiting.is a.s.now
    c.hear-answer.result ((c.hear-answer.ensures ∙ ap (λ (b : Bool). answer_in b c.args.s.now) c.is_waiting-waiting.ensures)) (c.in-Ok.is ∙ ap Ok c.in-Written.is))

pub returns-in-Failure : goal.returns-in-Failure
returns-in-Failure c =
    let a = c.args in
    rw (c.stopped.ensures, c.in-Failure.is)
    (device_failed a.job.present a.job.wanted a.job.phase c.in-Waiting.register c.in-Waiting.is a.s.now
    c.hear-answer.result ((c.hear-answer.ensures ∙ ap (λ (b : Bool). answer_in b c.args.s.now) c.is_waiting-waiting.ensures)) c.in-Failure.field-0 (c.in-Ok.is ∙ ap Ok c.in-Failure.is))
