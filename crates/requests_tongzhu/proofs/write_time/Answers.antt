-- `requests_tongzhu::write_time` meets its contract: the first refusal, or head, six bytes and check, which are the frame.
-- Assumes nothing.
use mathlib.Core.Path.{◌∙◌}
use borrow.Author.Rules.{rules}
use borrow.Rule.Slice.PartMut.{put_mid}
use Rattle.std.specs.Prelude.{Ok}
use Rattle.std.proofs.lemmas.Result.{err_from_is_err_and}
use Rattle.refusals.proofs.Writing.{both_halves}
use Rattle.frames_written_tongzhu.specs.Writing.{begun, sealed}
use Rattle.requests_tongzhu.specs.declared.Request.TheVariants.{SetTime}
use Rattle.requests_tongzhu.specs.Requests.{frame_for}
use Rattle.requests_tongzhu.proofs.Made.{time_refused, time_sent, time_made}
use Rattle.requests_tongzhu.proofs.write_time.Goals as goal

pub returns : goal.returns
returns c =
    let a = c.args in
    let told = both_halves (Ok tt) 12 _ (frame_for (SetTime a.t)) a.out.now (begun 0x30 6 a.out.now) _ _ (λ l. put_mid 5 6 l c.put_time.new.out) (sealed 6) _ _
    c.begin.ensures.answer c.in_ok-begin.was c.begin.ensures.room (search rules) c.seal.ensures.answer c.seal.ensures.room
    (time_made a.t a.out.now _ c.put_time.ensures) in
    record { answer = told.0 ∙ time_sent a.t _ _ _ c.check_time.ensures c.in_ok-writing.ensures; room = told.1 }

pub returns-in_err-writing-clause-answer : goal.returns-in_err-writing-clause-answer
returns-in_err-writing-clause-answer c =
    let p = err_from_is_err_and c.from_residual.result c.from_residual.ensures.1 in
    rw (p.1, p.2) (time_refused c.args.t _ _ _ c.check_time.ensures c.in_err-writing.ensures)

pub returns-in_err-begin-clause-answer : goal.returns-in_err-begin-clause-answer
returns-in_err-begin-clause-answer c =
    let p = err_from_is_err_and c.from_residual-in_err-begin.result c.from_residual-in_err-begin.ensures.1 in
    rw (p.1, p.2) (c.in_err-begin.ensures.answer ∙ time_sent c.args.t _ _ _ c.check_time.ensures c.in_ok-writing.ensures)
