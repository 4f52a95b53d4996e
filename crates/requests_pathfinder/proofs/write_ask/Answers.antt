-- `requests_pathfinder::write_ask` meets its contract: a fault refuses; else the frame. Assumes nothing.
use mathlib.Core.Path.{◌∙◌}
use Rattle.std.proofs.lemmas.Result.{err_from_is_err_and}
use Rattle.refusals.proofs.Writing.{faulty}
use Rattle.requests_pathfinder.specs.declared.Request.TheVariants.{Ask}
use Rattle.requests_pathfinder.proofs.Made.{sent}
use Rattle.requests_pathfinder.proofs.write_ask.Goals as goal

pub returns-in_err-check_ask-clause-answer : goal.returns-in_err-check_ask-clause-answer
returns-in_err-check_ask-clause-answer c =
    let p = err_from_is_err_and c.from_residual.result c.from_residual.ensures.1 in
    rw (p.1, p.2) (faulty _ _ _ _ c.in_err-check_ask.ensures)

pub returns-clause-answer : goal.returns-clause-answer
returns-clause-answer c = c.ask_frame.ensures.answer ∙ sent (Ask c.args.opcode) _ c.in_ok-check_ask.ensures
