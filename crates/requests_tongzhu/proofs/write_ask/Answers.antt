-- `requests_tongzhu::write_ask` meets its contract: head and check around no payload are the frame.
-- Assumes nothing.
use mathlib.Core.Path.{◌∙◌}
use borrow.Author.Rules.{rules}
use Rattle.std.specs.Prelude.{Ok}
use Rattle.refusals.proofs.Writing.{both_halves}
use Rattle.frames_written_tongzhu.specs.Writing.{begun, sealed}
use Rattle.requests_tongzhu.specs.declared.Request.TheVariants.{Ask}
use Rattle.requests_tongzhu.specs.Requests.{frame_for}
use Rattle.requests_tongzhu.proofs.Made.{ask_sent, ask_made}
use Rattle.requests_tongzhu.proofs.write_ask.Goals as goal

pub returns : goal.returns
returns c =
    let a = c.args in
    let told = both_halves (Ok tt) 6 _ (frame_for (Ask a.function)) a.out.now (begun a.function 0 a.out.now) _ _ (λ l. l) (sealed 0) _ _
    c.begin.ensures.answer c.in_ok-begin.was c.begin.ensures.room (search rules) c.seal.ensures.answer c.seal.ensures.room (ask_made a.function a.out.now) in
    record { answer = told.0 ∙ ask_sent a.function _ c.in_ok-check_ask.ensures; room = told.1 }
