-- `requests_pathfinder::ask_frame` meets its contract: header and end around no data. Assumes nothing.
use mathlib.Core.Path.{refl}
use borrow.Author.Rules.{rules}
use Rattle.std.specs.Prelude.{Ok}
use Rattle.refusals.proofs.Writing.{both_halves}
use Rattle.frames_written_pathfinder.specs.Writing.{begun, sealed}
use Rattle.requests_pathfinder.specs.declared.Request.TheVariants.{Ask}
use Rattle.requests_pathfinder.specs.Requests.{frame_for}
use Rattle.requests_pathfinder.proofs.Made.{ask_made}
use Rattle.requests_pathfinder.proofs.ask_frame.Goals as goal

pub returns-clause-room : goal.returns-clause-room
returns-clause-room c =
    let end = c.seal in
    let head = c.in_ok-begin in
    let a = c.args in
    (both_halves (Ok tt) 6 _ (frame_for (Ask a.opcode)) a.out.now (begun a.opcode 0 a.out.now) _ _ (λ l. l) (sealed 0) _ _
    head.ensures.answer refl head.ensures.room (search rules) end.ensures.answer end.ensures.room (ask_made a.opcode a.out.now)).1
