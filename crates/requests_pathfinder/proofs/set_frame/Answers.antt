-- `requests_pathfinder::set_frame` meets its contract: header, data and end. Assumes nothing.
use mathlib.Core.Path.{refl, ap, ◌∙◌}
use native.Mathlib.Omega.{arith}
use borrow.Author.Rules.{rules}
use borrow.Rule.Slice.PartMut.{put_mid}
use lib.ListN.{length}
use mir.Syntax.{w32}
use mir.ValLaws.{to_z-of_z}
use Rattle.std.specs.Prelude.{Ok}
use Rattle.refusals.proofs.Writing.{frame_says, both_halves}
use Rattle.frames_written_pathfinder.specs.Writing.{begun, sealed}
use Rattle.requests_pathfinder.specs.declared.Request.TheVariants.{Write}
use Rattle.requests_pathfinder.specs.Requests.{set_load, frame_for}
use Rattle.requests_pathfinder.proofs.Made.{set_made}
use Rattle.requests_pathfinder.proofs.set_frame.Goals as goal

pub slice_bounds-put_set-end : goal.slice_bounds-put_set-end
slice_bounds-put_set-end c =
    omega (arith, (frame_says (Ok tt) 11 (length c.args.out.now) _ c.in_ok-begin.ensures.answer).1.1)

pub returns-clause-room : goal.returns-clause-room
returns-clause-room c =
    let end = c.seal in
    let load = c.put_set in
    let head = c.in_ok-begin in
    let a = c.args in
    let held = to_z-of_z w32 a.value c.ranges.value in
    (both_halves (Ok tt) 11 _ (frame_for (Write a.register a.value)) a.out.now (begun 14 5 a.out.now) _ _ (λ l. put_mid 3 5 l load.new.out) (sealed 5) _ _
    head.ensures.answer refl head.ensures.room (search rules) end.ensures.answer end.ensures.room
    (set_made a.register a.value a.out.now _ (load.ensures ∙ ap (set_load a.register) held))).1
