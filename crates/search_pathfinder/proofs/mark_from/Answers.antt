-- `search_pathfinder::mark_from` meets its contract. The loop: the search from the first place is the one from here, since no place passed has a mark.
-- Assumes nothing.
use mathlib.Core.Path.{refl, ◌∙◌}
use native.Mathlib.Omega.{arith}
use Rattle.search_pathfinder.proofs.Spans.{scan_on}
use Rattle.search_pathfinder.proofs.Frames.{no_mark_no_frame}
use Rattle.search_pathfinder.proofs.mark_from.Goals as goal

pub loop-i-init : goal.loop-i-init
loop-i-init c = (omega arith, omega arith, refl)

pub returns-then-s-i : goal.returns-then-s-i
returns-then-s-i c = let v = c.loop-i.invariant in (v.0, v.1, λ h. c.if-s-i.true, v.2)

pub loop-i-preserved : goal.loop-i-preserved
loop-i-preserved c =
    (omega arith, omega arith, c.loop-i.invariant.2 ∙ scan_on c.args.s.now c.loop-i.i (omega arith) (no_mark_no_frame c.args.s.now c.loop-i.i c.if-s-i.false))

pub returns : goal.returns
returns c = let v = c.loop-i.invariant in (v.0, v.1, λ h. absurd (omega arith), v.2)
