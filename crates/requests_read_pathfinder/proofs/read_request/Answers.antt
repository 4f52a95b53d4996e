-- `requests_read_pathfinder::read_request` meets its contract: the frame's data lie within the input. Assumes nothing.
use native.Mathlib.Omega.{arith}
use Rattle.frames_pathfinder.proofs.Ladder.{whole_parts}
use Rattle.requests_read_pathfinder.proofs.read_request.Goals as goal

pub overflow_add-frame : goal.overflow_add-frame
overflow_add-frame c = let p = whole_parts _ _ c.in_ok-frame.ensures in omega arith

pub slice_bounds-parse-end : goal.slice_bounds-parse-end
slice_bounds-parse-end c = let p = whole_parts _ _ c.in_ok-frame.ensures in omega arith
