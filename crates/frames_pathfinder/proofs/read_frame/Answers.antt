-- `frames_pathfinder::read_frame` meets its contract: each way out is a law of the ladder, from the tests that led there.
-- Assumes nothing.
use native.Mathlib.Omega.{arith}
use Rattle.frames_pathfinder.proofs.Ladder.{too_short, wrong_start, wrong_length, fitting, wrong_end, wrong_sum, taken}
use Rattle.frames_pathfinder.proofs.read_frame.Goals as goal

pub returns-then-s-lt6 : goal.returns-then-s-lt6
returns-then-s-lt6 c = grind (arith, too_short)

pub returns-then-not-starts : goal.returns-then-not-starts
returns-then-not-starts c = grind (arith, wrong_start)

pub returns-then-not-fits : goal.returns-then-not-fits
returns-then-not-fits c = grind (arith, wrong_length)

pub returns-then-not-ends : goal.returns-then-not-ends
returns-then-not-ends c = grind (arith, wrong_end, fitting)

pub returns-then-not-closes : goal.returns-then-not-closes
returns-then-not-closes c = grind (arith, wrong_sum, fitting)

pub returns : goal.returns
returns c = grind (arith, taken, fitting)
