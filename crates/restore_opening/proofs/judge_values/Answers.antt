-- `judge_values` meets its contract: each way out is a law of `Judging`, from the tests that led there.
-- Assumes nothing.
use native.Mathlib.Omega.{arith}
use Rattle.restore_opening.proofs.Judging.{sized, misshapen, fixed_moved, out_of_range, wanted_crossed, present_crossed, accepted}
use Rattle.restore_opening.proofs.judge_values.Goals as goal

pub returns-then-not-typed : goal.returns-then-not-typed
returns-then-not-typed c = grind (arith, misshapen, sized)

pub returns-then-not-kept : goal.returns-then-not-kept
returns-then-not-kept c = grind (arith, fixed_moved, sized)

pub returns-then-not-ranged : goal.returns-then-not-ranged
returns-then-not-ranged c = grind (arith, out_of_range, sized)

pub returns-then-not-wanted_right : goal.returns-then-not-wanted_right
returns-then-not-wanted_right c = grind (arith, wanted_crossed, sized)

pub returns-then-not-present_right : goal.returns-then-not-present_right
returns-then-not-present_right c = grind (arith, present_crossed, sized)

pub returns : goal.returns
returns c = grind (arith, accepted, sized)
