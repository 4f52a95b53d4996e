-- `analog_pace::tenths_of` meets its contract: a count of two bytes less 2730 is what 32 bits hold.
-- Assumes nothing.
use native.Mathlib.Omega.{arith}
use mir.Syntax.{w32}
use Rattle.laws.proofs.Differences.{minus_fits, minus_held}
use Rattle.analog_pace.specs.Analog.{tenths_of}
use Rattle.analog_pace.proofs.tenths_of.Goals as goal

pub returns : goal.returns
unfolding tenths_of
returns c = minus_held w32 c.args.count 2730 (omega arith) (omega arith)

pub overflow_sub-result : goal.overflow_sub-result
overflow_sub-result c = minus_fits w32 c.args.count 2730 (omega arith) (omega arith)
