-- `checks::eight` meets its contract: what it computes is the closed form of eight moves.
-- Assumes nothing.
use Rattle.checks.proofs.Moves.{eighth, eight_moves}
use native.Mathlib.Omega.{arith}
use Rattle.checks.proofs.eight.Goals as goal

pub returns : goal.returns
unfolding eighth
returns c = eight_moves c.args.x (omega arith)
