-- `checks::sixteen` meets its contract: what it computes is the closed form of sixteen moves.
-- Assumes nothing.
use Rattle.checks.proofs.Moves.{mixed, spread, sixteen_moves, spread_lt}
use Rattle.checks.proofs.sixteen.Goals as goal

pub returns : goal.returns
unfolding mixed spread
returns c = (sixteen_moves c.args.x c.requires, spread_lt c.args.x c.requires)
