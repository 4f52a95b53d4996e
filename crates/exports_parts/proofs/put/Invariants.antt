-- `exports_parts::put` meets its contract. The loop's invariant: the first i values stand from the place `at` on, all else as it was.
-- Assumes nothing.
use mathlib.Core.List.{map}
use lib.ListN.{length}
use Rattle.exports_parts.proofs.Placing.{Standing}
use Rattle.exports_parts.proofs.put.Given as goal

abbrev pub invariant-loop-i : goal.invariant-loop-i
invariant-loop-i g l = Standing (length l.numbers) l.at (map g.T.Held.held l.numbers) l.initial.row l.row l.i
