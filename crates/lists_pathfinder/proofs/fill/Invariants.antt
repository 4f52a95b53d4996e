-- The loop's invariant: the words so far stand in front of what was there past them. Assumes nothing.
use mathlib.Core.Path.{◌≡◌}
use mathlib.Core.List.{◌++◌}
use lib.ListN.{drop}
use Rattle.lists_pathfinder.specs.Lists.{words}
use Rattle.lists_pathfinder.proofs.fill.Given as goal

abbrev pub invariant-loop-i : goal.invariant-loop-i
invariant-loop-i l = l.row ≡ words l.i l.s ++ drop l.i l.fn.row
