-- The loop's invariant: the words so far stand in front of what was there past them. Assumes nothing.
use Prim.Native.Nat.{◌*◌}
use mathlib.Core.Path.{◌≡◌}
use mathlib.Core.List.{◌++◌}
use lib.ListN.{take, drop}
use Rattle.lists_pathfinder.specs.Lists.{bytes_of_words}
use Rattle.lists_pathfinder.proofs.put_all.Given as goal

abbrev pub invariant-loop-i : goal.invariant-loop-i
invariant-loop-i l = l.out ≡ bytes_of_words (take l.i l.row) ++ drop (4 * l.i) l.fn.out
