-- `search_pathfinder::mark_from` meets its contract. The loop: the search from the first place is the one from here, since no place passed has a mark.
-- Assumes nothing.
use mathlib.Core.Path.{◌≡◌}
use Prim.Native.Nat.{◌+◌, ◌-◌, ◌≤◌}
use lib.ListN.{length}
use Rattle.search_pathfinder.specs.Places.{scan}
use Rattle.search_pathfinder.proofs.mark_from.Given as goal

abbrev pub invariant-loop-i : goal.invariant-loop-i
invariant-loop-i l = (l.i + 6 ≤ 18446744073709551615) × (l.from ≤ l.i) × (scan (length l.s - l.from) l.from l.s ≡ scan (length l.s - l.i) l.i l.s)

abbrev pub decreases-loop-i : goal.decreases-loop-i
decreases-loop-i l = length l.s - l.i
