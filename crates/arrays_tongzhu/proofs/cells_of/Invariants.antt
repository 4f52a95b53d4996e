-- `arrays_tongzhu::cells_of` meets its contract: the loop has placed the first i voltages.
-- Assumes nothing.
use mathlib.Core.List.{◌++◌}
use mathlib.Core.Path.{◌≡◌}
use Prim.Native.Nat.{ℕ, ◌+◌, ◌*◌}
use lib.ListN.{drop}
use Rattle.laws.specs.Firsts.{firsts}
use Rattle.monitor3_tongzhu.specs.Values.{number_at}
use Rattle.arrays_tongzhu.proofs.cells_of.Given as goal

abbrev pub invariant-loop-i : goal.invariant-loop-i
invariant-loop-i l = l.cell-items ≡ firsts (λ (k : ℕ). number_at l.q (l.from + 2 * k)) l.i ++ drop l.i l.initial.cell-items
