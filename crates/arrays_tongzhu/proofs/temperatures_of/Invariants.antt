-- `arrays_tongzhu::temperatures_of` meets its contract: the loop has placed the first i temperatures.
-- Assumes nothing.
use mathlib.Core.List.{◌++◌}
use mathlib.Core.Path.{◌≡◌}
use Prim.Native.Nat.{ℕ, ◌+◌}
use lib.ListN.{drop}
use Rattle.laws.specs.Firsts.{firsts}
use Rattle.monitor3_tongzhu.specs.Values.{temperature_at}
use Rattle.arrays_tongzhu.proofs.temperatures_of.Given as goal

abbrev pub invariant-loop-i : goal.invariant-loop-i
invariant-loop-i l = l.temperature-items ≡ firsts (λ (k : ℕ). temperature_at l.q (l.from + k)) l.i ++ drop l.i l.initial.temperature-items
