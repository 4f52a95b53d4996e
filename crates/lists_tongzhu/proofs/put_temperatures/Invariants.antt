-- `lists_tongzhu::put_temperatures` meets its contract. The loop's invariant: the first i places have their temperatures.
-- Assumes nothing.
use Prim.Native.Nat.{ℕ, ◌+◌}
use mathlib.Core.Path.{◌≡◌}
use mathlib.Core.List.{◌++◌}
use lib.ListN.{drop}
use Rattle.laws.specs.Firsts.{firsts}
use Rattle.monitor3_tongzhu.specs.Values.{temperature_at}
use Rattle.lists_tongzhu.proofs.put_temperatures.Given as goal

abbrev pub invariant-loop-i : goal.invariant-loop-i
invariant-loop-i l = l.temperature-items ≡ firsts (λ (k : ℕ). temperature_at l.p (l.from + k)) l.i ++ drop l.i l.initial.temperature-items
