-- `lists_tongzhu::put_voltages` meets its contract. The loop's invariant: the first i places have their voltages.
-- Assumes nothing.
use Prim.Native.Nat.{ℕ, ◌+◌, ◌*◌}
use mathlib.Core.Path.{◌≡◌}
use mathlib.Core.List.{◌++◌}
use lib.IntN.{pos}
use lib.ListN.{drop}
use Rattle.laws.specs.Firsts.{firsts}
use Rattle.monitor3_tongzhu.specs.Values.{number_at}
use Rattle.lists_tongzhu.proofs.put_voltages.Given as goal

abbrev pub invariant-loop-i : goal.invariant-loop-i
invariant-loop-i l = l.cell-items ≡ firsts (λ (k : ℕ). pos (number_at l.p (l.from + 2 * k))) l.i ++ drop l.i l.initial.cell-items
