-- `lists_tongzhu::put_flags` meets its contract. The loop's invariant: the first i places have their bytes.
-- Assumes nothing.
use Prim.Native.Nat.{ℕ, ◌+◌}
use mathlib.Core.Path.{◌≡◌}
use mathlib.Core.List.{◌++◌}
use lib.IntN.{pos}
use lib.ListN.{get_or, drop}
use Rattle.laws.specs.Firsts.{firsts}
use Rattle.lists_tongzhu.proofs.put_flags.Given as goal

abbrev pub invariant-loop-i : goal.invariant-loop-i
invariant-loop-i l = l.flags-items ≡ firsts (λ (k : ℕ). pos (get_or l.p (l.from + k) 0)) l.i ++ drop l.i l.initial.flags-items
