-- `count_left` meets its contract. The loop's invariant: the count is that of the settings below n; each turn adds one or nothing (`one_more`).
-- Assumes nothing.
use mathlib.Core.Path.{◌≡◌}
use Prim.Native.Nat.{◌≤◌}
use Rattle.restore_order.specs.Slots.{differs, how_many}
use Rattle.restore_rules.proofs.count_left.Given as goal

abbrev pub invariant-loop-n : goal.invariant-loop-n
invariant-loop-n l = (l.n ≤ 50) × (l.count ≡ how_many l.n (differs l.present l.wanted))
