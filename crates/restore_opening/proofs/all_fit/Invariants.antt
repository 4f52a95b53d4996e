-- `all_fit` meets its contract. The loop's invariant: every value so far fits. A value that does not fit decides the answer (`every_stops`).
-- Assumes nothing.
use mathlib.Core.Path.{◌≡◌}
use mathlib.Core.Bool.{true}
use Prim.Native.Nat.{◌≤◌}
use Rattle.restore_order.specs.Slots.{at}
use Rattle.laws.specs.Every.{every}
use Rattle.restore_opening.specs.Verdicts.{fits}
use Rattle.restore_opening.proofs.all_fit.Given as goal

abbrev pub invariant-loop-n : goal.invariant-loop-n
invariant-loop-n l = (l.n ≤ 50) × (every l.n (λ m. fits l.wanted m (at l.values m)) ≡ true)
