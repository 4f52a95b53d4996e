-- `all_unmoved` meets its contract. The loop's invariant: every setting so far is unmoved. One that is not decides the answer (`every_stops`).
-- Assumes nothing.
use mathlib.Core.Path.{◌≡◌}
use mathlib.Core.Bool.{true}
use Prim.Native.Nat.{◌≤◌}
use Rattle.restore_order.specs.Slots.{at}
use Rattle.laws.specs.Every.{every}
use Rattle.restore_opening.specs.Verdicts.{unmoved}
use Rattle.restore_opening.proofs.all_unmoved.Given as goal

abbrev pub invariant-loop-n : goal.invariant-loop-n
invariant-loop-n l = (l.n ≤ 50) × (every l.n (λ m. unmoved m (at l.wanted m) (at l.present m)) ≡ true)
