-- `first_write` meets its contract. The loop's invariant: no setting below n differs. The first that does has the first write at its place (`first_found`).
-- Assumes nothing.
use Prim.Native.Nat.{◌≤◌}
use Rattle.restore_rules.proofs.Walk.{Same}
use Rattle.restore_rules.proofs.first_write.Given as goal

abbrev pub invariant-loop-n : goal.invariant-loop-n
invariant-loop-n l = (l.n ≤ 47) × Same l.present l.wanted l.n
