-- `arrays_tongzhu::cells_of` meets its contract: the loop has placed the first i voltages.
-- Assumes nothing.
use Prim.Native.Nat.{ℕ, ◌+◌, ◌*◌}
use Rattle.laws.proofs.Firsts.{firsts_more}
use Rattle.monitor3_tongzhu.specs.Values.{number_at}
use Rattle.arrays_tongzhu.proofs.cells_of.Goals as goal

pub loop-i-preserved : goal.loop-i-preserved
loop-i-preserved c =
    let a = c.args in
    let l = c.loop-i in
    firsts_more (λ (k : ℕ). number_at a.q.now (a.from + 2 * k)) _ l.cell-items l.i _ l.invariant c.loop-i-test.true c.number16.ensures
