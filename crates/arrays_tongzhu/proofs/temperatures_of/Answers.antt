-- `arrays_tongzhu::temperatures_of` meets its contract: the loop has placed the first i temperatures.
-- Assumes nothing.
use mathlib.Core.Path.{◌≡◌, ◌∙◌}
use Prim.Native.Nat.{ℕ, ◌+◌}
use borrow.Author.Rules.{rules}
use mir.Syntax.{w8}
use mir.Val.{to_z, of_z}
use Rattle.laws.proofs.Firsts.{firsts_more}
use Rattle.monitor3_tongzhu.specs.Values.{temperature_at}
use Rattle.arrays_tongzhu.proofs.temperatures_of.Goals as goal

pub loop-i-preserved : goal.loop-i-preserved
loop-i-preserved c =
    let a = c.args in
    let l = c.loop-i in
    let e : to_z w8 (of_z w8 c.signed8.result) ≡ c.signed8.result = search rules in
    firsts_more (λ (k : ℕ). temperature_at a.q.now (a.from + k)) _ l.temperature-items l.i _ l.invariant c.loop-i-test.true (e ∙ c.signed8.ensures)
