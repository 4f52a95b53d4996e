-- `lists_tongzhu::put_temperatures` meets its contract. The loop's invariant: the first i places have their temperatures.
-- Assumes nothing.
use Prim.Native.Nat.{ℕ, ◌+◌}
use mathlib.Core.Path.{◌≡◌, ◌∙◌}
use borrow.Author.Rules.{rules}
use mir.Syntax.{w8, w32}
use mir.Val.{to_z, of_z}
use Rattle.laws.proofs.Firsts.{firsts_more}
use Rattle.monitor3_tongzhu.specs.Values.{temperature_at}
use Rattle.lists_tongzhu.proofs.put_temperatures.Goals as goal

pub loop-i-preserved : goal.loop-i-preserved
loop-i-preserved c =
    let l = c.loop-i in
    let a = c.args in
    let e : to_z w32 (of_z w32 c.from.result) ≡ c.from.result = search rules in
    let b : to_z w8 (of_z w8 c.signed8.result) ≡ c.signed8.result = search rules in
    firsts_more (λ (k : ℕ). temperature_at a.p.now (a.from + k)) _ l.temperature-items l.i _ l.invariant c.loop-i-test.true (e ∙ c.from.ensures ∙ b ∙ c.signed8.ensures)
