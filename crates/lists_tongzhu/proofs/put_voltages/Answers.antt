-- `lists_tongzhu::put_voltages` meets its contract. The loop's invariant: the first i places have their voltages.
-- Assumes nothing.
use Prim.Native.Nat.{ℕ, ◌+◌, ◌*◌}
use mathlib.Core.Path.{◌≡◌, ap, ◌∙◌}
use lib.IntN.{pos}
use borrow.Author.Rules.{rules}
use mir.Syntax.{w32}
use mir.Val.{to_z, of_z}
use Rattle.laws.proofs.Firsts.{firsts_more}
use Rattle.monitor3_tongzhu.specs.Values.{number_at}
use Rattle.lists_tongzhu.proofs.put_voltages.Goals as goal

pub loop-i-preserved : goal.loop-i-preserved
loop-i-preserved c =
    let l = c.loop-i in
    let a = c.args in
    let e : to_z w32 (of_z w32 c.from.result) ≡ c.from.result = search rules in
    firsts_more (λ (k : ℕ). pos (number_at a.p.now (a.from + 2 * k))) _ l.cell-items l.i _ l.invariant c.loop-i-test.true (e ∙ c.from.ensures ∙ ap pos c.number16.ensures)
