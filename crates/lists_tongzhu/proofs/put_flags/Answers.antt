-- `lists_tongzhu::put_flags` meets its contract. The loop's invariant: the first i places have their bytes.
-- Assumes nothing.
use Prim.Native.Nat.{ℕ, ◌+◌}
use mathlib.Core.Path.{◌≡◌, ◌∙◌}
use borrow.Author.Rules.{rules}
use mir.Syntax.{w32}
use mir.Val.{to_z, of_z}
use lib.IntN.{pos}
use lib.ListN.{get_or}
use Rattle.laws.proofs.Firsts.{firsts_more}
use Rattle.lists_tongzhu.proofs.put_flags.Goals as goal

pub loop-i-preserved : goal.loop-i-preserved
loop-i-preserved c =
    let l = c.loop-i in
    let a = c.args in
    let e : to_z w32 (of_z w32 c.from.result) ≡ c.from.result = search rules in
    firsts_more (λ (k : ℕ). pos (get_or a.p.now (a.from + k) 0)) _ l.flags-items l.i _ l.invariant c.loop-i-test.true (e ∙ c.from.ensures)
