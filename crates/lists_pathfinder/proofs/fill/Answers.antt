-- `lists_pathfinder::fill` meets its contract: a turn of the loop puts one word more behind those that stand. Assumes nothing.
use mathlib.Core.Path.{◌≡◌, refl, ◌∙◌}
use native.Mathlib.Omega.{arith}
use mir.Syntax.{w32}
use mir.Val.{to_z, of_z}
use borrow.Author.Rules.{rules}
use Rattle.laws.specs.Firsts.{firsts}
use Rattle.laws.proofs.Firsts.{firsts_more}
use Rattle.lists_pathfinder.specs.Lists.{word_at}
use Rattle.lists_pathfinder.proofs.fill.Goals as goal

pub loop-i-init : goal.loop-i-init
unfolding firsts
loop-i-init c = refl

pub loop-i-preserved : goal.loop-i-preserved
loop-i-preserved c =
    let l = c.loop-i in
    let a = c.args in
    let e : to_z w32 (of_z w32 c.word.result) ≡ c.word.result = search rules in
    firsts_more (word_at a.s.now) a.row.now l.row l.i _ l.invariant (omega arith) (e ∙ c.word.ensures)
