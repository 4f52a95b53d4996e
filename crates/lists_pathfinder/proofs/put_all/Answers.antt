-- `lists_pathfinder::put_all` meets its contract: a turn of the loop puts the bytes of one word more behind those that stand. Assumes nothing.
use Prim.Native.Nat.{◌*◌}
use mathlib.Core.Path.{◌≡◌, ap, ◌∙◌}
use native.Mathlib.Omega.{arith}
use lib.IntN.{pos}
use lib.ListN.{get_or}
use mir.Syntax.{w32}
use mir.Val.{to_z, of_z}
use borrow.Author.Rules.{rules}
use Rattle.lists_pathfinder.specs.Lists.{one_at}
use Rattle.lists_pathfinder.proofs.Bytes.{none_put, one_put}
use Rattle.lists_pathfinder.proofs.put_all.Goals as goal

pub loop-i-init : goal.loop-i-init
loop-i-init c = none_put c.args.row.now c.args.out.now

pub loop-i-preserved : goal.loop-i-preserved
loop-i-preserved c =
    let l = c.loop-i in
    let a = c.args in
    let v = get_or a.row.now l.i (pos 0) in
    let held : to_z w32 (of_z w32 v) ≡ v = search rules in
    c.put_at.ensures ∙ ap (λ x. one_at x (4 * l.i) l.out) held ∙ one_put a.row.now a.out.now l.out l.i l.invariant (omega arith)
