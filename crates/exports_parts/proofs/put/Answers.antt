-- `exports_parts::put` meets its contract. The loop's invariant: the first i values stand from the place `at` on, all else as it was.
-- Assumes nothing.
use mathlib.Core.Path.{◌≡◌, sym, ap, ◌∙◌}
use mathlib.Core.List.{map}
use Prim.Native.Nat.{◌<◌}
use lib.IntN.{pos}
use lib.ListN.{length, length-map}
use Rattle.exports_parts.proofs.Placing.{one_more, all_stand, none_placed, they_fit, none_fits}
use Rattle.std.proofs.lemmas.List.{get_or-map}
use borrow.Author.Rules.{rules}
use mir.Syntax.{w32}
use mir.Val.{to_z, of_z}
use native.Mathlib.Omega.{arith}
use Rattle.exports_parts.proofs.put.Goals as goal

pub returns-then-row-at : goal.returns-then-row-at
returns-then-row-at g c =
    let a = c.args in
    record { answer = none_fits _ _ _ (omega arith); filled = none_placed _ a.at (map g.T.Held.held a.numbers.now) a.row.now (length-map a.numbers.now g.T.Held.held) (omega arith) }

pub returns-then-row-at-2 : goal.returns-then-row-at-2
returns-then-row-at-2 g c =
    let a = c.args in
    record { answer = none_fits _ _ _ (omega arith); filled = none_placed _ a.at (map g.T.Held.held a.numbers.now) a.row.now (length-map a.numbers.now g.T.Held.held) (omega arith) }

pub loop-i-preserved : goal.loop-i-preserved
loop-i-preserved g c =
    let l = c.loop-i in
    let a = c.args in
    let x = c.index-numbers-i in
    let v = c.hold.result in
    let kept : to_z w32 (of_z w32 v) ≡ v = search rules in
    let h : l.i < length a.numbers.now = omega arith in
    one_more _ a.at (map g.T.Held.held a.numbers.now) a.row.now (length-map a.numbers.now g.T.Held.held) l.row l.i _ (pos 0) l.invariant (omega arith)
    (kept ∙ c.hold.ensures ∙ ap g.T.Held.held x.is ∙ sym (get_or-map g.T.Held.held a.numbers.now l.i x.result (pos 0) h))

pub returns : goal.returns
returns g c =
    let l = c.loop-i in
    let a = c.args in
    record { answer = they_fit a.at (length a.numbers.now) (length a.row.now) l.invariant.3; filled = all_stand _ a.at (map g.T.Held.held a.numbers.now) a.row.now (length-map a.numbers.now g.T.Held.held) l.row l.i l.invariant (omega arith) }
