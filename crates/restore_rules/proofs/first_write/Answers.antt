-- `first_write` meets its contract. The loop's invariant: no setting below n differs. The first that does has the first write at its place (`first_found`).
-- Assumes nothing.
use mathlib.Core.Path.{◌≡◌, sym, ◌∙◌}
use native.Mathlib.Omega.{arith}
use Rattle.restore_rules.proofs.Walk.{none_below, one_more_same, first_found, none_found}
use Rattle.restore_rules.proofs.first_write.Goals as goal

pub loop-n-init : goal.loop-n-init
loop-n-init c = (omega arith, none_below c.args.present.now c.args.wanted.now)

pub returns-then-changed : goal.returns-then-changed
returns-then-changed c =
    let a = c.args in
    c.first_at.ensures
    ∙ sym
    (first_found a.present.now a.wanted.now c.loop-n.n c.loop-n-test.true c.loop-n.invariant.1
    (sym c.changed.ensures ∙ c.if-changed.true))

pub loop-n-preserved : goal.loop-n-preserved
loop-n-preserved c =
    let a = c.args in
    (omega arith, one_more_same a.present.now a.wanted.now c.loop-n.n c.loop-n.invariant.1 (sym c.changed.ensures ∙ c.if-changed.false))

pub returns : goal.returns
returns c =
    let a = c.args in
    let e : c.loop-n.n ≡ 47 = omega arith in
    sym (none_found a.present.now a.wanted.now (rw e at c.loop-n.invariant.1))
