-- `count_left` meets its contract. The loop's invariant: the count is that of the settings below n; each turn adds one or nothing (`one_more`).
-- Assumes nothing.
use mathlib.Core.Path.{◌≡◌, sym, ap, ◌∙◌}
use mathlib.Core.Bool.{true, false}
use Prim.Native.Nat.{ℕ}
use native.Mathlib.Omega.{arith}
use Rattle.restore_order.specs.Slots.{differs, how_many}
use Rattle.restore_order.proofs.Counts.{at_most}
use Rattle.restore_rules.proofs.Loops.{none_counted, one_more}
use Rattle.restore_rules.proofs.count_left.Goals as goal
use Rattle.restore_rules.proofs.count_left.Goals.{then-changed, else-changed}

pub loop-n-init : goal.loop-n-init
loop-n-init c = (omega arith, sym (none_counted _))

pub overflow_add-count : goal.overflow_add-count
overflow_add-count c =
    omega (arith, at_most c.loop-n.n (differs c.args.present.now c.args.wanted.now), c.loop-n.invariant)

pub loop-n-preserved : goal.loop-n-preserved
loop-n-preserved c =
    let f = differs c.args.present.now c.args.wanted.now in
    elim c.if-changed.branch [
      | then-changed w ↦ (omega arith, omega (arith, one_more f c.loop-n.n true (sym c.changed.ensures ∙ w.if-changed.true), w.count-is))
      | else-changed w ↦ (omega arith, omega (arith, one_more f c.loop-n.n false (sym c.changed.ensures ∙ w.if-changed.false), w.count-is))
    ]

pub overflow_cast-result : goal.overflow_cast-result
overflow_cast-result c =
    record { fits = omega (arith, at_most c.loop-n.n (differs c.args.present.now c.args.wanted.now), c.loop-n.invariant) }

pub returns : goal.returns
returns c =
    let e : c.loop-n.n ≡ 50 = omega arith in
    c.loop-n.invariant.1 ∙ ap (λ (n : ℕ). how_many n (differs c.args.present.now c.args.wanted.now)) e
