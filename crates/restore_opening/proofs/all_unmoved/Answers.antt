-- `all_unmoved` meets its contract. The loop's invariant: every setting so far is unmoved. One that is not decides the answer (`every_stops`).
-- Assumes nothing.
use mathlib.Core.Path.{◌≡◌, sym, ap, ap₂, ◌∙◌}
use mathlib.Core.Bool.{true, false}
use Prim.Native.Nat.{ℕ}
use native.Mathlib.Omega.{arith}
use Rattle.restore_order.specs.Slots.{at}
use Rattle.laws.specs.Every.{every}
use Rattle.restore_opening.specs.Verdicts.{unmoved}
use Rattle.restore_rules.proofs.Numbers.{from_bits}
use Rattle.laws.proofs.Every.{every_none, every_more, every_stops}
use Rattle.restore_opening.proofs.all_unmoved.Goals as goal

pub loop-n-init : goal.loop-n-init
loop-n-init c = (omega arith, every_none _)

pub returns-then-not-is_unmoved : goal.returns-then-not-is_unmoved
returns-then-not-is_unmoved c =
    let a = c.args in
    let n = c.loop-n.n in
    let e : unmoved n (at a.wanted.now n) (at a.present.now n) ≡ false =
    ap₂ (unmoved n) (sym (from_bits (at a.wanted.now n) c.is_unmoved-arg-1.given)) (sym (from_bits (at a.present.now n) c.is_unmoved-arg-in-loop-n-1.given))
    ∙ sym c.is_unmoved.ensures ∙ c.if-not-is_unmoved.true in
    sym (every_stops (λ m. unmoved m (at a.wanted.now m) (at a.present.now m)) 50 n c.loop-n-test.true e)

pub loop-n-preserved : goal.loop-n-preserved
loop-n-preserved c =
    let a = c.args in
    let n = c.loop-n.n in
    let e : unmoved n (at a.wanted.now n) (at a.present.now n) ≡ true =
    ap₂ (unmoved n) (sym (from_bits (at a.wanted.now n) c.is_unmoved-arg-1.given)) (sym (from_bits (at a.present.now n) c.is_unmoved-arg-in-loop-n-1.given))
    ∙ sym c.is_unmoved.ensures ∙ c.if-not-is_unmoved.false in
    (omega arith, every_more (λ m. unmoved m (at a.wanted.now m) (at a.present.now m)) n c.loop-n.invariant.1 e)

pub returns : goal.returns
returns c =
    let a = c.args in
    let e : c.loop-n.n ≡ 50 = omega arith in
    sym (ap (λ (n : ℕ). every n (λ m. unmoved m (at a.wanted.now m) (at a.present.now m))) (sym e) ∙ c.loop-n.invariant.1)
