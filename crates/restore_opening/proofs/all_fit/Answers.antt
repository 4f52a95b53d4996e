-- `all_fit` meets its contract. The loop's invariant: every value so far fits. A value that does not fit decides the answer (`every_stops`).
-- Assumes nothing.
use mathlib.Core.Path.{◌≡◌, sym, ap, ◌∙◌}
use mathlib.Core.Bool.{true, false}
use Prim.Native.Nat.{ℕ}
use native.Mathlib.Omega.{arith}
use Rattle.restore_order.specs.Slots.{at}
use Rattle.laws.specs.Every.{every}
use Rattle.restore_opening.specs.Verdicts.{fits}
use Rattle.restore_rules.proofs.Numbers.{from_bits}
use Rattle.laws.proofs.Every.{every_none, every_more, every_stops}
use Rattle.restore_opening.proofs.all_fit.Goals as goal

pub loop-n-init : goal.loop-n-init
loop-n-init c = (omega arith, every_none _)

pub returns-then-not-is_fit : goal.returns-then-not-is_fit
returns-then-not-is_fit c =
    let a = c.args in
    let n = c.loop-n.n in
    let e : fits a.wanted n (at a.values.now n) ≡ false =
    ap (fits a.wanted n) (sym (from_bits (at a.values.now n) c.is_fit-arg-1.given))
    ∙ sym c.is_fit.ensures ∙ c.if-not-is_fit.true in
    sym (every_stops (λ m. fits a.wanted m (at a.values.now m)) 50 n c.loop-n-test.true e)

pub loop-n-preserved : goal.loop-n-preserved
loop-n-preserved c =
    let a = c.args in
    let n = c.loop-n.n in
    let e : fits a.wanted n (at a.values.now n) ≡ true =
    ap (fits a.wanted n) (sym (from_bits (at a.values.now n) c.is_fit-arg-1.given))
    ∙ sym c.is_fit.ensures ∙ c.if-not-is_fit.false in
    (omega arith, every_more (λ m. fits a.wanted m (at a.values.now m)) n c.loop-n.invariant.1 e)

pub returns : goal.returns
returns c =
    let a = c.args in
    let e : c.loop-n.n ≡ 50 = omega arith in
    sym (ap (λ (n : ℕ). every n (λ m. fits a.wanted m (at a.values.now m))) (sym e) ∙ c.loop-n.invariant.1)
