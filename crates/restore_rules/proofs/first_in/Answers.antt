-- `first_in` meets its contract. The test of the upper member, its numbers read back from their bits (`from_bits`), settles the order (`first_of_pair`).
-- Assumes nothing.
use mathlib.Core.Path.{◌≡◌, sym, ap₂, ◌∙◌}
use mathlib.Core.Bool.{true, false}
use lib.Signed.{lt_z}
use Rattle.restore_order.specs.Slots.{at, upper_first}
use Rattle.restore_rules.proofs.Numbers.{from_bits}
use Rattle.restore_rules.proofs.Walk.{first_of_pair}
use Rattle.restore_rules.proofs.first_in.Goals as goal

pub returns-then-from-to : goal.returns-then-from-to
returns-then-from-to c =
    let a = c.args in
    let p = a.present.now in
    let w = a.wanted.now in
    let e : upper_first p w a.upper ≡ true =
    sym (ap₂ lt_z (from_bits (at p a.upper) c.from-1.given) (from_bits (at w a.upper) c.to-1.given)) ∙ c.if-from-to.true in
    c.first_of.ensures ∙ first_of_pair p w a.upper a.lower true e

pub returns-else-from-to : goal.returns-else-from-to
returns-else-from-to c =
    let a = c.args in
    let p = a.present.now in
    let w = a.wanted.now in
    let e : upper_first p w a.upper ≡ false =
    sym (ap₂ lt_z (from_bits (at p a.upper) c.from-1.given) (from_bits (at w a.upper) c.to-1.given)) ∙ c.if-from-to.false in
    c.first_of-else-from-to.ensures ∙ first_of_pair p w a.upper a.lower false e
