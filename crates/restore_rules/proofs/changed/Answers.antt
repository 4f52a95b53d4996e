-- `changed` meets its contract. The code's test goes by the numbers' bits (`same_bits`).
-- Assumes nothing.
use mathlib.Core.Path.{ap}
use mathlib.Core.Bool.{not}
use Rattle.restore_order.specs.Slots.{at}
use Rattle.restore_rules.proofs.Numbers.{same_bits}
use Rattle.restore_rules.proofs.changed.Goals as goal

pub returns : goal.returns
returns c =
    let a = c.args in
    ap not (same_bits (at a.present.now a.n) (at a.wanted.now a.n) c.result-1.given c.result-2-1.given)
