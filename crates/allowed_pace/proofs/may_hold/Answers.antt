-- `allowed_pace::may_hold` meets its contract: the two tests are the definition's.
-- Assumes nothing.
use mathlib.Core.Path.{sym}
use Rattle.characters_pace.proofs.Tests.{all_is}
use Rattle.allowed_pace.specs.Allowed.{in_steps, allowed}
use Rattle.allowed_pace.proofs.may_hold.Goals as goal

pub returns-then-all_within : goal.returns-then-all_within
unfolding allowed
returns-then-all_within c =
    let layout = c.layout_of-layout.result in
    let is = all_is (in_steps layout.low layout.high layout.step) c.args.amounts.now _ c.all_within.ensures.0 c.all_within.ensures.1 in
    rw (sym c.layout_of-layout.ensures, sym is, c.if-all_within.true) c.is_within.ensures

pub returns-else-all_within : goal.returns-else-all_within
unfolding allowed
returns-else-all_within c =
    let layout = c.layout_of-layout.result in
    let is = all_is (in_steps layout.low layout.high layout.step) c.args.amounts.now _ c.all_within.ensures.0 c.all_within.ensures.1 in
    rw (sym c.layout_of-layout.ensures, sym is, c.if-all_within.false)
