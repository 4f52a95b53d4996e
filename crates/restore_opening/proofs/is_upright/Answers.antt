-- `is_upright` meets its contract. A pair's members are settings; a setting by itself stands right.
-- Assumes nothing.
use mathlib.Core.Path.{sym}
use Rattle.restore_rules.proofs.Walk.{members_below}
use Rattle.restore_opening.proofs.is_upright.Goals as goal

pub is_above-requires : goal.is_above-requires
is_above-requires c = let m = members_below c.args.n _ c.requires (sym c.in-Some.ensures) in (m.0, m.1)

pub returns-in-Some : goal.returns-in-Some
returns-in-Some c = rw (← c.in-Some.ensures) c.is_above.ensures

pub returns-in-None : goal.returns-in-None
returns-in-None c = rw (← c.in-None.ensures)
