-- `first_at` meets its contract. A pair by its own call, a setting by itself asked twice.
-- Assumes nothing.
use mathlib.Core.Path.{sym, ◌∙◌}
use Rattle.restore_rules.proofs.Walk.{members_below, first_of_one}
use Rattle.restore_rules.proofs.first_at.Goals as goal

pub first_in-requires : goal.first_in-requires
first_in-requires c = members_below c.args.n _ c.requires (sym c.in-Some.ensures)

pub returns-in-Some : goal.returns-in-Some
returns-in-Some c = rw (← c.in-Some.ensures) c.first_in.ensures

pub returns-in-None : goal.returns-in-None
returns-in-None c =
    let a = c.args in
    rw (← c.in-None.ensures) (c.first_of.ensures ∙ first_of_one a.present.now a.wanted.now a.n)
