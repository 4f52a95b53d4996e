-- `first_of` meets its contract. Each way out computes, with the tests on the way.
-- Assumes nothing.
use mathlib.Core.Path.{sym, ◌∙◌}
use Rattle.restore_rules.proofs.first_of.Goals as goal

pub returns-then-changed : goal.returns-then-changed
returns-then-changed c = rw (sym c.changed.ensures ∙ c.if-changed.true)

pub returns-then-changed-2 : goal.returns-then-changed-2
returns-then-changed-2 c = rw (sym c.changed.ensures ∙ c.if-changed.false, sym c.changed-2.ensures ∙ c.if-changed-2.true)

pub returns : goal.returns
returns c = rw (sym c.changed.ensures ∙ c.if-changed.false, sym c.changed-2.ensures ∙ c.if-changed-2.false)
