-- `restore_bytes::can_stand` meets its contract: by the phase, and a waiting job by the first of its writes.
-- Assumes nothing.
use mathlib.Core.Path.{sym, ◌∙◌}
use Rattle.restore_bytes.proofs.Standing.{calm, nothing_to_come, first_to_come}
use Rattle.restore_bytes.proofs.can_stand.Goals as goal

pub returns-in_default : goal.returns-in_default
returns-in_default c = calm c.args.j c.in_default.not-Waiting

pub returns-in_default-first_write : goal.returns-in_default-first_write
returns-in_default-first_write c = nothing_to_come c.args.j _ c.in-Waiting.is (sym c.in_default-first_write.is ∙ c.first_write.ensures)

pub returns : goal.returns
returns c = first_to_come c.args.j _ c.in-Waiting.is _ (sym c.in-Some.is ∙ c.first_write.ensures)
