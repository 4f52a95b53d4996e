-- `is_written` meets its contract. The settings of the slots are 0 to 46.
-- Assumes nothing.
use mathlib.Core.Path.{sym}
use Rattle.restore_order.proofs.Demand3.{settings_0_to_46}
use Rattle.restore_opening.proofs.is_written.Goals as goal

pub returns : goal.returns
returns c = sym (settings_0_to_46 c.args.n)
