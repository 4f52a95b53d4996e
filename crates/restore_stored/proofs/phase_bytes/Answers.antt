-- `restore_stored::phase_bytes` meets its contract: by the three phases.
-- Assumes nothing.
use mathlib.Core.Path.{sym, ap}
use Rattle.restore_stored.specs.Stored.{phase_bytes}
use Rattle.restore_stored.proofs.phase_bytes.Goals as goal

pub returns-in-Ready : goal.returns-in-Ready
returns-in-Ready c = ap phase_bytes (sym c.in-Ready.is)

pub returns-in-Waiting : goal.returns-in-Waiting
returns-in-Waiting c = ap phase_bytes (sym c.in-Waiting.is)

pub returns-in-Stopped : goal.returns-in-Stopped
returns-in-Stopped c = ap phase_bytes (sym c.in-Stopped.is)
