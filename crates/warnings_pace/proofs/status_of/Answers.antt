-- `warnings_pace::status_of` meets its contract: each byte is that of its place.
-- Assumes nothing.
use Rattle.laws.specs.Firsts.{firsts}
use Rattle.warnings_pace.specs.Warnings.{status_of}
use Rattle.warnings_pace.proofs.status_of.Goals as goal

pub returns : goal.returns
unfolding status_of firsts
returns c = rw c.bytes_of.ensures
