-- `checks::crc_first` meets its contract: a byte is taken after a byte 0 that changes nothing.
-- Assumes nothing.
use mathlib.Core.Path.{◌∙◌}
use native.Mathlib.Omega.{arith}
use Rattle.checks.proofs.Pairs.{odd_first, even_first}
use Rattle.checks.proofs.crc_first.Goals as goal

pub returns-in-Some : goal.returns-in-Some
returns-in-Some c = (c.crc_pair.ensures.0 ∙ odd_first c.args.odd.now _ c.in-Some.ensures.value, c.crc_pair.ensures.1)

pub returns-in-None : goal.returns-in-None
returns-in-None c = (even_first c.args.odd.now c.in-None.ensures.value, omega arith)
