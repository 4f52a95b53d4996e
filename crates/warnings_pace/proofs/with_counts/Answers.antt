-- `warnings_pace::with_counts` meets its contract: the lists stand in the fronts of their arrays, the twelve bytes behind them.
-- Assumes nothing.
use native.Mathlib.Omega.{arith}
use Rattle.characters_pace.specs.Characters.{bytes_in}
use Rattle.warnings_pace.proofs.Cases.{read}
use Rattle.warnings_pace.proofs.with_counts.Goals as goal

pub status_of-requires : goal.status_of-requires
status_of-requires c = (omega arith, omega arith)

pub returns : goal.returns
returns c =
    let a = c.args in
    read a.cells a.temperatures (bytes_in a.info.now) (omega arith) (omega arith) c.status_of.result _ _ c.status_of.ensures c.bytes_of.ensures c.bytes_of-2.ensures
