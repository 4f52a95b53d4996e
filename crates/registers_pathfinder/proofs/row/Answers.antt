-- `registers_pathfinder::row` meets its contract: each register that an arm names by computing; past all arms there is none.
-- Assumes nothing.
use Rattle.std.proofs.Common.{arith, refl, None}
use Rattle.registers_pathfinder.specs.Registers.{registers, register_at}
use Rattle.laws.proofs.Tables.{along}
use Rattle.registers_pathfinder.proofs.row.Goals as goal

pub returns-in_default : goal.returns-in_default
unfolding registers
returns-in_default c = along register_at None 52 204 c.args.register refl (omega arith) (omega arith)
