-- `types_pathfinder::setting` meets its contract: each row that an arm names by computing; past all arms there is none.
-- Assumes nothing.
use Rattle.std.proofs.Common.{arith, refl, None}
use Rattle.types_pathfinder.specs.Types.{settings, listed_at}
use Rattle.laws.proofs.Tables.{along}
use Rattle.types_pathfinder.proofs.setting.Goals as goal

pub returns-in_default : goal.returns-in_default
unfolding settings
returns-in_default c = along (listed_at settings) None 50 206 c.args.row refl (omega arith) (omega arith)
