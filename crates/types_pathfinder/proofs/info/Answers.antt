-- `types_pathfinder::info` meets its contract: the rows that lead into an arm have its type in the definition's list.
-- Assumes nothing.
use Rattle.std.proofs.Common.{ℕ, arith, refl, List, [], ◌∷◌, Some, None}
use Rattle.types_pathfinder.specs.declared.RowType.TheVariants.{U16, U32, I32, Count}
use Rattle.types_pathfinder.specs.Types.{infos, listed_at}
use Rattle.laws.proofs.Tables.{along, between}
use Rattle.types_pathfinder.proofs.info.Goals as goal

-- what the arms name one by one
abbrev keys : List (List ℕ)
keys = (0 ∷ 52 ∷ []) ∷ (1 ∷ 16 ∷ []) ∷ (5 ∷ 25 ∷ []) ∷ (49 ∷ []) ∷ (45 ∷ []) ∷ (46 ∷ []) ∷ []

pub returns-in-32-to-44 : goal.returns-in-32-to-44
unfolding infos
returns-in-32-to-44 c = along (listed_at infos) (Some Count) 32 13 c.args.row refl (omega arith) (omega arith)

pub returns-in-47 : goal.returns-in-47
unfolding infos
returns-in-47 c = along (listed_at infos) (Some U16) 47 2 c.args.row refl (omega arith) (omega arith)

pub returns-in-2-to-4-2 : goal.returns-in-2-to-4-2
unfolding infos
returns-in-2-to-4-2 c = along (listed_at infos) (Some U32) 50 2 c.args.row refl (omega arith) (omega arith)

pub returns-in_default : goal.returns-in_default
unfolding infos
returns-in_default c = along (listed_at infos) None 53 203 c.args.row refl (grind arith) (omega arith)

pub returns-in-1-3 : goal.returns-in-1-3
unfolding infos
returns-in-1-3 c = between (listed_at infos) (Some I32) keys 21 11 c.args.row refl c.in-1.in_default-own.rest (omega arith) (omega arith)
