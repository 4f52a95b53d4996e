-- Which rows of reply 03 are counts (02, request 1): "all alarm counts", 32 to 44, "and the reset count", 45. "The time rows", 47 and 48, are not.
-- Assumes nothing.
use mathlib.Core.Path.{◌≡◌, refl, sym}
use Prim.Native.Nat.{ℕ, ◌≤◌}
use native.Mathlib.Omega.{arith}
use Rattle.std.specs.Prelude.{Ok}
use Rattle.types_pathfinder.specs.declared.RowType.TheVariants.{U16, Count}
use Rattle.types_pathfinder.specs.Types.{infos, type_at}
use Rattle.laws.proofs.Tables.{along}

pub counts : (row : ℕ) → 32 ≤ row → row ≤ 45 → type_at 0x03 row ≡ Ok Count
unfolding type_at infos
counts row a b = sym (along (type_at 0x03) (Ok Count) 32 14 row refl a (omega arith))

pub times : (row : ℕ) → 47 ≤ row → row ≤ 48 → type_at 0x03 row ≡ Ok U16
unfolding type_at infos
times row a b = sym (along (type_at 0x03) (Ok U16) 47 2 row refl a (omega arith))
