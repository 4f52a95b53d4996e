-- `place_of` meets its contract. The setting that leads into an arm has that pair among the slots; past all arms there is none.
-- Assumes nothing.
use mathlib.Core.Path.{refl}
use mathlib.Core.List.{List, [], ◌∷◌}
use Prim.Native.Nat.{ℕ}
use native.Mathlib.Omega.{arith}
use Rattle.laws.proofs.Tables.{between}
use Rattle.restore_rules.specs.Places.{place_at}
use Rattle.restore_rules.proofs.place_of.Goals as goal

pub returns-in-3 : goal.returns-in-3
unfolding place_at
returns-in-3 c = rw c.in-3.is refl

pub returns-in-6 : goal.returns-in-6
unfolding place_at
returns-in-6 c = rw c.in-6.is refl

pub returns-in-9 : goal.returns-in-9
unfolding place_at
returns-in-9 c = rw c.in-9.is refl

pub returns-in-12 : goal.returns-in-12
unfolding place_at
returns-in-12 c = rw c.in-12.is refl

pub returns-in-28 : goal.returns-in-28
unfolding place_at
returns-in-28 c = rw c.in-28.is refl

-- what the arms name
abbrev keys : List (List ℕ)
keys = (3 ∷ []) ∷ (6 ∷ []) ∷ (9 ∷ []) ∷ (12 ∷ []) ∷ (28 ∷ []) ∷ []

pub returns-in_default : goal.returns-in_default
unfolding place_at
returns-in_default c = between place_at _ keys 0 256 _ refl c.in_default.in_default-own.rest (omega arith) (omega arith)
