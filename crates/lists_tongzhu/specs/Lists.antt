-- The lists of a monitor 3 in a row of numbers, behind its numbers (flat_tongzhu, places 0 to 11).
-- Assumes nothing.
use Rattle.std.specs.Prelude.{List, [], ◌∷◌, map, ℕ, ltb, ℤ, pos, length}
use Rattle.laws.specs.Choice.{pick}
use Rattle.monitor3_tongzhu.specs.declared.Lists.{Lists}
use Rattle.exports_answers.specs.Told.{behind}

-- cells from place 12 on, balance from 44, sensors from 48, MOSFET sensors from 64, to 79
abbrev pub list_parts : Lists → List (List ℤ)
list_parts l = map pos l.cells ∷ map pos l.balance ∷ l.sensors ∷ l.mosfets ∷ []

abbrev pub list_sizes : List ℕ
list_sizes = 32 ∷ 4 ∷ 16 ∷ 16 ∷ []

-- a row in which the lists have been placed
abbrev pub placed_lists : Lists → List ℤ → List ℤ
placed_lists l row = behind 12 (list_parts l) list_sizes row

-- the same; where the row has fewer than 80 places, all as it was
unfoldable pub listed : Lists → List ℤ → List ℤ
listed l row = pick (ltb (length row) 80) row (placed_lists l row)
