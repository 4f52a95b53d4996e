-- Tongzhu records as numbers, in the order of their places in a row.
-- Assumes nothing.
use Rattle.std.specs.Prelude.{List, [], ◌∷◌, ℤ, pos}
use Rattle.monitor3_tongzhu.specs.declared.Status.{Status}
use Rattle.monitor3_tongzhu.specs.declared.Monitor3.{Monitor3}
use Rattle.payloads_tongzhu.specs.declared.Monitor2.{Monitor2}

-- places 0 to 3: the status bytes
abbrev pub status_numbers : Status → List ℤ
status_numbers s = pos s.first ∷ pos s.second ∷ pos s.third ∷ pos s.fourth ∷ []

-- places 0 to 13
abbrev pub monitor2_numbers : Monitor2 → List ℤ
monitor2_numbers m =
    pos m.status.first ∷ pos m.status.second ∷ pos m.status.third ∷ pos m.status.fourth
    ∷ m.current ∷ pos m.highest ∷ pos m.lowest ∷ pos m.total ∷ m.hottest ∷ m.coldest
    ∷ pos m.cycles ∷ pos m.remaining ∷ pos m.capacity ∷ pos m.switch ∷ []

-- places 0 to 11, in front of the lists
abbrev pub monitor3_numbers : Monitor3 → List ℤ
monitor3_numbers m =
    pos m.status.first ∷ pos m.status.second ∷ pos m.status.third ∷ pos m.status.fourth
    ∷ m.current ∷ pos m.cells ∷ pos m.sensors ∷ pos m.mosfets
    ∷ pos m.cycles ∷ pos m.remaining ∷ pos m.capacity ∷ pos m.switch ∷ []
