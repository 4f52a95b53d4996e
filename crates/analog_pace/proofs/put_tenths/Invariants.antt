-- `analog_pace::put_tenths` meets its contract. The loop's invariant: the temperatures passed stand in front of what was there.
-- Assumes nothing.
use mathlib.Core.Path.{◌≡◌}
use mathlib.Core.List.{◌++◌}
use lib.ListN.{drop}
use Rattle.characters_pace.specs.Characters.{bytes_in}
use Rattle.analog_pace.specs.Analog.{tenths_at}
use Rattle.analog_pace.proofs.put_tenths.Given as goal

abbrev pub invariant-loop-i : goal.invariant-loop-i
invariant-loop-i l = l.row ≡ tenths_at l.at l.i (bytes_in l.info) ++ drop l.i l.initial.row
