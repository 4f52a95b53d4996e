-- `faults_pace::all_hex` meets its contract. The loop's invariant: what is noted so far, with what is left, has the answer of the whole.
-- Assumes nothing.
use mathlib.Core.Path.{◌≡◌}
use mathlib.Core.Bool.{◌&&◌}
use lib.ListN.{drop}
use Rattle.characters_pace.specs.Characters.{all_hex}
use Rattle.faults_pace.proofs.all_hex.Given as goal

abbrev pub invariant-loop-c : goal.invariant-loop-c
invariant-loop-c l = l.hex && all_hex (drop l.c-index l.s) ≡ all_hex l.s
