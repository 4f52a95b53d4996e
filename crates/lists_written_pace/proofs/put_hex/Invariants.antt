-- `lists_written_pace::put_hex` meets its contract. The loop's invariant: the characters of the bytes passed stand in front of what was there.
-- Assumes nothing.
use Prim.Native.Nat.{◌*◌}
use mathlib.Core.Path.{◌≡◌}
use mathlib.Core.List.{◌++◌}
use lib.ListN.{take, drop}
use Rattle.characters_pace.specs.Characters.{hexed}
use Rattle.lists_written_pace.proofs.put_hex.Given as goal

abbrev pub invariant-loop-i : goal.invariant-loop-i
invariant-loop-i l = l.out ≡ hexed (take l.i l.bytes) ++ drop (2 * l.i) l.initial.out
