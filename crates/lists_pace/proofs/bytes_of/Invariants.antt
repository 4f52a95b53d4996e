-- `lists_pace::bytes_of` meets its contract. The loop's invariant: the bytes passed stand in front of what was there.
-- Assumes nothing.
use Prim.Native.Nat.{◌+◌}
use mathlib.Core.Path.{◌≡◌}
use mathlib.Core.List.{◌++◌}
use lib.ListN.{get_or, drop}
use Rattle.laws.specs.Firsts.{firsts}
use Rattle.characters_pace.specs.Characters.{bytes_in}
use Rattle.lists_pace.proofs.bytes_of.Given as goal

abbrev pub invariant-loop-i : goal.invariant-loop-i
invariant-loop-i l = l.row ≡ firsts (λ k. get_or (bytes_in l.s) (l.from + k) 0) l.i ++ drop l.i l.initial.row
