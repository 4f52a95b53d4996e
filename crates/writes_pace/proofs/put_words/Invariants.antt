-- `writes_pace::put_words` meets its contract. The loop's invariant: the bytes of the numbers passed stand in front of what was there.
-- Assumes nothing.
use Prim.Native.Nat.{◌*◌}
use mathlib.Core.Path.{◌≡◌}
use mathlib.Core.List.{◌++◌}
use lib.ListN.{take, drop}
use Rattle.writes_pace.specs.Info.{pairs_of}
use Rattle.writes_pace.proofs.put_words.Given as goal

abbrev pub invariant-loop-i : goal.invariant-loop-i
invariant-loop-i l = l.out ≡ pairs_of (take l.i l.words) ++ drop (2 * l.i) l.initial.out
