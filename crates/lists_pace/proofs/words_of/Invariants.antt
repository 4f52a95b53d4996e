-- `lists_pace::words_of` meets its contract. The loop's invariant: the numbers passed stand in front of what was there.
-- Assumes nothing.
use Prim.Native.Nat.{◌+◌, ◌*◌}
use mathlib.Core.Path.{◌≡◌}
use mathlib.Core.List.{◌++◌}
use lib.ListN.{drop}
use Rattle.laws.specs.Firsts.{firsts}
use Rattle.characters_pace.specs.Characters.{bytes_in, word_at}
use Rattle.lists_pace.proofs.words_of.Given as goal

abbrev pub invariant-loop-i : goal.invariant-loop-i
invariant-loop-i l = l.row ≡ firsts (λ k. word_at (bytes_in l.s) (l.from + 2 * k)) l.i ++ drop l.i l.initial.row
