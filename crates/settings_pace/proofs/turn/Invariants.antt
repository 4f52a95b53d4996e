-- `settings_pace::turn` meets its contract. The loop's invariant: the words passed are turned, and the others are as they were.
-- Assumes nothing.
use Prim.Native.Nat.{ℕ}
use mathlib.Core.Path.{◌≡◌}
use mathlib.Core.List.{◌++◌, map}
use mathlib.Core.Bool.{Bool}
use lib.ListN.{take, drop}
use Rattle.settings_pace.specs.Reading.{amount_of, amount_in}
use Rattle.settings_pace.proofs.turn.Given as goal

-- what a word becomes
abbrev turns : Bool → ℕ → ℕ
turns negated w = amount_in (amount_of negated w)

abbrev pub invariant-loop-word : goal.invariant-loop-word
invariant-loop-word l = l.words ≡ map (turns l.negated) (take l.word-index l.initial.words) ++ drop l.word-index l.initial.words
