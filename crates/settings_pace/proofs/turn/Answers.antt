-- `settings_pace::turn` meets its contract. The loop's invariant: the words passed are turned, and the others are as they were.
-- Assumes nothing.
use lib.Seq.{take_all}
use lib.ListN.{drop_of_length-le}
use mathlib.Core.List.{append-nil}
use Rattle.laws.proofs.Filling.{changed_more}
use Prim.Native.Nat.{ℕ}
use mathlib.Core.Path.{refl, ◌∙◌}
use mathlib.Core.List.{map}
use mathlib.Core.Bool.{Bool}
use native.Mathlib.Omega.{arith}
use Rattle.settings_pace.specs.Reading.{amount_of, amount_in}
use Rattle.settings_pace.proofs.turn.Goals as goal

-- what a word becomes
abbrev turns : Bool → ℕ → ℕ
turns negated w = amount_in (amount_of negated w)

pub loop-word-init : goal.loop-word-init
loop-word-init c = refl

pub loop-word-preserved : goal.loop-word-preserved
loop-word-preserved c =
    let a = c.args in
    let l = c.loop-word in
    changed_more (turns a.negated) a.words.now l.words l.word-index _ 0 l.invariant (omega arith) c.turned.ensures

pub returns : goal.returns
returns c =
    let a = c.args in
    let l = c.loop-word in
    let done = take_all l.word-index a.words.now (omega arith) in
    let none = drop_of_length-le a.words.now {i = l.word-index} (omega arith) in
    l.invariant ∙ rw (done, none) (append-nil (map (turns a.negated) a.words.now))
