-- `analog_pace::numbers_of` meets its contract: each number is what `word_of` gives of its place.
-- Assumes nothing.
use mathlib.Core.Path.{◌≡◌, ap, ◌∙◌}
use mir.Syntax.{w16}
use mir.Val.{to_z, of_z}
use Rattle.signs.specs.Signed.{signed_of}
use Rattle.analog_pace.specs.Analog.{numbers_of}
use borrow.Author.Rules.{rules}
use Rattle.analog_pace.proofs.numbers_of.Goals as goal

pub returns : goal.returns
unfolding numbers_of
returns c =
    let held : to_z w16 (of_z w16 c.signed16.result) ≡ c.signed16.result = search rules in
    let current = held ∙ c.signed16.ensures ∙ ap (signed_of 15) c.word_of.ensures in
    rw (current, c.word_of-2.ensures, c.word_of-3.ensures, c.word_of-4.ensures, c.word_of-5.ensures, c.word_of-6.ensures)
