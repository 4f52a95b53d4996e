-- `characters_pace::byte_of` meets its contract: byte i has the characters 2 i and 2 i + 1, and past half the length there is none.
-- Assumes nothing.
use mathlib.Core.Path.{sym, ◌∙◌}
use Rattle.characters_pace.proofs.Carried.{bytes_at_lem, bytes_past}
use borrow.Author.Rules.{rules}
use Rattle.characters_pace.proofs.byte_of.Goals as goal

pub returns-then-i-s : goal.returns-then-i-s
returns-then-i-s c = let a = c.args in c.pair_of.ensures ∙ sym (bytes_at_lem a.s.now a.i (search rules))

pub returns-else-i-s : goal.returns-else-i-s
returns-else-i-s c = let a = c.args in sym (bytes_past a.s.now a.i (search rules))
