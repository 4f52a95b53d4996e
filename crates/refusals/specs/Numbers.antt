-- The list of refusals with their numbers (01, Refusal numbers).
-- Assumes nothing.
use Rattle.std.specs.Prelude.{ℕ, List, ◌++◌, codes}
use Rattle.std.specs.Fmt.{decimal}
use Rattle.refusals.specs.declared.Refusal.{Refusal}
use Rattle.refusals.specs.declared.Refusal.TheVariants.{Short, FirstMark, LastMark, Length, Checksum, Address, Request, Shape, Range, Register, Room, WantedPair, Character, Turn, PresentPair}

-- the number of each
abbrev pub number_of : Refusal → ℕ
number_of Short = 1
number_of FirstMark = 2
number_of LastMark = 3
number_of Length = 4
number_of Checksum = 5
number_of Address = 6
number_of Request = 7
number_of Shape = 8
number_of Range = 9
number_of Register = 10
number_of Room = 11
number_of WantedPair = 12
number_of Character = 13
number_of Turn = 14
number_of PresentPair = 15

-- what a refusal prints: `refused` and its number
abbrev pub text_of : Refusal → List ℕ
text_of why = codes "refused " ++ decimal (number_of why)
