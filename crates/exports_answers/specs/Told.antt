-- What an answer is to a language that shares no enum: a kind, and the values that go with it. One number says it: the kind above 2 ^ 32 and a
-- number below, which is how many values there are where they are lent out; a refusal is its own number, of kind 0
-- (docs/DECISIONS.md, C and Rust). Assumes nothing.
use Rattle.std.specs.Prelude.{ℕ, ◌+◌, ◌*◌, ◌%◌, List, [], ◌∷◌, ◌++◌, ltb, ℤ, length, drop}
use Rattle.laws.specs.Choice.{pick}
use Rattle.refusals.specs.declared.Refusal.{Refusal}
use Rattle.refusals.specs.declared.Refusal.TheVariants as refusal
use Rattle.refusals.specs.Numbers.{number_of}
use Rattle.exports_parts.specs.Parts.{placed}

pub data Told : Type 0 where
  -- these numbers, in a row
  numbers : ℕ → List ℤ → Told
  -- this text, in bytes
  letters : ℕ → List ℕ → Told
  -- one number, or none (0)
  plain : ℕ → ℕ → Told
  refused : Refusal → Told

-- ---- the number

abbrev pub coded_as : ℕ → ℕ → ℕ
coded_as kind n = kind * 4294967296 + n % 4294967296

-- n values where there are so many places: 11 where they are too few
abbrev pub room_code : ℕ → ℕ → ℕ → ℕ
room_code kind n places = pick (ltb places n) (number_of refusal.Room) (coded_as kind n)

-- with so many places in the row and so many for text
abbrev pub code_of : Told → ℕ → ℕ → ℕ
code_of (numbers kind zs) places bytes = room_code kind (length zs) places
code_of (letters kind t) places bytes = room_code kind (length t) bytes
code_of (plain kind n) places bytes = coded_as kind n
code_of (refused why) places bytes = number_of why

-- ---- what is lent

-- the values in front of what was there past them; where there is no room, all as it was
unfoldable pub over : {A : Type 0} → List A → List A → List A
over values row = pick (ltb (length row) (length values)) row (values ++ drop (length values) row)

abbrev pub row_after : Told → List ℤ → List ℤ
row_after (numbers kind zs) row = over zs row
row_after (letters kind t) row = row
row_after (plain kind n) row = row
row_after (refused r) row = row

abbrev pub text_after : Told → List ℕ → List ℕ
text_after (numbers kind zs) text = text
text_after (letters kind t) text = over t text
text_after (plain kind n) text = text
text_after (refused r) text = text

-- ---- parts of a row

-- parts one behind the other from the place `at` on, of these sizes
abbrev pub behind : ℕ → List (List ℤ) → List ℕ → List ℤ → List ℤ
behind at [] sizes row = row
behind at (p ∷ ps) [] row = row
behind at (p ∷ ps) (n ∷ sizes) row = behind (at + n) ps sizes (placed at p row)

-- the same parts as one list
unfoldable pub joined : List (List ℤ) → List ℤ
joined [] = []
joined (p ∷ ps) = p ++ joined ps
