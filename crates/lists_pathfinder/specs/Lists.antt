-- Words one after the other, four bytes for each (000, Serial message format): read into a row, and put at the front of some room.
-- Assumes nothing.
use Rattle.std.specs.Prelude.{ℕ, ◌+◌, ◌*◌, List, [], ◌∷◌, ◌++◌, eqb, ltb, ℤ, length, get_or, take, drop, Result, Ok, Err}
use Rattle.laws.specs.Choice.{pick}
use Rattle.laws.specs.Firsts.{firsts}
use Rattle.refusals.specs.declared.Refusal.{Refusal}
use Rattle.refusals.specs.declared.Refusal.TheVariants as refusal
use Rattle.words_pathfinder.specs.Words.{word_of, bytes_of_word}

-- ---- read

-- word i of some bytes
abbrev pub word_at : List ℕ → ℕ → ℤ
word_at s i = word_of (get_or s (4 * i) 0) (get_or s (4 * i + 1) 0) (get_or s (4 * i + 2) 0) (get_or s (4 * i + 3) 0)

-- the first n words of some bytes
abbrev pub words : ℕ → List ℕ → List ℤ
words n s = firsts (word_at s) n

-- bytes that are to fill a row: 8 where they are not four for each place
abbrev pub read_fault : List ℕ → List ℤ → Result Unit Refusal
read_fault s row = pick (eqb (length s) (4 * length row)) (Ok tt) (Err refusal.Shape)

-- the row afterwards
abbrev pub row_read : List ℕ → List ℤ → List ℤ
row_read s row = pick (eqb (length s) (4 * length row)) (words (length row) s) row

-- ---- written

-- the bytes of the words, in their order
unfoldable pub bytes_of_words : List ℤ → List ℕ
bytes_of_words [] = []
bytes_of_words (v ∷ vs) = bytes_of_word v ++ bytes_of_words vs

-- words that are to be put at the front of some room: 11 where it is too small
abbrev pub put_fault : List ℤ → List ℕ → Result Unit Refusal
put_fault row out = pick (ltb (length out) (4 * length row)) (Err refusal.Room) (Ok tt)

-- the room afterwards: bytes past those of the words keep their contents
abbrev pub bytes_put : List ℤ → List ℕ → List ℕ
bytes_put row out = pick (ltb (length out) (4 * length row)) out (bytes_of_words row ++ drop (4 * length row) out)

-- one word in the place of four bytes
abbrev pub one_at : ℤ → ℕ → List ℕ → List ℕ
one_at v at out = take at out ++ (bytes_of_word v ++ drop (at + 4) out)
