-- Bytes and the characters that carry them, two hex digits a byte, the high one first (01, PACE).
-- Assumes nothing.
use Rattle.std.specs.Prelude.{Bool, true, ◌&&◌, List, [], ◌∷◌, Option, unwrap_or, Result, Ok, Err, ℕ, ◌+◌, ◌*◌, ◌/◌, ◌%◌, eqb, length, get_or}
use Rattle.std.specs.Option.{is_some}
use Rattle.laws.specs.Choice.{pick}
use Rattle.laws.specs.Firsts.{firsts}
use Rattle.refusals.specs.declared.Refusal.{Refusal}
use Rattle.refusals.specs.declared.Refusal.TheVariants as refusal
use Rattle.digits.specs.Hexes.{digit_of, byte_of, char_of}
use Rattle.numbers.specs.declared.Order.TheVariants.{HighFirst}
use Rattle.numbers.specs.Bytes.{number_of}

-- what a reading holds; 0 where there is none (no character of a whole frame is read so, and none of INFO)
abbrev pub value_in : Option ℕ → ℕ
value_in d = unwrap_or d 0

-- a test that holds of each
unfoldable pub all_of : (ℕ → Bool) → List ℕ → Bool
all_of p [] = true
all_of p (x ∷ s) = p x && all_of p s

-- every character is one of 0-9 and A-F
abbrev pub all_hex : List ℕ → Bool
all_hex s = all_of (λ c. is_some (digit_of c)) s

-- the bytes of characters taken two by two; one left over is no byte
unfoldable pub bytes_in : List ℕ → List ℕ
bytes_in [] = []
bytes_in (h ∷ []) = []
bytes_in (h ∷ l ∷ s) = value_in (byte_of h l) ∷ bytes_in s

-- why characters are no bytes, if they are none: one other than 0-9 or A-F is 13; "An odd INFO count is 8" (01, Refusal numbers: 13 before 8)
unfoldable pub fault_of : List ℕ → Result Unit Refusal
fault_of s = pick (all_hex s) (pick (eqb (length s % 2) 0) (Ok tt) (Err refusal.Shape)) (Err refusal.Character)

-- what was found, where there is no fault
abbrev pub faultless : {A : Type 0} → Result Unit Refusal → Result A Refusal → Result A Refusal
faultless (Ok sound) found = found
faultless (Err why) found = Err why

-- what a reader of bytes says of INFO, which is given as characters: why they are no bytes, before anything else
unfoldable pub checked_info : {A : Type 0} → (List ℕ → Result A Refusal) → List ℕ → Result A Refusal
checked_info of_bytes s = faultless (fault_of s) (of_bytes (bytes_in s))

-- each number as its high and its low half
unfoldable pub halves : (ℕ → ℕ) → (ℕ → ℕ) → List ℕ → List ℕ
halves high low [] = []
halves high low (x ∷ s) = high x ∷ low x ∷ halves high low s

-- the characters of bytes
abbrev pub hexed : List ℕ → List ℕ
hexed s = halves (λ b. char_of (b / 16)) (λ b. char_of (b % 16)) s

-- the number of the two bytes from place i on
abbrev pub word_at : List ℕ → ℕ → ℕ
word_at d i = number_of HighFirst (get_or d i 0 ∷ get_or d (i + 1) 0 ∷ [])

-- k bytes from a place on
abbrev pub bytes_at : ℕ → ℕ → List ℕ → List ℕ
bytes_at at k d = firsts (λ i. get_or d (at + i) 0) k

-- k numbers of two bytes from a place on
abbrev pub words_at : ℕ → ℕ → List ℕ → List ℕ
words_at at k d = firsts (λ i. word_at d (at + 2 * i)) k
