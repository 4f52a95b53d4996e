-- Hex digits: characters 0-9 (48 to 57) and A-F (65 to 70), no lower case (01, PACE; 01, refusal 13).
-- Assumes nothing.
use Rattle.std.specs.Prelude.{List, [], ◌∷◌, Option, Some, None, ℕ, ◌+◌, ◌-◌, ◌*◌, ◌/◌, ◌%◌, ltb}
use Rattle.laws.specs.Choice.{pick}

-- the number of a character: below 48 none, to 57 a digit, to 64 none, to 70 a letter, then none
unfoldable pub digit_of : ℕ → Option ℕ
digit_of c =
    pick (ltb c 48) None (pick (ltb c 58) (Some (c - 48)) (pick (ltb c 65) None (pick (ltb c 71) (Some (c - 55)) None)))

-- the byte of a high and a low digit
abbrev pub joined : Option ℕ → Option ℕ → Option ℕ
joined (Some h) (Some l) = Some (h * 16 + l)
joined (Some h) None = None
joined None d = None

abbrev pub byte_of : ℕ → ℕ → Option ℕ
byte_of high low = joined (digit_of high) (digit_of low)

-- the character of a number below 16
abbrev pub char_of : ℕ → ℕ
char_of n = pick (ltb n 10) (n + 48) (n + 55)

-- the two characters of a byte, the high digit first
abbrev pub chars_of : ℕ → List ℕ
chars_of b = char_of (b / 16) ∷ char_of (b % 16) ∷ []
