-- A word on the wire: a signed 32-bit number in four bytes, the low one first (000, Serial message format).
-- Assumes nothing.
use Rattle.std.specs.Prelude.{ℕ, List, [], ◌∷◌, ℤ}
use Rattle.numbers.specs.declared.Order.TheVariants.{LowFirst}
use Rattle.numbers.specs.Bytes.{number_of, bytes_of}
use Rattle.signs.specs.Signed.{signed_of, bits_of}

-- the number of four bytes
abbrev pub word_of : ℕ → ℕ → ℕ → ℕ → ℤ
word_of a b c d = signed_of 31 (number_of LowFirst (a ∷ b ∷ c ∷ d ∷ []))

-- the four bytes of a number
abbrev pub bytes_of_word : ℤ → List ℕ
bytes_of_word v = bytes_of LowFirst 4 (bits_of 32 v)
