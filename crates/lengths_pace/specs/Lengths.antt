-- The PACE LENGTH word (01, PACE): its low 12 bits count the INFO characters, and its top digit makes the four digits' sum 0 modulo 16.
-- Assumes nothing.
use Rattle.std.specs.Prelude.{Option, Some, None, ℕ, ◌+◌, ◌*◌, ◌/◌, ◌%◌, ltb}
use Rattle.laws.specs.Choice.{pick}
use Rattle.sums.specs.Sums.{closing, closes}

-- the sum of the low three hex digits
abbrev pub low_digits : ℕ → ℕ
low_digits n = n / 256 % 16 + n / 16 % 16 + n % 16

-- the word of a count below 4,096: the digit that closes the sum, then the count
abbrev pub length_word : ℕ → ℕ
length_word n = closing 16 (low_digits n) * 4096 + n

-- a larger count has no word
unfoldable pub word_of : ℕ → Option ℕ
word_of n = pick (ltb n 4096) (Some (length_word n)) None

-- the count in a word whose top digit closes the sum
unfoldable pub count_of : ℕ → Option ℕ
count_of w = pick (closes 16 (low_digits w) (w / 4096 % 16)) (Some (w % 4096)) None
