-- A word read back from its bytes (`word_back`), and bytes from their word (`bytes_back`).
-- Assumes nothing.
use mathlib.Core.Path.{◌≡◌, ap, ◌∙◌}
use mathlib.Core.List.{[], ◌∷◌}
use Prim.Native.Nat.{ℕ, ◌<◌, ◌^◌}
use native.Mathlib.Omega.{arith}
use lib.IntN.{ℤ, pos, negsuc}
use lib.Signed.{mag}
use Rattle.numbers.specs.declared.Order.TheVariants.{LowFirst}
use Rattle.numbers.specs.Bytes.{number_of, bytes_of}
use Rattle.numbers.proofs.Orders.{Bytes, written_reads_back, read_writes_back}
use Rattle.signs.specs.Signed.{signed_of, bits_of}
use Rattle.signs.proofs.Signs.{bits_read_back, signed_written_back}
use Rattle.words_pathfinder.specs.Words.{word_of, bytes_of_word}

bits_lt : (v : ℤ) → mag v < 2 ^ 31 → bits_of 32 v < 256 ^ 4
bits_lt (pos n) h = omega arith
bits_lt (negsuc n) h = omega arith

-- the four bytes of a number of 32 bits are that number
pub word_back : (v : ℤ) → mag v < 2 ^ 31 → signed_of 31 (number_of LowFirst (bytes_of_word v)) ≡ v
word_back v h = ap (signed_of 31) (written_reads_back LowFirst 4 (bits_of 32 v) (bits_lt v h)) ∙ bits_read_back 31 v h

-- and the number of four bytes has these bytes
pub bytes_back : (a b c d : ℕ) → a < 256 → b < 256 → c < 256 → d < 256 → bytes_of_word (word_of a b c d) ≡ a ∷ b ∷ c ∷ d ∷ []
unfolding Bytes
bytes_back a b c d ha hb hc hd =
    ap (bytes_of LowFirst 4) (signed_written_back 31 (number_of LowFirst (a ∷ b ∷ c ∷ d ∷ [])) (omega arith))
    ∙ read_writes_back LowFirst (a ∷ b ∷ c ∷ d ∷ []) (ha, (hb, (hc, (hd, tt))))
