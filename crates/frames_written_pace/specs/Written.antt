-- The characters of a PACE frame that is written, and what its writer answers (01, PACE; 01, Refusal numbers: 8, 11).
-- Assumes nothing.
use Rattle.std.specs.Prelude.{List, [], ◌∷◌, ◌++◌, Result, ℕ, ◌+◌, ◌*◌, length, take, drop}
use Rattle.sums.specs.Sums.{total, closing}
use Rattle.lengths_pace.specs.Lengths.{length_word}
use Rattle.numbers.specs.declared.Order.TheVariants.{HighFirst}
use Rattle.numbers.specs.Bytes.{bytes_of}
use Rattle.refusals.specs.declared.Refusal.{Refusal}
use Rattle.refusals.specs.Writing.{written_as, over_long}
use Rattle.characters_pace.specs.Characters.{hexed}

-- version, address, CID1, command and the LENGTH of n characters
abbrev pub head_bytes : ℕ → ℕ → ℕ → List ℕ
head_bytes address command n = 0x25 ∷ address ∷ 0x46 ∷ command ∷ bytes_of HighFirst 2 (length_word n)

-- the characters that CHKSUM covers
abbrev pub body_chars : ℕ → ℕ → List ℕ → List ℕ
body_chars address command info = hexed (head_bytes address command (2 * length info)) ++ hexed info

-- CHKSUM and the last mark
abbrev pub end_of : ℕ → List ℕ
end_of sum = hexed (bytes_of HighFirst 2 sum) ++ 0x0D ∷ []

-- those of the characters before them
abbrev pub end_chars : List ℕ → List ℕ
end_chars body = end_of (closing 65536 (total body))

-- the frame with this address, command and payload
unfoldable pub frame_chars : ℕ → ℕ → List ℕ → List ℕ
frame_chars address command info = 0x7E ∷ (body_chars address command info ++ end_chars (body_chars address command info))

-- what its writer answers for a payload of so many bytes: LENGTH, which counts two characters a byte, says 4,095 at most
abbrev pub framed_as : ℕ → ℕ → Result ℕ Refusal
framed_as len places = written_as (over_long 2047 len) (2 * len + 18) places

-- a frame of n characters of INFO that stands at the front, closed
abbrev pub sealed : ℕ → List ℕ → List ℕ
sealed n out = take (n + 13) out ++ (end_chars (take (n + 12) (drop 1 out)) ++ drop (n + 18) out)
