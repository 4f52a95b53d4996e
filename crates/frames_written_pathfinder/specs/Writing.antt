-- The bytes of a Pathfinder frame, and what the two halves of its writer make of lent room (000, Serial message format; 01, Pathfinder).
-- Assumes nothing.
use Rattle.std.specs.Prelude.{ℕ, ◌+◌, ◌/◌, ◌%◌, List, [], ◌∷◌, ◌++◌, length, take, drop, Result}
use Rattle.refusals.specs.declared.Refusal.{Refusal}
use Rattle.refusals.specs.Writing.{written_as, over_long}
use Rattle.checks.specs.Crc.{crc_of}

-- start mark, length and opcode of a frame with so many bytes of data
abbrev pub head_of : ℕ → ℕ → List ℕ
head_of op len = 0xFE ∷ (len + 1) ∷ op ∷ []

-- what the checksum covers: length, opcode and data
abbrev pub covered_of : ℕ → List ℕ → List ℕ
covered_of op load = (length load + 1) ∷ op ∷ load

-- checksum, the high byte first, and end mark
abbrev pub end_of : ℕ → List ℕ
end_of sum = sum / 256 ∷ sum % 256 ∷ 0xFD ∷ []

-- the frame with this opcode and these data
unfoldable pub frame_bytes : ℕ → List ℕ → List ℕ
frame_bytes op load = (0xFE ∷ covered_of op load) ++ end_of (crc_of (covered_of op load))

-- what either half answers for so many bytes of data: the length byte, which counts the opcode too, says 255 at most
abbrev pub half_as : ℕ → ℕ → Result ℕ Refusal
half_as len places = written_as (over_long 254 len) (len + 6) places

-- the room with a frame begun in it
abbrev pub begun : ℕ → ℕ → List ℕ → List ℕ
begun op len out = head_of op len ++ drop 3 out

-- the room with checksum and end mark after what stands before them
abbrev pub sealed : ℕ → List ℕ → List ℕ
sealed len out = take (len + 3) out ++ (end_of (crc_of (take (len + 2) (drop 1 out))) ++ drop (len + 6) out)
