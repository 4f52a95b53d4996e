-- What reading a Pathfinder frame finds (000, Serial message format; 01, Pathfinder): the refusals in the order 1, 2, 4, 3, 5, or the frame.
-- Assumes nothing.
use Rattle.std.specs.Prelude.{ℕ, ◌+◌, ◌-◌, List, [], ◌∷◌, length, get_or, take, drop, ltb, eqb, Result, Ok, Err}
use Rattle.laws.specs.Choice.{pick}
use Rattle.refusals.specs.declared.Refusal.{Refusal}
use Rattle.refusals.specs.declared.Refusal.TheVariants as refusal
use Rattle.checks.specs.Crc.{crc_of}
use Rattle.numbers.specs.declared.Order.TheVariants.{HighFirst}
use Rattle.numbers.specs.Bytes.{number_of}
use Rattle.frames_pathfinder.specs.declared.Frame.{Frame}

-- the length that the frame declares: opcode and data
abbrev pub declared : List ℕ → ℕ
declared s = get_or s 1 0

-- what the checksum covers: length, opcode and data
abbrev pub covered : List ℕ → List ℕ
covered s = take (declared s + 1) (drop 1 s)

-- the checksum that the frame gives, its high byte first
abbrev pub given : List ℕ → ℕ
given s = number_of HighFirst (get_or s (declared s + 2) 0 ∷ get_or s (declared s + 3) 0 ∷ [])

-- a whole frame: its opcode, where its data begin, how many bytes they are
abbrev pub whole_of : ℕ → ℕ → ℕ → Frame
whole_of op at n = record { opcode = op; start = at; len = n }

-- what the bytes are: a whole frame, or why they are none
unfoldable pub frame_of : List ℕ → Result Frame Refusal
frame_of s =
    pick (ltb (length s) 6) (Err refusal.Short)
    (pick (eqb (get_or s 0 0) 0xFE)
    (pick (eqb (length s) (declared s + 5))
    (pick (eqb (get_or s (declared s + 4) 0) 0xFD)
    (pick (eqb (crc_of (covered s)) (given s))
    (Ok (whole_of (get_or s 2 0) 3 (declared s - 1)))
    (Err refusal.Checksum))
    (Err refusal.LastMark))
    (Err refusal.Length))
    (Err refusal.FirstMark))
