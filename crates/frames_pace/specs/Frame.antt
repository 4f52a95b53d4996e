-- What reading a PACE frame finds: the refusals in the order 1, 2, 3, 13, 4, 5, 6, or the frame (01, PACE; 01, Refusal numbers).
-- A frame: ~, version, address, CID1, command, LENGTH (4 characters), INFO, CHKSUM (4 characters), carriage return.
-- Assumes nothing.
use Rattle.std.specs.Prelude.{Bool, false, ◌&&◌, List, Option, Some, None, Result, Ok, Err, ℕ, ◌-◌, ltb, eqb, length, get_or, take, drop}
use Rattle.laws.specs.Choice.{pick}
use Rattle.sums.specs.Sums.{total, closes}
use Rattle.lengths_pace.specs.Lengths.{count_of}
use Rattle.refusals.specs.declared.Refusal.{Refusal}
use Rattle.refusals.specs.declared.Refusal.TheVariants as refusal
use Rattle.frames_pace.specs.declared.Frame.{Frame}
use Rattle.characters_pace.specs.Characters.{all_hex, bytes_in, word_at}

-- what stands between the marks
abbrev pub inner_of : List ℕ → List ℕ
inner_of s = take (length s - 2) (drop 1 s)

-- version, address, CID1, command and LENGTH, as bytes
abbrev pub head_of : List ℕ → List ℕ
head_of s = bytes_in (take 12 (drop 1 s))

-- the characters that CHKSUM covers: from version to end of INFO
abbrev pub covered_of : List ℕ → List ℕ
covered_of s = take (length s - 6) (drop 1 s)

abbrev pub check_of : List ℕ → ℕ
check_of s = word_at (bytes_in (take 4 (drop (length s - 5) s))) 0

-- INFO, as characters and as bytes
abbrev pub info_of : List ℕ → List ℕ
info_of s = take (length s - 18) (drop 13 s)

abbrev pub payload_of : List ℕ → List ℕ
payload_of s = bytes_in (info_of s)

-- the LENGTH word has this count
abbrev pub counts : Option ℕ → ℕ → Bool
counts (Some n) m = eqb n m
counts None m = false

-- INFO has as many characters as LENGTH says
abbrev pub counted : List ℕ → Bool
counted s = counts (count_of (word_at (head_of s) 4)) (length s - 18)

-- version 25 and CID1 46
abbrev pub known : List ℕ → Bool
known s = eqb (get_or (head_of s) 0 0) 0x25 && eqb (get_or (head_of s) 2 0) 0x46

-- a whole frame: its address, its command or return code, where INFO begins, how many characters it has
abbrev pub read_as : List ℕ → Frame
read_as s = record { address = get_or (head_of s) 1 0; command = get_or (head_of s) 3 0; start = 13; len = length s - 18 }

unfoldable pub frame_of : List ℕ → Result Frame Refusal
frame_of s =
    pick (ltb (length s) 18) (Err refusal.Short)
    (pick (eqb (get_or s 0 0) 0x7E)
    (pick (eqb (get_or s (length s - 1) 0) 0x0D)
    (pick (all_hex (inner_of s))
    (pick (counted s)
    (pick (closes 65536 (total (covered_of s)) (check_of s))
    (pick (known s)
    (Ok (read_as s))
    (Err refusal.Address))
    (Err refusal.Checksum))
    (Err refusal.Length))
    (Err refusal.Character))
    (Err refusal.LastMark))
    (Err refusal.FirstMark))
