-- The smallest place from which a frame lies wholly in the input, with its total length; or none (01, Pathfinder, Frame search).
-- A frame is what the frame reader takes for one: its text is not said again here. Assumes nothing.
use Rattle.std.specs.Prelude.{ℕ, zero, suc, ◌+◌, List, [], ◌∷◌, Bool, length, get_or, take, drop, leb, eqb, is_ok, Option, Some, None}
use Rattle.laws.specs.Choice.{pick}
use Rattle.checks.specs.Crc.{crc_of}
use Rattle.numbers.specs.declared.Order.TheVariants.{HighFirst}
use Rattle.numbers.specs.Bytes.{number_of}
use Rattle.frames_pathfinder.specs.Reading.{frame_of}
use Rattle.search_pathfinder.specs.declared.Found.{Found}

-- the length of a frame at place i, if there is one: five bytes more than its length byte says
abbrev pub size_at : List ℕ → ℕ → ℕ
size_at s i = get_or s (i + 1) 0 + 5

-- the bytes of that frame, or fewer at the input's end
abbrev pub part_at : List ℕ → ℕ → List ℕ
part_at s i = take (size_at s i) (drop i s)

-- whether they are a frame
unfoldable pub frame_at : List ℕ → ℕ → Bool
frame_at s i = is_ok (frame_of (part_at s i))

abbrev pub found_at : ℕ → ℕ → Found
found_at at n = record { place = at; len = n }

-- from place i on, at k places
unfoldable pub scan : ℕ → ℕ → List ℕ → Option Found
scan zero i s = None
scan (suc k) i s = pick (frame_at s i) (Some (found_at i (size_at s i))) (scan k (suc i) s)

unfoldable pub search_of : List ℕ → Option Found
search_of s = scan (length s) 0 s

-- ---- what the code looks at, shown to be the same in proofs/Frames.antt

-- at a place: how many bytes the checksum covers, by marks and length; 0 where they are wrong
unfoldable pub span_of : List ℕ → ℕ → ℕ
span_of s i =
    pick (leb (i + 6) (length s))
    (pick (eqb (get_or s i 0) 0xFE)
    (pick (eqb (get_or s (i + 1) 0) 0)
    0
    (pick (leb (i + get_or s (i + 1) 0 + 5) (length s))
    (pick (eqb (get_or s (i + get_or s (i + 1) 0 + 4) 0) 0xFD) (get_or s (i + 1) 0 + 1) 0)
    0))
    0)
    0

-- and whether the checksum over so many bytes is the one given
unfoldable pub agrees : List ℕ → ℕ → ℕ → Bool
agrees s i n = eqb (crc_of (take n (drop (i + 1) s))) (number_of HighFirst (get_or s (i + 1 + n) 0 ∷ get_or s (i + 2 + n) 0 ∷ []))
