-- What reading a Tongzhu frame finds (002, 4; 01, Tongzhu): the refusals in the order 1, 2, 4, 5, 6, or the frame.
-- Assumes nothing.
use Rattle.std.specs.Prelude.{ℕ, ◌-◌, ◌&&◌, List, length, get_or, take, ltb, eqb, Result, Ok, Err}
use Rattle.laws.specs.Choice.{pick}
use Rattle.refusals.specs.declared.Refusal.{Refusal}
use Rattle.refusals.specs.declared.Refusal.TheVariants as refusal
use Rattle.sums.specs.Sums.{total, closes}
use Rattle.frames_tongzhu.specs.declared.Frame.{Frame}

-- all bytes but the last
abbrev pub checked : List ℕ → List ℕ
checked s = take (length s - 1) s

-- the last byte, the check
abbrev pub check : List ℕ → ℕ
check s = get_or s (length s - 1) 0

-- a frame by its function, where its payload begins, how many bytes that has
abbrev pub framed : ℕ → ℕ → ℕ → Frame
framed function start len = record { function = function; start = start; len = len }

-- a whole frame: its function, where its payload begins, how many bytes that has
unfoldable pub frame_of : List ℕ → Result Frame Refusal
frame_of s =
    pick (ltb (length s) 6) (Err refusal.Short)
    (pick (eqb (get_or s 0 0) 0x7F)
    (pick (eqb (length s) (get_or s 3 0))
    (pick (closes 256 (total (checked s)) (check s))
    (pick (eqb (get_or s 1 0) 0x10 && eqb (get_or s 2 0) 0x02)
    (Ok (framed (get_or s 4 0) 5 (length s - 6)))
    (Err refusal.Address))
    (Err refusal.Checksum))
    (Err refusal.Length))
    (Err refusal.FirstMark))
