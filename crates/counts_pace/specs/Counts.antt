-- The shape that the replies 42 and 44 share (01, PACE; 004, Get Analog Information, Get Status): the bytes d.
-- Assumes nothing.
use Rattle.std.specs.Prelude.{Bool, true, false, ◌&&◌, List, Result, Ok, Err, ℕ, ◌+◌, ◌*◌, leb, eqb, length, get_or}
use Rattle.laws.specs.Choice.{pick}
use Rattle.refusals.specs.declared.Refusal.{Refusal}
use Rattle.refusals.specs.declared.Refusal.TheVariants as refusal
use Rattle.counts_pace.specs.declared.Counts.{Counts}

-- how many bytes n values take
abbrev pub space_of : Bool → ℕ → ℕ
space_of true n = 2 * n
space_of false n = n

-- the number of cells, and that of temperatures behind the cells' values
abbrev pub cells_in : List ℕ → ℕ
cells_in d = get_or d 2 0

abbrev pub temperatures_in : Bool → List ℕ → ℕ
temperatures_in wide d = get_or d (space_of wide (cells_in d) + 3) 0

-- 00, the address asked, 1 to 16 cells, 0 to 8 temperatures, and the length that these require
unfoldable pub shaped : Bool → ℕ → ℕ → List ℕ → Bool
shaped wide rest address d =
    eqb (get_or d 0 0) 0
    && eqb (get_or d 1 0) address
    && leb 1 (cells_in d)
    && leb (cells_in d) 16
    && leb (temperatures_in wide d) 8
    && eqb (length d) (space_of wide (cells_in d) + space_of wide (temperatures_in wide d) + 4 + rest)

unfoldable pub counts_of : Bool → ℕ → ℕ → List ℕ → Result Counts Refusal
counts_of wide rest address d = pick (shaped wide rest address d) (Ok (record { cells = cells_in d; temperatures = temperatures_in wide d })) (Err refusal.Shape)
