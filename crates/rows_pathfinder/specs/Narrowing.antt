-- A word narrowed to its row's type (01, Pathfinder): by its low bits, in two's complement for signed types. In reply 03 the largest value of a
-- type, and the smallest of a signed type, mean "no data"; bitfields, bools and counts (02, request 1) are never missing. Assumes nothing.
use Rattle.std.specs.Prelude.{ℕ, ◌-◌, ◌%◌, ◌^◌, Bool, ◌&&◌, ◌||◌, not, eqb, ℤ, pos, Option, Some, None, Result, Ok, Err}
use Rattle.laws.specs.Choice.{pick}
use Rattle.refusals.specs.declared.Refusal.{Refusal}
use Rattle.signs.specs.Signed.{signed_of, bits_of}
use Rattle.types_pathfinder.specs.declared.RowType.{RowType}
use Rattle.types_pathfinder.specs.declared.RowType.TheVariants.{U8, I8, U16, I16, U32, I32, Bool as Boolean, TenMillivolts as Ten, Bits, Count}
use Rattle.types_pathfinder.specs.Types.{type_at}
use Rattle.rows_pathfinder.specs.declared.Row.{Row}
use Rattle.rows_pathfinder.specs.declared.Row.TheVariants.{Number, TenMillivolts, Truth}

abbrev pub number_row : Bool → ℤ → Option Row
number_row missing v = pick missing None (Some (Number v))

abbrev pub ten_row : Bool → ℕ → Option Row
ten_row missing n = pick missing None (Some (TenMillivolts (record { 0 = signed_of 15 n })))

-- n is the largest value of k bits
abbrev pub largest : ℕ → ℕ → Bool
largest k n = eqb n (2 ^ k - 1)

-- n is, as bits, the largest or the smallest value of a sign and k bits
abbrev pub extreme : ℕ → ℕ → Bool
extreme k n = eqb n (2 ^ k - 1) || eqb n (2 ^ k)

-- n is the word's 32 bits; `may` is whether extreme values mean no data
unfoldable pub by_bits : RowType → Bool → ℕ → Option Row
by_bits U8 may n = number_row (may && largest 8 (n % 256)) (pos (n % 256))
by_bits I8 may n = number_row (may && extreme 7 (n % 256)) (signed_of 7 (n % 256))
by_bits U16 may n = number_row (may && largest 16 (n % 65536)) (pos (n % 65536))
by_bits I16 may n = number_row (may && extreme 15 (n % 65536)) (signed_of 15 (n % 65536))
by_bits U32 may n = number_row (may && largest 32 n) (pos n)
by_bits I32 may n = number_row (may && extreme 31 n) (signed_of 31 n)
by_bits Boolean may n = Some (Truth (not (eqb n 0)))
by_bits Ten may n = ten_row (may && extreme 15 (n % 65536)) (n % 65536)
by_bits Bits may n = Some (Number (pos n))
by_bits Count may n = Some (Number (pos (n % 65536)))

abbrev pub narrowed : Result RowType Refusal → Bool → ℕ → Result (Option Row) Refusal
narrowed (Ok kind) may n = Ok (by_bits kind may n)
narrowed (Err why) may n = Err why

-- row and word of a reply: "reply not 01 to 04: 7, then no such row: 8"; none where the word means "no data"
unfoldable pub row_of : ℕ → ℕ → ℤ → Result (Option Row) Refusal
row_of reply row w = narrowed (type_at reply row) (eqb reply 0x03) (bits_of 32 w)
