-- BCD: two decimal digits in a byte, the tens in its high half (002, 6.9.3 and 6.11.2).
-- Assumes nothing.
use Rattle.std.specs.Prelude.{◌&&◌, ℕ, ◌+◌, ◌*◌, ◌/◌, ◌%◌, ltb, Option, Some, None}
use Rattle.laws.specs.Choice.{pick}

-- the number of a byte whose two halves are decimal digits
unfoldable pub bcd_of : ℕ → Option ℕ
bcd_of b = pick (ltb (b / 16) 10 && ltb (b % 16) 10) (Some (b / 16 * 10 + b % 16)) None

-- the byte of a number of two digits
unfoldable pub bcd_byte : ℕ → Option ℕ
bcd_byte n = pick (ltb n 100) (Some (n / 10 * 16 + n % 10)) None
