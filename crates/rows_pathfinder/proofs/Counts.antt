-- What request 1 of document 02 asks for: in reply 03 "all alarm counts and the reset count have no "no data" value"; "the time rows keep theirs", as
-- does every other row that had one. Assumes nothing.
use mathlib.Core.Path.{◌≡◌, refl}
use mathlib.Core.Bool.{Bool, true, false, ◌&&◌, ◌||◌, not}
use mathlib.Core.List.{map}
use Prim.Native.Nat.{ℕ, ◌%◌, ◌≤◌}
use lib.Dec.{leb}
use lib.IntN.{ℤ, pos, negsuc}
use Rattle.std.specs.Prelude.{Option, Some, None, Result, Ok, Err}
use Rattle.refusals.specs.declared.Refusal.{Refusal}
use Rattle.signs.specs.Signed.{bits_of}
use Rattle.types_pathfinder.specs.Types.{type_at, infos}
use Rattle.types_pathfinder.proofs.Counts.{counts, times}
use Rattle.laws.proofs.Tables.{from}
use Rattle.rows_pathfinder.specs.declared.Row.{Row}
use Rattle.rows_pathfinder.specs.declared.Row.TheVariants.{Number}
use Rattle.rows_pathfinder.specs.Narrowing.{by_bits, row_of}

-- whatever the word is
pub never_missing : (row : ℕ) (w : ℤ) → 32 ≤ row → row ≤ 45 → row_of 0x03 row w ≡ Ok (Some (Number (pos (bits_of 32 w % 65536))))
unfolding row_of by_bits
never_missing row w a b = rw (counts row a b)

pub still_missing : (row : ℕ) (w : ℤ) → 47 ≤ row → row ≤ 48 → bits_of 32 w % 65536 ≡ 65535 → row_of 0x03 row w ≡ Ok None
unfolding row_of by_bits
still_missing row w a b e = rw (times row a b, e)

abbrev pub is_missing : Result (Option Row) Refusal → Bool
is_missing (Ok (Some row)) = false
is_missing (Ok None) = true
is_missing (Err why) = false

-- missing where the word holds the largest value of an unsigned type, or of a signed one
abbrev pub can_miss : ℕ → Bool
can_miss row = is_missing (row_of 0x03 row (negsuc 0)) || is_missing (row_of 0x03 row (pos 32767)) || is_missing (row_of 0x03 row (pos 2147483647))

-- each of the 53 rows but the error bitfields and the counts
pub others : map can_miss (from 0 53) ≡ map (λ (row : ℕ). not (leb 6 row && leb row 7 || leb 32 row && leb row 45)) (from 0 53)
unfolding row_of by_bits type_at infos
others = refl
