-- What reading 58 bytes finds: the refusals in the order 1, 4, 5, 9, or the record (01, Refusal numbers; 001, byte 58 and the sign bytes).
-- Places are the document's byte numbers, counted from 1.
-- Assumes nothing.
use Rattle.std.specs.Prelude.{Bool, ◌&&◌, ◌||◌, List, ℕ, ◌%◌, ltb, leb, eqb, length, take, Result, Ok, Err}
use Rattle.laws.specs.Choice.{pick}
use Rattle.sums.specs.Sums.{total}
use Rattle.refusals.specs.declared.Refusal.{Refusal}
use Rattle.refusals.specs.declared.Refusal.TheVariants as refusal
use Rattle.old58.specs.declared.Record.{Record}
use Rattle.parts_old58.specs.Parts.{byte_at}
use Rattle.old58.specs.Record.{record_of}

-- +, - and X
unfoldable pub sign_known : ℕ → Bool
sign_known b = eqb b 0x2B || (eqb b 0x2D || eqb b 0x58)

-- the three signs are known, the hour is at most 23 and the minute at most 59
unfoldable pub ranged : List ℕ → Bool
ranged s =
    sign_known (byte_at s 4)
    && (sign_known (byte_at s 7) && (sign_known (byte_at s 10) && (leb (byte_at s 48) 23 && leb (byte_at s 49) 59)))

-- byte 58 is the low byte of the sum of the 57 before
abbrev pub checked : List ℕ → Bool
checked s = eqb (total (take 57 s) % 256) (byte_at s 58)

unfoldable pub judged_of : List ℕ → Result Unit Refusal
judged_of s =
    pick (ltb (length s) 58) (Err refusal.Short)
    (pick (ltb 58 (length s)) (Err refusal.Length)
    (pick (checked s)
    (pick (ranged s) (Ok tt) (Err refusal.Range))
    (Err refusal.Checksum)))

abbrev pub read_as : List ℕ → Result Unit Refusal → Result Record Refusal
read_as s (Ok sound) = Ok (record_of s)
read_as s (Err why) = Err why

unfoldable pub reading_of : List ℕ → Result Record Refusal
reading_of s = read_as s (judged_of s)
