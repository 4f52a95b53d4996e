-- CRC-16/XMODEM (000, Checksum; 01, Pathfinder): polynomial 0x1021, start 0, no reflection, no final change. A bit at a time, with no table.
-- Assumes nothing.
use Rattle.std.specs.Prelude.{ℕ, zero, suc, ◌*◌, ◌/◌, ◌%◌, List, [], ◌∷◌}
use Rattle.std.specs.Int.Bits.{bit_xor}

-- the register moves up by one bit; where the top bit falls out, 0x1021 is added without carries
unfoldable pub shift : ℕ → ℕ
shift r = bit_xor (r * 2 % 65536) (r / 32768 % 2 * 0x1021)

-- n moves
unfoldable pub shifts : ℕ → ℕ → ℕ
shifts zero r = r
shifts (suc n) r = shifts n (shift r)

-- a byte is added to the register's high half, and the register moves up by eight bits
abbrev pub crc_step : ℕ → ℕ → ℕ
crc_step r b = shifts 8 (bit_xor r (b * 256))

-- the register after the bytes of a list, from the register r
unfoldable pub crc_from : ℕ → List ℕ → ℕ
crc_from r [] = r
crc_from r (b ∷ bs) = crc_from (crc_step r b) bs

-- the checksum: the register starts at 0, and what it holds at the end is the answer
unfoldable pub crc_of : List ℕ → ℕ
crc_of s = crc_from 0 s
