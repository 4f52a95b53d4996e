-- `checks::crc16` meets its contract. The loop's invariant: the register, moved over the bytes of the pairs that are left, gives the checksum.
-- Assumes nothing.
use Prim.Native.Nat.{◌+◌, ◌*◌, ◌%◌, ◌<◌}
use mathlib.Core.Path.{◌≡◌}
use lib.ListN.{length, drop}
use Rattle.checks.specs.Crc.{crc_from, crc_of}
use Rattle.checks.proofs.crc16.Given as goal

abbrev pub invariant-loop-pair : goal.invariant-loop-pair
invariant-loop-pair l = (l.r < 65536) × (crc_from l.r (drop (length l.s % 2 + 2 * l.pair-index) l.s) ≡ crc_of l.s)
