-- `sums::sum256` meets its contract. The loop's invariant: the sum so far with what is left is the whole sum, modulo 256.
-- Assumes nothing.
use Rattle.std.proofs.Common.{◌≡◌, ◌+◌, ◌%◌, ◌<◌, ◌≤◌, length, drop}
use Rattle.sums.specs.Sums.{total}
use Rattle.sums.proofs.sum256.Given as goal

abbrev pub invariant-loop-byte : goal.invariant-loop-byte
invariant-loop-byte l = (l.byte-index ≤ length l.s) × (l.t < 256) × ((l.t + total (drop l.byte-index l.s)) % 256 ≡ total l.s % 256)
