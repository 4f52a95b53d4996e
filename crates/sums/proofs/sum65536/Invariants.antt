-- `sums::sum65536` meets its contract. The loop's invariant: the sum so far with what is left is the whole sum, modulo 65,536.
-- Assumes nothing.
use Rattle.std.proofs.Common.{◌≡◌, ◌+◌, ◌%◌, ◌<◌, ◌≤◌, length, drop}
use Rattle.sums.specs.Sums.{total}
use Rattle.sums.proofs.sum65536.Given as goal

abbrev pub invariant-loop-byte : goal.invariant-loop-byte
invariant-loop-byte l = (l.byte-index ≤ length l.s) × (l.t < 4294967296) × ((l.t + total (drop l.byte-index l.s)) % 65536 ≡ total l.s % 65536)
