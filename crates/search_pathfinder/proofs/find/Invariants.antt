-- `search_pathfinder::find` meets its contract. The outer loop: no place passed has a frame. The inner one: the sum so far, and at the
-- span's end that it differs. The label is left with nothing where too few bytes are left, and where the sum agrees with place and length.
-- Assumes nothing.
use mathlib.Core.Path.{◌≡◌}
use mathlib.Core.Bool.{false}
use Prim.Native.Nat.{◌+◌, ◌-◌, ◌≤◌}
use lib.ListN.{length, take, drop}
use Rattle.checks.specs.Crc.{crc_of, crc_from}
use Rattle.search_pathfinder.specs.Places.{agrees, scan, search_of}
use Rattle.search_pathfinder.proofs.find.Given as goal

abbrev pub invariant-loop-k : goal.invariant-loop-k
invariant-loop-k l = (l.k ≤ l.n) × (crc_from l.sum (drop l.k (take l.n (drop (l.i + 1) l.s))) ≡ crc_of (take l.n (drop (l.i + 1) l.s))) × (l.k ≡ l.n → (l.n ≡ 0 → ⊥) → agrees l.s l.i l.n ≡ false)

abbrev pub decreases-loop-k : goal.decreases-loop-k
decreases-loop-k l = l.n - l.k

abbrev pub invariant-places : goal.invariant-places
invariant-places l = (l.i + 6 ≤ 18446744073709551615) × (search_of l.s ≡ scan (length l.s - l.i) l.i l.s)

abbrev pub decreases-places : goal.decreases-places
decreases-places l = length l.s - l.i
