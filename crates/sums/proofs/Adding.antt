-- A loop that adds bytes up: what is left at i is the byte at i and what is left behind it; at the end nothing is left.
-- Assumes nothing.
use Rattle.std.proofs.Common.{◌≡◌, ℕ, ◌+◌, ◌<◌, ◌≤◌, List, length, get_or, drop, ap}
use Rattle.laws.proofs.Walk.{left_next, left_none}
use Rattle.sums.specs.Sums.{total}

pub total_next : (s : List ℕ) (i : ℕ) → i < length s → total (drop i s) ≡ get_or s i 0 + total (drop (i + 1) s)
unfolding total
total_next s i h = ap total (left_next s i h)

pub total_none : (s : List ℕ) (i : ℕ) → length s ≤ i → total (drop i s) ≡ 0
unfolding total
total_none s i h = ap total (left_none s i h)
