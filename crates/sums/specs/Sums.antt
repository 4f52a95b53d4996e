-- Sums: all bytes with the check close to 0 modulo 256 (01, Tongzhu; 002, 4, whose frames decide), character codes with CHKSUM modulo 65,536
-- (01, PACE); the 58-byte monitor has the low byte of the sum itself (01, The 58-byte monitor).
-- Assumes nothing.
use Rattle.std.specs.Prelude.{ℕ, ◌+◌, ◌-◌, ◌%◌, Bool, List, [], ◌∷◌, ◌==◌}

-- the sum of a list of numbers
unfoldable pub total : List ℕ → ℕ
total [] = 0
total (x ∷ s) = x + total s

-- the number below m that brings the sum t to 0 modulo m
abbrev pub closing : ℕ → ℕ → ℕ
closing m t = (m - t % m) % m

-- whether c brings the sum t to 0 modulo m
abbrev pub closes : ℕ → ℕ → ℕ → Bool
closes m t c = (t + c) % m == 0
