-- From 2000 to 2099 a year is a leap year exactly where 4 divides it: a test that antt computes over the 100 years.
-- Assumes nothing.
use mathlib.Core.Path.{◌≡◌, refl}
use mathlib.Core.Bool.{Bool, true, false, not}
use Prim.Native.Nat.{ℕ, ◌+◌, ◌%◌, ◌<◌}
use lib.Dec.{T, eqb}
use Rattle.laws.specs.Every.{every}
use Rattle.laws.proofs.Every.{each}
use Rattle.calendar.specs.Dates.{leap}

agree : Bool → Bool → Bool
agree true b = b
agree false b = not b

same : (a b : Bool) → T (agree a b) → a ≡ b
unfolding agree
same true true t = refl
same true false t = absurd t
same false true t = absurd t
same false false t = refl

by_four : ℕ → Bool
by_four year = agree (leap (2000 + year)) (eqb (year % 4) 0)

pub each_fourth : (year : ℕ) → year < 100 → leap (2000 + year) ≡ eqb (year % 4) 0
unfolding by_four agree every leap
each_fourth year h = same (leap (2000 + year)) (eqb (year % 4) 0) (each by_four 100 tt year h)
