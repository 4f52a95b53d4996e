-- Real dates by the Gregorian rule, years 2000 to 2099 given as 0 to 99, and times to 23:59:59 (01, Tongzhu, function 30).
-- Assumes nothing.
use Rattle.std.specs.Prelude.{Bool, ◌&&◌, ◌||◌, not, List, [], ◌∷◌, ℕ, ◌+◌, ◌-◌, ◌%◌, ltb, leb, eqb, get_or}
use Rattle.laws.specs.Choice.{pick}

-- a leap year: divided by 4, and not by 100 unless by 400
unfoldable pub leap : ℕ → Bool
leap y = eqb (y % 4) 0 && (not (eqb (y % 100) 0) || eqb (y % 400) 0)

-- the days of the months, January first, in a year that is no leap year
unfoldable pub days : List ℕ
days = 31 ∷ 28 ∷ 31 ∷ 30 ∷ 31 ∷ 30 ∷ 31 ∷ 31 ∷ 30 ∷ 31 ∷ 30 ∷ 31 ∷ []

-- the days of a month 1 to 12: February has 29 in a leap year
unfoldable pub days_in : ℕ → ℕ → ℕ
days_in y m = pick (eqb m 2 && leap y) 29 (get_or days (m - 1) 0)

-- a day that there is
unfoldable pub real_date : ℕ → ℕ → ℕ → Bool
real_date year month day =
    ltb year 100 && (leb 1 month && (leb month 12 && (leb 1 day && leb day (days_in (2000 + year) month))))

-- a time that there is
unfoldable pub real_time : ℕ → ℕ → ℕ → Bool
real_time hour minute second = ltb hour 24 && (ltb minute 60 && ltb second 60)
