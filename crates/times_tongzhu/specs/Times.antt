-- The time that function 30 sets (002, 6.9.3 and 6.11; 01, Tongzhu): six BCD bytes, and the plain numbers that they stand for.
-- Assumes nothing.
use Rattle.std.specs.Prelude.{ℕ, Bool, ◌&&◌, List, [], ◌∷◌, get_or, Option, Some, None}
use Rattle.bcd.specs.Decimal.{bcd_of, bcd_byte}
use Rattle.calendar.specs.Dates.{real_date, real_time}
use Rattle.times_tongzhu.specs.declared.Time.{Time}

-- the number of a BCD byte, or the byte of a number of two digits; 255, which no real date or time has, where there is none
abbrev pub plain_of : Option ℕ → ℕ
plain_of (Some n) = n
plain_of None = 255

-- a year 0 to 99 from 2000, a real date in it, a time to 23:59:59
abbrev pub real : Time → Bool
real t = real_date t.year t.month t.day && real_time t.hour t.minute t.second

-- year, month, day, hour, minute and second of six bytes
abbrev pub time_in : List ℕ → Time
time_in p = record {
  year = plain_of (bcd_of (get_or p 0 0));
  month = plain_of (bcd_of (get_or p 1 0));
  day = plain_of (bcd_of (get_or p 2 0));
  hour = plain_of (bcd_of (get_or p 3 0));
  minute = plain_of (bcd_of (get_or p 4 0));
  second = plain_of (bcd_of (get_or p 5 0));
}

-- the six bytes
abbrev pub time_bytes : Time → List ℕ
time_bytes t =
    plain_of (bcd_byte t.year) ∷ plain_of (bcd_byte t.month) ∷ plain_of (bcd_byte t.day)
    ∷ plain_of (bcd_byte t.hour) ∷ plain_of (bcd_byte t.minute) ∷ plain_of (bcd_byte t.second) ∷ []
