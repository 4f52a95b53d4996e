-- Tongzhu requests for a language that shares no struct: a time by its six numbers. Assumes nothing.
use Rattle.std.specs.Prelude.{ℕ}
use Rattle.times_tongzhu.specs.declared.Time.{Time}

abbrev pub time_of : ℕ → ℕ → ℕ → ℕ → ℕ → ℕ → Time
time_of a b c d e f = record { year = a; month = b; day = c; hour = d; minute = e; second = f }
