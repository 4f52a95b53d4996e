-- The reply to 44, over its bytes d (01, PACE; 004, Get Status): 00, address, c, c warnings, t, t warnings, twelve bytes.
-- Assumes nothing.
use Rattle.std.specs.Prelude.{false, List, ◌++◌, Result, Ok, Err, ℕ, ◌+◌, get_or, drop, replicate}
use Rattle.refusals.specs.declared.Refusal.{Refusal}
use Rattle.characters_pace.specs.Characters.{bytes_at}
use Rattle.counts_pace.specs.declared.Counts.{Counts}
use Rattle.counts_pace.specs.Counts.{counts_of}
use Rattle.warnings_pace.specs.declared.Warnings.{Warnings}
use Rattle.warnings_pace.specs.declared.Reading.{Reading}

-- the twelve bytes, in the order of 004
unfoldable pub status_of : ℕ → ℕ → List ℕ → Warnings
status_of c t d =
    record {
      cells = c;
      temperatures = t;
      charge_current = get_or d (c + t + 4 + 0) 0;
      total_voltage = get_or d (c + t + 4 + 1) 0;
      discharge_current = get_or d (c + t + 4 + 2) 0;
      protection1 = get_or d (c + t + 4 + 3) 0;
      protection2 = get_or d (c + t + 4 + 4) 0;
      system = get_or d (c + t + 4 + 5) 0;
      configuration = get_or d (c + t + 4 + 6) 0;
      fault = get_or d (c + t + 4 + 7) 0;
      balance_high = get_or d (c + t + 4 + 8) 0;
      balance_low = get_or d (c + t + 4 + 9) 0;
      warning1 = get_or d (c + t + 4 + 10) 0;
      warning2 = get_or d (c + t + 4 + 11) 0;
    }

-- c cells and t temperatures
unfoldable pub with_counts : ℕ → ℕ → List ℕ → Reading
with_counts c t d =
    record {
      status = status_of c t d;
      cells = bytes_at 3 c d ++ drop c (replicate 16 0);
      temperatures = bytes_at (c + 4) t d ++ drop t (replicate 8 0);
    }

abbrev pub by_counts : Result Counts Refusal → List ℕ → Result Reading Refusal
by_counts (Ok n) d = Ok (with_counts n.cells n.temperatures d)
by_counts (Err why) d = Err why

unfoldable pub reading_of : ℕ → List ℕ → Result Reading Refusal
reading_of address d = by_counts (counts_of false 12 address d) d
