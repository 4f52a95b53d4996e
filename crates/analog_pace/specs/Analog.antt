-- The reply to 42, over its bytes d (01, PACE; 004, Get Analog Information): 00, address, c, c cell mV, t, t temperatures, current (signed, 10 mA),
-- total mV, remaining, 03, full, cycles, design.
-- Assumes nothing.
use Rattle.std.specs.Prelude.{true, List, ◌++◌, Result, Ok, Err, ℕ, ◌+◌, ◌*◌, eqb, ℤ, pos, ◌-ℤ◌, get_or, drop, replicate}
use Rattle.laws.specs.Choice.{pick}
use Rattle.laws.specs.Firsts.{firsts}
use Rattle.signs.specs.Signed.{signed_of}
use Rattle.refusals.specs.declared.Refusal.{Refusal}
use Rattle.refusals.specs.declared.Refusal.TheVariants as refusal
use Rattle.characters_pace.specs.Characters.{word_at, words_at}
use Rattle.counts_pace.specs.declared.Counts.{Counts}
use Rattle.counts_pace.specs.Counts.{counts_of}
use Rattle.analog_pace.specs.declared.Analog.{Analog}
use Rattle.analog_pace.specs.declared.Reading.{Reading}

-- a temperature is the count minus 2730 tenths of a degree
unfoldable pub tenths_of : ℕ → ℤ
tenths_of n = pos n -ℤ pos 2730

-- n temperatures from a place on
abbrev pub tenths_at : ℕ → ℕ → List ℕ → List ℤ
tenths_at at n d = firsts (λ i. tenths_of (word_at d (at + 2 * i))) n

-- the numbers behind the values of c cells and t temperatures
unfoldable pub numbers_of : ℕ → ℕ → List ℕ → Analog
numbers_of c t d =
    record {
      cells = c;
      temperatures = t;
      current_10ma = signed_of 15 (word_at d (2 * c + 2 * t + 4));
      total_mv = word_at d (2 * c + 2 * t + 4 + 2);
      remaining_10mah = word_at d (2 * c + 2 * t + 4 + 4);
      full_10mah = word_at d (2 * c + 2 * t + 4 + 7);
      cycles = word_at d (2 * c + 2 * t + 4 + 9);
      design_10mah = word_at d (2 * c + 2 * t + 4 + 11);
    }

-- c cells and t temperatures, with 03 where it stands
unfoldable pub with_counts : ℕ → ℕ → List ℕ → Result Reading Refusal
with_counts c t d =
    pick (eqb (get_or d (2 * c + 2 * t + 10) 0) 3)
    (Ok
    (record {
      numbers = numbers_of c t d;
      cells = words_at 3 c d ++ drop c (replicate 16 0);
      temperatures = tenths_at (2 * c + 4) t d ++ drop t (replicate 8 (pos 0));
    }))
    (Err refusal.Shape)

abbrev pub by_counts : Result Counts Refusal → List ℕ → Result Reading Refusal
by_counts (Ok n) d = with_counts n.cells n.temperatures d
by_counts (Err why) d = Err why

unfoldable pub reading_of : ℕ → List ℕ → Result Reading Refusal
reading_of address d = by_counts (counts_of true 13 address d) d
