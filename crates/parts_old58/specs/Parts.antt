-- The parts of a record of the 58-byte monitor: the table of 001 row by row, at the widths of its byte positions (01, The 58-byte monitor).
-- Places are the document's byte numbers, counted from 1.
-- Assumes nothing.
use Rattle.std.specs.Prelude.{List, [], ◌∷◌, ℕ, ◌+◌, ◌-◌, ◌*◌, eqb, ℤ, pos, neg_ℤ, ◌-ℤ◌, get_or, Option, Some, None}
use Rattle.laws.specs.Choice.{pick}
use Rattle.numbers.specs.declared.Order.TheVariants.{HighFirst}
use Rattle.numbers.specs.Bytes.{number_of}
use Rattle.parts_old58.specs.declared.Pack.{Pack}
use Rattle.parts_old58.specs.declared.Extremes.{Extremes}
use Rattle.parts_old58.specs.declared.Cell.{Cell}
use Rattle.parts_old58.specs.declared.Energy.{Energy}
use Rattle.parts_old58.specs.declared.Setup.{Setup}

-- ---- a byte, and what two or three bytes stand for, the high byte first

abbrev pub byte_at : List ℕ → ℕ → ℕ
byte_at s n = get_or s (n - 1) 0

unfoldable pub two_at : List ℕ → ℕ → ℕ
two_at s n = number_of HighFirst (byte_at s n ∷ byte_at s (n + 1) ∷ [])

unfoldable pub three_at : List ℕ → ℕ → ℕ
three_at s n = number_of HighFirst (byte_at s n ∷ byte_at s (n + 1) ∷ byte_at s (n + 2) ∷ [])

-- 5 mV a count
unfoldable pub volts_at : List ℕ → ℕ → ℕ
volts_at s n = 5 * two_at s n

-- the count minus 276
unfoldable pub degrees_at : List ℕ → ℕ → ℤ
degrees_at s n = pos (two_at s n) -ℤ pos 276

-- a current of 125 mA a count: + is positive, - negative, X missing whatever the count; another sign is refused before (`ranged`)
unfoldable pub current_of : ℕ → ℕ → Option ℤ
current_of sign n =
    pick (eqb sign 0x2B) (Some (pos (125 * n)))
    (pick (eqb sign 0x2D) (Some (neg_ℤ (pos (125 * n))))
    None)

-- a sign byte, then the count
unfoldable pub current_at : List ℕ → ℕ → Option ℤ
current_at s n = current_of (byte_at s n) (two_at s (n + 1))

-- ---- the table

unfoldable pub pack_of : List ℕ → Pack
pack_of s =
    record {
      total_mv = 5 * three_at s 1;
      current_ma = current_at s 4;
      current2_ma = current_at s 7;
      current3_ma = current_at s 10;
    }

unfoldable pub extremes_of : List ℕ → Extremes
extremes_of s =
    record {
      lowest_mv = volts_at s 13;
      lowest_cell = byte_at s 15;
      highest_mv = volts_at s 16;
      highest_cell = byte_at s 18;
      coldest_c = degrees_at s 19;
      coldest_cell = byte_at s 21;
      hottest_c = degrees_at s 22;
      hottest_cell = byte_at s 24;
    }

unfoldable pub cell_of : List ℕ → Cell
cell_of s =
    record {
      cell = byte_at s 25;
      cells = byte_at s 26;
      cell_mv = volts_at s 27;
      cell_c = degrees_at s 29;
      status = byte_at s 31;
    }

unfoldable pub energy_of : List ℕ → Energy
energy_of s =
    record {
      collected_today_wh = three_at s 32;
      stored_wh = three_at s 35;
      consumed_today_wh = three_at s 38;
      soc_percent = byte_at s 41;
      collected_kwh = three_at s 42;
      consumed_kwh = three_at s 45;
    }

-- the three voltage settings stay counts, "since step and example disagree"
unfoldable pub setup_of : List ℕ → Setup
setup_of s =
    record {
      hour = byte_at s 48;
      minute = byte_at s 49;
      capacity_100wh = two_at s 50;
      vmin_count = two_at s 52;
      vmax_count = two_at s 54;
      vbypass_count = two_at s 56;
    }
