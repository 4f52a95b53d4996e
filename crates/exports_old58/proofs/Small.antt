-- What 001's bytes can count to is below 2 ^ 31: three bytes are below 2 ^ 24, and a voltage is five times what its bytes count.
-- Assumes nothing.
use mathlib.Core.List.{List}
use Prim.Native.Nat.{ℕ, ◌+◌, ◌-◌, ◌<◌}
use native.Mathlib.Omega.{arith}
use lib.ListN.{get_or}
use mir.Syntax.{w8}
use mir.Val.{Fits}
use Rattle.parts_old58.specs.Parts.{two_at, three_at, volts_at, pack_of, extremes_of, cell_of, energy_of}
use Rattle.exports_old58.specs.Records.{SmallEnergy}

module _ (s : List ℕ) (byte : (i : ℕ) → Fits w8 (get_or s i 0)) where
  three_small : (n : ℕ) → three_at s n < 16777216
  unfolding three_at
  three_small n = omega (arith, byte (n - 1), byte (n + 1 - 1), byte (n + 2 - 1))

  volts_small : (n : ℕ) → volts_at s n < 2147483648
  unfolding volts_at two_at
  volts_small n = omega (arith, byte (n - 1), byte (n + 1 - 1))

  pub pack_small : (pack_of s).total_mv < 2147483648
  unfolding pack_of
  pack_small = omega (arith, three_small 1)

  pub extremes_small : ((extremes_of s).lowest_mv < 2147483648) × ((extremes_of s).highest_mv < 2147483648)
  unfolding extremes_of
  extremes_small = (volts_small 13, volts_small 16)

  pub cell_small : (cell_of s).cell_mv < 2147483648
  unfolding cell_of
  cell_small = volts_small 27

  pub energy_small : SmallEnergy (energy_of s)
  unfolding energy_of
  energy_small = record {
    today = omega (arith, three_small 32);
    stored = omega (arith, three_small 35);
    used = omega (arith, three_small 38);
    gathered = omega (arith, three_small 42);
    consumed = omega (arith, three_small 45);
  }
