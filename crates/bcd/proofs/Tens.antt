-- A number that was written as BCD is read back, and a byte that was read is written again: tests that antt computes over 100 numbers and 256 bytes.
-- Assumes nothing.
use mathlib.Core.Path.{◌≡◌, ap}
use mathlib.Core.Bool.{Bool, true, false}
use Prim.Native.Nat.{ℕ, ◌<◌}
use lib.Dec.{T, eqb, eqb→eq}
use Rattle.std.specs.Prelude.{Option, Some, None}
use Rattle.std.specs.Option.{option_and_then}
use Rattle.laws.specs.Every.{every}
use Rattle.laws.proofs.Every.{each}
use Rattle.bcd.specs.Decimal.{bcd_of, bcd_byte}

-- the test that the answer is n
is_of : Option ℕ → ℕ → Bool
is_of (Some v) n = eqb v n
is_of None n = false

is : (d : Option ℕ) (n : ℕ) → T (is_of d n) → d ≡ Some n
unfolding is_of
is (Some v) n t = ap Some (eqb→eq v n t)
is None n t = absurd t

back : ℕ → Bool
back n = is_of (option_and_then bcd_of (bcd_byte n)) n

pub bcd_reads_back : (n b : ℕ) → n < 100 → bcd_byte n ≡ Some b → bcd_of b ≡ Some n
unfolding back is_of every bcd_byte bcd_of
bcd_reads_back n b h e = is (bcd_of b) n (rw e at (each back 100 tt n h))

-- a byte that is no BCD has nothing to write back
again : Option ℕ → ℕ → Bool
again (Some v) b = is_of (bcd_byte v) b
again None b = true

same : ℕ → Bool
same b = again (bcd_of b) b

pub bcd_writes_back : (b n : ℕ) → b < 256 → bcd_of b ≡ Some n → bcd_byte n ≡ Some b
unfolding same again is_of every bcd_byte bcd_of
bcd_writes_back b n h e = is (bcd_byte n) b (rw e at (each same 256 tt b h))
