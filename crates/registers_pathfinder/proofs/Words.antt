-- A register that takes a value is one, and a value of a setting's type is a 32-bit word. Assumes nothing.
use mathlib.Core.Path.{◌≡◌, refl}
use mathlib.Core.Bool.{true}
use Prim.Native.Nat.{ℕ, ◌<◌}
use native.Mathlib.Omega.{arith}
use lib.IntN.{ℤ, pos, negsuc}
use lib.Dec.{lit<}
use lib.Signed.{le_z, mag}
use borrow.Author.Tests.{leb-true}
use Rattle.std.specs.Prelude.{Option, Some, None, is_some, Result, Ok, Err}
use Rattle.refusals.specs.declared.Refusal.{Refusal}
use Rattle.laws.proofs.Ladders.{both}
use Rattle.types_pathfinder.specs.declared.RowType.{RowType}
use Rattle.types_pathfinder.specs.declared.RowType.TheVariants as types
use Rattle.types_pathfinder.specs.Types.{type_at}
use Rattle.registers_pathfinder.specs.declared.Register.{Register}
use Rattle.registers_pathfinder.specs.Registers.{register_at, taken_by, is_register, in_range, limits_of, value_of, fits_type}

known : (x : Option Register) (v : ℤ) → taken_by x v ≡ true → is_some x ≡ true
known (Some x) v e = refl
known None v e = e

pub in_range_known : (r : ℕ) (v : ℤ) → in_range r v ≡ true → is_register r ≡ true
unfolding in_range is_register
in_range_known r v e = known (register_at r) v e

-- between two numbers of 32 bits
between_words : (l v h : ℤ) (k : ℕ) → le_z l v ≡ true → le_z v h ≡ true → mag l < k → mag h < k → mag v < k
between_words l (pos n) (pos m) k a b x y = omega (arith, leb-true n m b)
between_words l (pos n) (negsuc m) k a b x y = let z : ◌≡◌ {A = ℕ} 0 1 = cc in absurd (omega arith)
between_words (pos m) (negsuc n) h k a b x y = let z : ◌≡◌ {A = ℕ} 0 1 = cc in absurd (omega arith)
between_words (negsuc m) (negsuc n) h k a b x y = omega (arith, leb-true n m a)

abbrev Small : ℤ → Type 0
Small v = mag v < 2147483648

limits_small : (k : RowType) → Small (limits_of k).0 × Small (limits_of k).1
limits_small types.U8 = (lit< tt, lit< tt)
limits_small types.I8 = (lit< tt, lit< tt)
limits_small types.U16 = (lit< tt, lit< tt)
limits_small types.I16 = (lit< tt, lit< tt)
limits_small types.U32 = (lit< tt, lit< tt)
limits_small types.I32 = (lit< tt, lit< tt)
limits_small types.Bool = (lit< tt, lit< tt)
limits_small types.TenMillivolts = (lit< tt, lit< tt)
limits_small types.Bits = (lit< tt, lit< tt)
limits_small types.Count = (lit< tt, lit< tt)

value_word : (k : Result RowType Refusal) (v : ℤ) → value_of k v ≡ true → mag v < 2147483648
value_word (Ok kind) v e =
    let limits = limits_of kind in
    let b = both (le_z limits.0 v) (le_z v limits.1) e in
    let s = limits_small kind in
    between_words limits.0 v limits.1 2147483648 b.0 b.1 s.0 s.1
value_word (Err why) v e = absurd cc

pub fits_word : (n : ℕ) (v : ℤ) → fits_type n v ≡ true → mag v < 2147483648
unfolding fits_type
fits_word n v e = value_word (type_at 0x02 n) v e
