-- Signed numbers that were handed on: a variable holds a number's 32 bits, which read back as the number.
-- Assumes nothing.
use mathlib.Core.Path.{◌≡◌, refl, sym, ap, ◌∙◌}
use mathlib.Core.Bool.{Bool, true, false}
use Prim.Native.Nat.{◌<◌}
use lib.IntN.{ℤ}
use lib.Dec.{eqb}
use lib.Signed.{mag}
use mir.Syntax.{w32}
use mir.Val.{of_z, to_z}
use mir.ValLaws.{to_z-of_z}
use borrow.Author.Tests.{eq-eqb, ne_eqb}
use Rattle.restore_order.specs.Slots.{eq_z}
use Rattle.restore_order.proofs.Integers.{clash, eq_z_true, eq_z_refl}

-- a number that was read out of an array or a slice, and passed on
pub from_bits : (z : ℤ) → mag z < 2147483648 → to_z w32 (of_z w32 z) ≡ z
from_bits z h = to_z-of_z w32 z (record { sfits = h })

-- the code's test of two numbers goes by their bits
pub same_bits : (a b : ℤ) → mag a < 2147483648 → mag b < 2147483648 → eqb (of_z w32 a) (of_z w32 b) ≡ eq_z a b
same_bits a b fa fb = go (eq_z a b) refl
  where
    go : (t : Bool) → eq_z a b ≡ t → eqb (of_z w32 a) (of_z w32 b) ≡ t
    go true h = eq-eqb (of_z w32 a) (of_z w32 b) (ap (of_z w32) (eq_z_true a b h))
    go false h =
        ne_eqb (of_z w32 a) (of_z w32 b)
        (λ q.
        let e : a ≡ b = sym (from_bits a fa) ∙ ap (to_z w32) q ∙ from_bits b fb in
        let y : eq_z a b ≡ true = rw e (eq_z_refl b) in
        clash y h)
