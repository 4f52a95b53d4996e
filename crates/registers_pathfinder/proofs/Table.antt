-- Which registers there are, and that each range lies within its type (02, request 2): "All registers of the target table in 000 become writable, with
-- its ranges." One computed test each. Assumes nothing.
use mathlib.Core.Path.{◌≡◌, refl, sym, ap}
use mathlib.Core.Bool.{Bool, true, ◌&&◌}
use mathlib.Core.Logic.{◌⊎◌, ⊎_elim}
use Prim.Native.Nat.{ℕ, ◌≤◌}
use native.Mathlib.Omega.{arith}
use lib.IntN.{pos}
use lib.ListN.{get_or-eq_default}
use Rattle.std.specs.Prelude.{Option, Some, None}
use Rattle.laws.specs.Every.{every}
use Rattle.laws.proofs.Tables.{along}
use Rattle.registers_pathfinder.specs.declared.Register.{Register}
use Rattle.registers_pathfinder.specs.declared.Register.TheVariants.{U8, I8, U16, I16, U32}
use Rattle.registers_pathfinder.specs.Registers.{minus, registers, register_at, within, is_register}

-- the minimum is no smaller than the type's smallest value, the maximum no larger than its largest, and the one not above the other
abbrev sound : Register → Bool
sound (U8 least most) = within (pos 0) most least && within least (pos 255) most
sound (I8 least most) = within (minus 128) most least && within least (pos 127) most
sound (U16 least most) = within (pos 0) most least && within least (pos 65535) most
sound (I16 least most) = within (minus 32768) most least && within least (pos 32767) most
sound (U32 least most) = within (pos 0) most least && within least (pos 4294967295) most

-- where there is no register, there is nothing to be sound
abbrev sound_at : Option Register → Bool
sound_at (Some x) = sound x
sound_at None = true

pub ranges_sound : every 52 (λ r. sound_at (register_at r)) ≡ true
unfolding every registers
ranges_sound = refl

-- 0 to 46 and 48 to 51
pub known : (r : ℕ) → (r ≤ 46) ⊎ ((48 ≤ r) × (r ≤ 51)) → is_register r ≡ true
unfolding is_register registers
known r h =
    ⊎_elim (λ (b : r ≤ 46). sym (along is_register true 0 47 r refl (omega arith) (omega arith)))
    (λ (b : (48 ≤ r) × (r ≤ 51)). sym (along is_register true 48 4 r refl b.0 (omega (arith, b.1)))) h

-- 47 is reserved, and so unknown, as 52 and above are
pub unknown : (r : ℕ) → (r ≡ 47) ⊎ (52 ≤ r) → register_at r ≡ None
unfolding registers
unknown r h = ⊎_elim (λ (e : r ≡ 47). ap register_at e) (λ (b : 52 ≤ r). get_or-eq_default registers None b) h
