-- What an opening's tests give (01, Restore; 02, request 2): the verdict, what each value must be, how a pair must stand.
-- Assumes nothing.
use Rattle.std.specs.Prelude.{Bool, true, List, ℕ, ℤ, Option, Some, None, Result, Ok, Err}
use Rattle.std.specs.Int.Signed.{lt_z}
use Rattle.refusals.specs.declared.Refusal.{Refusal}
use Rattle.laws.specs.Choice.{pick}
use Rattle.registers_pathfinder.specs.Registers.{fits_type}
use Rattle.restore_order.specs.Slots.{slots, at, eq_z, is_in}
use Rattle.restore_order.specs.Opening.{pathfinder, Opened, opened, unopened, allows}

abbrev pub verdict_of : Opened → Result Unit Refusal
verdict_of (opened m) = Ok tt
verdict_of (unopened why) = Err why

-- a fixed setting is wanted as it is
abbrev pub unmoved : ℕ → ℤ → ℤ → Bool
unmoved n to from = pick (is_in n slots) true (eq_z to from)

-- a wanted value is in its register's range and of its setting's type, unless the setting is fixed
abbrev pub writable : ℕ → ℤ → Bool
writable n v = pick (is_in n slots) (allows pathfinder n v) true

-- what each of the values must be: a wanted one such, a present one of its setting's type
abbrev pub fits : Bool → ℕ → ℤ → Bool
fits wanted n v = pick wanted (writable n v) (fits_type n v)

-- what has its place at a setting stands right: a pair has its upper member strictly above its lower one
abbrev pub upright : List ℤ → Option (ℕ × ℕ) → Bool
upright p (Some q) = lt_z (at p q.1) (at p q.0)
upright p None = true
