-- The slots by their places, as the code has them (01, Restore): "a pair at the place of its lower number". Assumes nothing.
use Rattle.std.specs.Prelude.{List, [], ◌∷◌, ℕ, eqb, Option, Some, None}
use Rattle.laws.specs.Choice.{pick}
use Rattle.restore_order.specs.Slots.{Slot, alone, pair, place, slots}

-- the pair of these slots that has its place at n
abbrev pub pair_in : List Slot → ℕ → Option (ℕ × ℕ)
pair_in [] n = None
pair_in (alone m ∷ s) n = pair_in s n
pair_in (pair u l ∷ s) n = pick (eqb n (place (pair u l))) (Some (u, l)) (pair_in s n)

unfoldable pub place_at : ℕ → Option (ℕ × ℕ)
place_at n = pair_in slots n

-- as a slot
abbrev pub slot_for : ℕ → Option (ℕ × ℕ) → List Slot
slot_for n (Some p) = pair p.0 p.1 ∷ []
slot_for n None = alone n ∷ []

abbrev pub slot_at : ℕ → List Slot
slot_at n = slot_for n (place_at n)
