-- What the order of writes gives (01, Restore): the first of the writes to come.
-- Assumes nothing.
use Rattle.std.specs.Prelude.{List, [], ◌∷◌, ℕ, ℤ, Option, Some, None}
use Rattle.restore_order.specs.Slots.{differs, only_if}

abbrev pub first_of : List ℕ → Option ℕ
first_of [] = None
first_of (r ∷ rest) = Some r

-- of two settings those that are to be written, in this order
abbrev pub in_turn : List ℤ → List ℤ → ℕ → ℕ → List ℕ
in_turn p w n m = only_if (differs p w n) n (only_if (differs p w m) m [])
