-- A count so far: what the loop over the settings cites.
-- Assumes nothing.
use mathlib.Core.Path.{◌≡◌, refl}
use mathlib.Core.Bool.{Bool}
use Prim.Native.Nat.{ℕ, ◌+◌}
use native.Mathlib.Numerals.{add-one}
use Rattle.restore_order.specs.Slots.{one, how_many}

module _ (f : ℕ → Bool) where
  pub none_counted : how_many 0 f ≡ 0
  unfolding how_many
  none_counted = refl

  pub one_more : (n : ℕ) (b : Bool) → f n ≡ b → how_many (n + 1) f ≡ how_many n f + one b
  unfolding how_many
  one_more n b e = rw (add-one, e)
