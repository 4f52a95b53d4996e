-- How often a frame is among those sent: as often as its register is in the log, since frames that write different registers are different bytes.
-- By induction over the log. Assumes nothing.
use mathlib.Core.Path.{◌≡◌, refl, sym, ap, ap₂, ◌∙◌}
use mathlib.Core.Bool.{Bool, true, false, ◌&&◌}
use mathlib.Core.List.{List, [], ◌∷◌, map}
use Prim.Native.Nat.{ℕ, ◌+◌}
use lib.IntN.{ℤ}
use lib.Dec.{eqb}
use lib.ListN.{drop}
use borrow.Author.Tests.{eqb-true, eq-eqb}
use Rattle.frames_written_pathfinder.specs.Writing.{frame_bytes}
use Rattle.restore_order.specs.Slots.{one, times}
use Rattle.restore_pathfinder.specs.Demands.{same_bytes, occurrences, frame_to}

same_self : (s : List ℕ) → same_bytes s s ≡ true
unfolding same_bytes
same_self [] = refl
same_self (a ∷ s) = rw (eq-eqb a a refl, same_self s)

module _ (w : List ℤ) where
  -- a frame after its register
  abbrev rest : ℕ → List ℕ
  rest r = drop 4 (frame_to w r)

  by_register : (n r : ℕ) (b : Bool) → eqb n r ≡ b → same_bytes (frame_to w n) (frame_to w r) ≡ b
  unfolding same_bytes frame_bytes
  by_register n r true e = ap (λ (m : ℕ). same_bytes (frame_to w n) (frame_to w m)) (sym (eqb-true n r e)) ∙ same_self (frame_to w n)
  by_register n r false e = ap (λ (b : Bool). b && same_bytes (rest n) (rest r)) e

  pub occurrences_are : (n : ℕ) (log : List ℕ) → occurrences (frame_to w n) (map (frame_to w) log) ≡ times n log
  unfolding occurrences times
  occurrences_are n [] = refl
  occurrences_are n (r ∷ log) = ap₂ (λ (a b : ℕ). a + b) (ap one (by_register n r (eqb n r) refl)) (occurrences_are n log)
