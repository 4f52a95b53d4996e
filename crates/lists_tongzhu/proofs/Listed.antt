-- The lists of a monitor 3 in a row: they fill their places, and stand there where the row has all 80.
-- Assumes nothing.
use mathlib.Core.Path.{◌≡◌, ◌∙◌}
use mathlib.Core.List.{List}
use Prim.Native.Nat.{ℕ, ◌+◌, ◌*◌, ◌≤◌}
use borrow.Author.Tests.{le-ltb}
use lib.IntN.{ℤ, pos}
use lib.ListN.{length, get_or, length-map}
use Rattle.exports_answers.proofs.Placing.{Sizes}
use Rattle.monitor3_tongzhu.specs.declared.Lists.{Lists}
use Rattle.monitor3_tongzhu.specs.Values.{number_at, temperature_at}
use Rattle.monitor3_tongzhu.specs.Layout.{places_at, lists_in, lists_at}
use Rattle.monitor3_tongzhu.proofs.Shapes.{places_within}
use Rattle.lists_tongzhu.specs.Lists.{list_parts, list_sizes, placed_lists, listed}
use Rattle.lists_tongzhu.proofs.Filled.{places_length}

pub lists_sized : (p : List ℕ) → Sizes (list_parts (lists_at p 0)) list_sizes
unfolding lists_in
lists_sized p =
    let w = places_at p 0 in
    let l = lists_at p 0 in
    let b = places_within p 0 in
    let cells = places_length 32 0 (λ (i : ℕ). number_at p (w.cells_from + 2 * i)) w.cells b.few_cells in
    let balance = places_length 4 0 (λ (i : ℕ). get_or p (w.balance_from + i) 0) w.balance b.few_flags in
    let sensors = places_length 16 (pos 0) (λ (i : ℕ). temperature_at p (w.sensors_from + i)) w.sensors b.few_sensors in
    let mosfets = places_length 16 (pos 0) (λ (i : ℕ). temperature_at p (w.mosfets_from + i)) w.mosfets b.few_mosfets in
    (length-map l.cells pos ∙ cells, (length-map l.balance pos ∙ balance, (sensors, (mosfets, tt))))

module _ (l : Lists) (row : List ℤ) where
  pub listed_all : 80 ≤ length row → placed_lists l row ≡ listed l row
  unfolding listed
  listed_all h = simp (le-ltb _ _ h)
