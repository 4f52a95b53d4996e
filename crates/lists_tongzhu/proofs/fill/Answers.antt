-- `lists_tongzhu::fill` meets its contract: each call fills the places of one list, which is to place it.
-- Assumes nothing.
use Prim.Native.Nat.{ℕ, ◌+◌, ◌*◌}
use mathlib.Core.Path.{sym, ap, ap₂, ◌∙◌}
use lib.IntN.{pos}
use lib.ListN.{length, get_or}
use Rattle.monitor3_tongzhu.proofs.Shapes.{places_within}
use Rattle.monitor3_tongzhu.specs.declared.Places.{Places}
use Rattle.monitor3_tongzhu.specs.Values.{number_at, temperature_at, places_of}
use Rattle.monitor3_tongzhu.specs.Layout.{Within, lists_in}
use Rattle.exports_parts.specs.Parts.{placed}
use Rattle.lists_tongzhu.specs.Lists.{placed_lists}
use Rattle.lists_tongzhu.proofs.Filled.{map_places, part_filled}
use borrow.Author.Rules.{rules}
use Rattle.lists_tongzhu.proofs.fill.Goals as goal

pub returns : goal.returns
unfolding lists_in
returns c =
    let a = c.args in
    let w = c.find_lists-w.result in
    let b : Within (length c.args.p.now) c.find_lists-w.result = let p = c.args.p.now in rw c.find_lists-w.ensures (places_within p 0) in
    part_filled 64 16 _ _ (pos 0) (λ (i : ℕ). temperature_at a.p.now (w.mosfets_from + i)) w.mosfets b.few_mosfets (search rules) c.put_temperatures-2.ensures
    ∙ ap (placed 64 (places_of 16 (pos 0) (λ (i : ℕ). temperature_at a.p.now (w.mosfets_from + i)) w.mosfets)) (
    part_filled 48 16 _ _ (pos 0) (λ (i : ℕ). temperature_at a.p.now (w.sensors_from + i)) w.sensors b.few_sensors (search rules) c.put_temperatures.ensures
    ∙ ap (placed 48 (places_of 16 (pos 0) (λ (i : ℕ). temperature_at a.p.now (w.sensors_from + i)) w.sensors)) (
    part_filled 44 4 _ _ (pos 0) (λ (i : ℕ). pos (get_or a.p.now (w.balance_from + i) 0)) w.balance b.few_flags (search rules) c.put_flags.ensures
    ∙ ap₂ (placed 44) (sym (map_places pos 4 0 (λ (i : ℕ). get_or a.p.now (w.balance_from + i) 0) w.balance)) (
    part_filled 12 32 _ _ (pos 0) (λ (i : ℕ). pos (number_at a.p.now (w.cells_from + 2 * i))) w.cells b.few_cells (search rules) c.put_voltages.ensures
    ∙ ap (λ l. placed 12 l a.row.now) (sym (map_places pos 32 0 (λ (i : ℕ). number_at a.p.now (w.cells_from + 2 * i)) w.cells)))))
    ∙ ap (λ (v : Places). placed_lists (lists_in a.p.now v) a.row.now) c.find_lists-w.ensures
